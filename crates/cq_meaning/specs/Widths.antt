-- The widths in bits that the binder gives to expressions. A value of width w lies from -2^(w-1) to 2^(w-1), and no width is above
-- 127. Here the bits of a value are its width without the sign's bit: w - 1, so at most 126.
use Rattle.std.specs.Prelude.{◌≡◌, ◌≢◌, ℕ, zero, suc, pos, ◌+◌, ◌/◌, ◌^◌, ◌≤◌, ◌<◌, max, ⊤, List, [], ◌∷◌, ◌++◌, map, take, length, replicate, Bool, true, false, nat_eq, if◌then◌else◌, unsigned_abs, slice_index_or}
use Rattle.std.specs.List.{AllByRecursion}
use Rattle.cq_value.specs.declared.value.Value.{Value}
use Rattle.cq_value.specs.declared.value.Value.TheVariants.{Null, Int, Text}
use Rattle.cq_value.specs.declared.schema.Kind.{Kind}
use Rattle.cq_value.specs.declared.schema.Kind.TheVariants as kind
use Rattle.cq_tree.specs.declared.expression.Expr.{Expr, Literal, Column, Neg', Add', Sub', Mul', Div', Rem', Case', Coalesce', Row_of-Expr, end_of-Expr, more_of-Expr, Row_of-Arm, end_of-Arm, more_of-Arm}
use Rattle.cq_tree.specs.declared.expression.Cond.{Cond, Compare, IsNull, InResult, And', Or', Not', Always, end_of-Cond, more_of-Cond}
use Rattle.cq_tree.specs.declared.query.Agg.{Agg}
use Rattle.cq_tree.specs.declared.query.Agg.TheVariants as agg
use Rattle.cq_tree.specs.declared.query.FromTree.{FromTree, Table, Result, Cross', Inner', Left', end_of-FromTree, more_of-FromTree, end_of-Query, more_of-Query}
use Rattle.cq_tree.specs.declared.query.FromTree as tree
use Rattle.cq_tree.specs.declared.query.Query.{Query, Query'}
use Rattle.cq_tree.specs.declared.write.ShardOp.{ShardOp}
use Rattle.cq_tree.specs.declared.write.ShardOp.TheVariants.{Insert, Update, Remove}
use Rattle.cq_meaning.specs.declared.Columns.{Columns}
use Rattle.cq_meaning.specs.Values.{Row, Results, Tables, table_rows, result_at}

-- how many binary digits n has, if it has at most so many
abbrev pub digits_in : ℕ → ℕ → ℕ
digits_in zero n = 0
digits_in (suc most) n = if nat_eq n 0 then 0 else suc (digits_in most (n / 2))

abbrev pub bits_of_value : Value → ℕ
bits_of_value Null = 0
bits_of_value (Int x) = digits_in 128 (unsigned_abs x)
bits_of_value (Text t) = 0

-- of a column
abbrev pub bits_of_kind : Kind → ℕ
bits_of_kind kind.Bigint = 63
bits_of_kind kind.Integer = 31
bits_of_kind kind.Text = 0

-- of an expression, given those of the columns
abbrev mutual
  pub bits : List ℕ → Expr → ℕ
  bits ks (Literal v) = bits_of_value v
  bits ks (Column at) = slice_index_or ks at 0
  bits ks (Neg' p (more_of-Expr e end_of-Expr)) = bits ks e + 1
  bits ks (Add' p (more_of-Expr a end_of-Expr) q (more_of-Expr b end_of-Expr)) = max (bits ks a) (bits ks b) + 1
  bits ks (Sub' p (more_of-Expr a end_of-Expr) q (more_of-Expr b end_of-Expr)) = max (bits ks a) (bits ks b) + 1
  bits ks (Mul' p (more_of-Expr a end_of-Expr) q (more_of-Expr b end_of-Expr)) = bits ks a + bits ks b
  bits ks (Div' p (more_of-Expr e end_of-Expr) c) = bits ks e + 1
  bits ks (Rem' p (more_of-Expr e end_of-Expr) c) = bits ks e
  bits ks (Case' shape arms p (more_of-Expr other end_of-Expr)) = max (bits_of_arms ks arms) (bits ks other)
  bits ks (Coalesce' shape es) = bits_of_all ks es

  pub bits_of_arms : List ℕ → {n : _} → Row_of-Arm n → ℕ
  bits_of_arms ks end_of-Arm = 0
  bits_of_arms ks (more_of-Arm c e more) = max (bits ks e) (bits_of_arms ks more)

  pub bits_of_all : List ℕ → {n : _} → Row_of-Expr n → ℕ
  bits_of_all ks end_of-Expr = 0
  bits_of_all ks (more_of-Expr e more) = max (bits ks e) (bits_of_all ks more)

-- a count is at most 2^31, and a sum is one of at most 2^31 values
abbrev pub bits_of_aggregate : List ℕ → Agg → ℕ
bits_of_aggregate ks agg.CountAll = 31
bits_of_aggregate ks (agg.Count e) = 31
bits_of_aggregate ks (agg.Sum e) = bits ks e + 31
bits_of_aggregate ks (agg.Min e) = bits ks e
bits_of_aggregate ks (agg.Max e) = bits ks e

-- of a group's keys and aggregates
abbrev pub group_bits : List ℕ → List Expr → List Agg → List ℕ
group_bits ks keys aggs = map (bits ks) keys ++ map (bits_of_aggregate ks) aggs

-- of what the items of a query stand on
abbrev pub input_bits : List ℕ → Bool → List Expr → List Agg → List ℕ
input_bits ks false keys aggs = ks
input_bits ks true keys aggs = group_bits ks keys aggs

-- of the columns of a table
abbrev pub table_bits : List (ℕ × List ℕ) → ℕ → List ℕ
table_bits [] t = []
table_bits (p ∷ ps) t = if nat_eq p.0 t then p.1 else table_bits ps t

abbrev mutual
  -- of the columns of a FROM
  pub from_bits : Columns → FromTree → List ℕ
  from_bits cs (Table t n) = table_bits cs.tables t
  from_bits cs (tree.Sub' p (more_of-Query q end_of-Query)) = output_bits cs q
  from_bits cs (Result i n) = slice_index_or cs.results i []
  from_bits cs (Cross' p (more_of-FromTree a end_of-FromTree) q (more_of-FromTree b end_of-FromTree)) = from_bits cs a ++ from_bits cs b
  from_bits cs (Inner' p (more_of-FromTree a end_of-FromTree) q (more_of-FromTree b end_of-FromTree) on) = from_bits cs a ++ from_bits cs b
  from_bits cs (Left' p (more_of-FromTree a end_of-FromTree) q (more_of-FromTree b end_of-FromTree) on) = from_bits cs a ++ from_bits cs b

  -- of the outputs of a query
  pub output_bits : Columns → Query → List ℕ
  output_bits cs (Query' ts ctes ss subs from filter_ grouped keys aggs having items shown distinct order limit offset names) =
      take shown (map (bits (input_bits (from_bits cs from) grouped keys aggs)) items)

-- what the binder lets through: columns and results are in place, divisors aren't 0, and no width is above 127

abbrev pub IsBelow : ℕ → Value → Type 0
IsBelow k Null = ⊤
IsBelow k (Int x) = unsigned_abs x ≤ 2 ^ k
IsBelow k (Text t) = ⊤

-- n is the number of results
abbrev mutual
  pub IsBound : List ℕ → ℕ → Expr → Type 0
  IsBound ks n (Literal v) = IsBelow (bits_of_value v) v
  IsBound ks n (Column at) = at < length ks
  IsBound ks n (Neg' p (more_of-Expr e end_of-Expr)) = IsBound ks n e × (bits ks e + 1 ≤ 126)
  IsBound ks n (Add' p (more_of-Expr a end_of-Expr) q (more_of-Expr b end_of-Expr)) = IsBound ks n a × IsBound ks n b × (max (bits ks a) (bits ks b) + 1 ≤ 126)
  IsBound ks n (Sub' p (more_of-Expr a end_of-Expr) q (more_of-Expr b end_of-Expr)) = IsBound ks n a × IsBound ks n b × (max (bits ks a) (bits ks b) + 1 ≤ 126)
  IsBound ks n (Mul' p (more_of-Expr a end_of-Expr) q (more_of-Expr b end_of-Expr)) = IsBound ks n a × IsBound ks n b × (bits ks a + bits ks b ≤ 126)
  IsBound ks n (Div' p (more_of-Expr e end_of-Expr) c) = IsBound ks n e × (bits ks e + 1 ≤ 126) × (c ≢ pos 0)
  IsBound ks n (Rem' p (more_of-Expr e end_of-Expr) c) = IsBound ks n e × (bits ks e ≤ 126) × (c ≢ pos 0)
  IsBound ks n (Case' shape arms p (more_of-Expr other end_of-Expr)) = AreBoundArms ks n arms × IsBound ks n other
  IsBound ks n (Coalesce' shape es) = AreBound ks n es

  pub AreBoundArms : List ℕ → ℕ → {m : _} → Row_of-Arm m → Type 0
  AreBoundArms ks n end_of-Arm = ⊤
  AreBoundArms ks n (more_of-Arm c e more) = IsBoundCondition ks n c × IsBound ks n e × AreBoundArms ks n more

  pub AreBound : List ℕ → ℕ → {m : _} → Row_of-Expr m → Type 0
  AreBound ks n end_of-Expr = ⊤
  AreBound ks n (more_of-Expr e more) = IsBound ks n e × AreBound ks n more

  pub IsBoundCondition : List ℕ → ℕ → Cond → Type 0
  IsBoundCondition ks n (Compare op a b) = IsBound ks n a × IsBound ks n b
  IsBoundCondition ks n (IsNull e) = IsBound ks n e
  IsBoundCondition ks n (InResult e i) = IsBound ks n e × (i < n)
  IsBoundCondition ks n (And' p (more_of-Cond a end_of-Cond) q (more_of-Cond b end_of-Cond)) = IsBoundCondition ks n a × IsBoundCondition ks n b
  IsBoundCondition ks n (Or' p (more_of-Cond a end_of-Cond) q (more_of-Cond b end_of-Cond)) = IsBoundCondition ks n a × IsBoundCondition ks n b
  IsBoundCondition ks n (Not' p (more_of-Cond a end_of-Cond)) = IsBoundCondition ks n a
  IsBoundCondition ks n Always = ⊤

abbrev pub IsBoundAggregate : List ℕ → ℕ → Agg → Type 0
IsBoundAggregate ks n agg.CountAll = ⊤
IsBoundAggregate ks n (agg.Count e) = IsBound ks n e
IsBoundAggregate ks n (agg.Sum e) = IsBound ks n e × (bits ks e + 31 ≤ 126)
IsBoundAggregate ks n (agg.Min e) = IsBound ks n e
IsBoundAggregate ks n (agg.Max e) = IsBound ks n e

-- what follows FROM
abbrev pub AreBoundItems : List ℕ → ℕ → Cond → Bool → List Expr → List Agg → Cond → List Expr → Type 0
AreBoundItems ks n filter_ false keys aggs having items = IsBoundCondition ks n filter_ × AllByRecursion (IsBound ks n) items
AreBoundItems ks n filter_ true keys aggs having items =
    IsBoundCondition ks n filter_ × AllByRecursion (IsBound ks n) keys × AllByRecursion (IsBoundAggregate ks n) aggs
    × IsBoundCondition (group_bits ks keys aggs) n having × AllByRecursion (IsBound (group_bits ks keys aggs) n) items

abbrev mutual
  -- a FROM behind columns of these bits, over all of which an ON may speak. The leaves have their number of columns
  pub IsBoundFrom : Columns → List ℕ → FromTree → Type 0
  IsBoundFrom cs ahead (Table t n) = n ≡ length (table_bits cs.tables t)
  IsBoundFrom cs ahead (tree.Sub' p (more_of-Query q end_of-Query)) = IsBoundQuery cs q
  IsBoundFrom cs ahead (Result i n) = n ≡ length (slice_index_or cs.results i [])
  IsBoundFrom cs ahead (Cross' p (more_of-FromTree a end_of-FromTree) q (more_of-FromTree b end_of-FromTree)) = IsBoundFrom cs ahead a × IsBoundFrom cs (ahead ++ from_bits cs a) b
  IsBoundFrom cs ahead (Inner' p (more_of-FromTree a end_of-FromTree) q (more_of-FromTree b end_of-FromTree) on) =
      IsBoundFrom cs ahead a × IsBoundFrom cs (ahead ++ from_bits cs a) b × IsBoundCondition (ahead ++ (from_bits cs a ++ from_bits cs b)) (length cs.results) on
  IsBoundFrom cs ahead (Left' p (more_of-FromTree a end_of-FromTree) q (more_of-FromTree b end_of-FromTree) on) =
      IsBoundFrom cs ahead a × IsBoundFrom cs (ahead ++ from_bits cs a) b × IsBoundCondition (ahead ++ (from_bits cs a ++ from_bits cs b)) (length cs.results) on

  pub IsBoundQuery : Columns → Query → Type 0
  IsBoundQuery cs (Query' ts ctes ss subs from filter_ grouped keys aggs having items shown distinct order limit offset names) =
      IsBoundFrom cs [] from × AreBoundItems (from_bits cs from) (length cs.results) filter_ grouped keys aggs having items × (shown ≤ length items)

-- a write to a table of these columns, which has no results
abbrev pub IsBoundWrite : List ℕ → ShardOp → Type 0
IsBoundWrite ks (Insert table rows) = ⊤
IsBoundWrite ks (Update table filter_ sets) = IsBoundCondition ks 0 filter_ × AllByRecursion (λ s. IsBound ks 0 s.value × (s.column < length ks)) sets
IsBoundWrite ks (Remove table filter_) = IsBoundCondition ks 0 filter_

-- rows of these columns

-- each value of a row is within its column's width
abbrev pub Within : List ℕ → Row → Type 0
Within [] [] = ⊤
Within [] (v ∷ vs) = ⊥
Within (k ∷ ks) [] = ⊥
Within (k ∷ ks) (v ∷ vs) = IsBelow k v × Within ks vs

abbrev pub AllWithin : List ℕ → List Row → Type 0
AllWithin ks rows = AllByRecursion (Within ks) rows

-- all rows of tables and of results
pub record Holds (cs : Columns) (db : Tables) (results : Results) : Type 0 where
  pub in_tables : (t : ℕ) → AllWithin (table_bits cs.tables t) (table_rows db t)
  pub in_results : (i : ℕ) → AllWithin (slice_index_or cs.results i []) (result_at results i)
  pub counted : length results ≡ length cs.results

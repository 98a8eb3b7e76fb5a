-- What the evaluation of an expression or a query needs: its columns and results are there, no divisor is 0, and every number on
-- the way fits 128 bits.
use Rattle.std.specs.Prelude.{◌≡◌, ◌≢◌, ◌<◌, ◌+◌, ℕ, pos, ⊤, FitsSigned, List, ◌++◌, map, filter, take, length, replicate, All, Bool, true, false, neg_ℤ, ◌+ℤ◌, ◌-ℤ◌, ◌*ℤ◌, int_div}
use Rattle.std.specs.Int.{w128}
use Rattle.std.specs.List.{list_any}
use Rattle.cq_value.specs.declared.value.Value.{Value}
use Rattle.cq_value.specs.declared.value.Value.TheVariants.{Null, Int, Text}
use Rattle.cq_tree.specs.declared.expression.Expr.{Expr, Literal, Column, Neg', Add', Sub', Mul', Div', Rem', Case', Coalesce', Row_of-Expr, end_of-Expr, more_of-Expr, Row_of-Arm, end_of-Arm, more_of-Arm}
use Rattle.cq_tree.specs.declared.expression.Arm.{Arm}
use Rattle.cq_tree.specs.declared.expression.Cond.{Cond, Compare, IsNull, InResult, And', Or', Not', Always, end_of-Cond, more_of-Cond}
use Rattle.cq_tree.specs.declared.query.Agg.{Agg}
use Rattle.cq_tree.specs.declared.query.Agg.TheVariants as agg
use Rattle.cq_tree.specs.declared.query.FromTree.{FromTree, Table, Result, Cross', Inner', Left', end_of-FromTree, more_of-FromTree, end_of-Query, more_of-Query}
use Rattle.cq_tree.specs.declared.query.FromTree as tree
use Rattle.cq_tree.specs.declared.query.Query.{Query, Query'}
use Rattle.cq_meaning.specs.declared.Group.{Group}
use Rattle.cq_meaning.specs.Values.{Row, Results, Tables}
use Rattle.cq_meaning.specs.Expressions.{of_number, of_numbers, value_of, keeps}
use Rattle.cq_meaning.specs.Groups.{groups_of, group_row, known_values, sum_of}
use Rattle.cq_meaning.specs.Queries.{columns_in, from_rows}
use Rattle.cq_meaning.specs.Limits.{is_large_group, is_large_from}

abbrev pub Fits : Value → Type 0
Fits Null = ⊤
Fits (Int x) = FitsSigned w128 x
Fits (Text t) = ⊤

abbrev mutual
  pub IsSafe : Expr → Row → Results → Type 0
  IsSafe (Literal v) row results = ⊤
  IsSafe (Column at) row results = at < length row
  IsSafe (Neg' p (more_of-Expr e end_of-Expr)) row results = IsSafe e row results × Fits (of_number neg_ℤ (value_of e row results))
  IsSafe (Add' p (more_of-Expr a end_of-Expr) q (more_of-Expr b end_of-Expr)) row results =
      IsSafe a row results × IsSafe b row results × Fits (of_numbers ◌+ℤ◌ (value_of a row results) (value_of b row results))
  IsSafe (Sub' p (more_of-Expr a end_of-Expr) q (more_of-Expr b end_of-Expr)) row results =
      IsSafe a row results × IsSafe b row results × Fits (of_numbers ◌-ℤ◌ (value_of a row results) (value_of b row results))
  IsSafe (Mul' p (more_of-Expr a end_of-Expr) q (more_of-Expr b end_of-Expr)) row results =
      IsSafe a row results × IsSafe b row results × Fits (of_numbers ◌*ℤ◌ (value_of a row results) (value_of b row results))
  IsSafe (Div' p (more_of-Expr e end_of-Expr) c) row results = IsSafe e row results × Fits (of_number (λ x. int_div x c) (value_of e row results)) × (c ≢ pos 0)
  IsSafe (Rem' p (more_of-Expr e end_of-Expr) c) row results = IsSafe e row results × Fits (of_number (λ x. int_div x c) (value_of e row results)) × (c ≢ pos 0)
  IsSafe (Case' shape arms p (more_of-Expr other end_of-Expr)) row results = AreSafeArms arms row results × IsSafe other row results
  IsSafe (Coalesce' shape es) row results = AreSafe es row results

  pub AreSafeArms : {n : _} → Row_of-Arm n → Row → Results → Type 0
  AreSafeArms end_of-Arm row results = ⊤
  AreSafeArms (more_of-Arm c e more) row results = IsSafeCondition c row results × IsSafe e row results × AreSafeArms more row results

  pub AreSafe : {n : _} → Row_of-Expr n → Row → Results → Type 0
  AreSafe end_of-Expr row results = ⊤
  AreSafe (more_of-Expr e more) row results = IsSafe e row results × AreSafe more row results

  pub IsSafeCondition : Cond → Row → Results → Type 0
  IsSafeCondition (Compare op a b) row results = IsSafe a row results × IsSafe b row results
  IsSafeCondition (IsNull e) row results = IsSafe e row results
  IsSafeCondition (InResult e i) row results = IsSafe e row results × (i < length results)
  IsSafeCondition (And' p (more_of-Cond a end_of-Cond) q (more_of-Cond b end_of-Cond)) row results = IsSafeCondition a row results × IsSafeCondition b row results
  IsSafeCondition (Or' p (more_of-Cond a end_of-Cond) q (more_of-Cond b end_of-Cond)) row results = IsSafeCondition a row results × IsSafeCondition b row results
  IsSafeCondition (Not' p (more_of-Cond a end_of-Cond)) row results = IsSafeCondition a row results
  IsSafeCondition Always row results = ⊤

abbrev pub IsSafeArm : Row → Results → Arm → Type 0
IsSafeArm row results arm = IsSafeCondition arm.when row results × IsSafe arm.then row results

-- each expression over each row
abbrev pub AreSafeOver : List Expr → Results → List Row → Type 0
AreSafeOver es results rows = All (λ row. All (λ e. IsSafe e row results) es) rows

-- over the rows of a group. A sum fits after each of them
abbrev pub IsSafeAggregate : Results → List Row → Agg → Type 0
IsSafeAggregate results rows agg.CountAll = ⊤
IsSafeAggregate results rows (agg.Count e) = All (λ row. IsSafe e row results) rows
IsSafeAggregate results rows (agg.Sum e) = All (λ row. IsSafe e row results) rows × ((n : ℕ) → Fits (sum_of (known_values e results (take n rows))))
IsSafeAggregate results rows (agg.Min e) = All (λ row. IsSafe e row results) rows
IsSafeAggregate results rows (agg.Max e) = All (λ row. IsSafe e row results) rows

-- aggregates, HAVING and items over the groups
pub record AreSafeGroups (aggs : List Agg) (having : Cond) (items : List Expr) (results : Results) (groups : List Group) : Type 0 where
  pub aggregates : All (λ g. All (IsSafeAggregate results g.rows) aggs) groups
  pub conditions : All (λ row. IsSafeCondition having row results) (map (group_row aggs results) groups)
  pub values : AreSafeOver items results (filter (keeps having results) (map (group_row aggs results) groups))

-- what follows FROM, over its rows. Groups are asked for nothing where one of them is large, since nothing is computed over them then
abbrev pub AreSafeItems : Cond → Bool → List Expr → List Agg → Cond → List Expr → Results → List Row → Type 0
AreSafeItems filter_ false keys aggs having items results rows =
    All (λ row. IsSafeCondition filter_ row results) rows × AreSafeOver items results (filter (keeps filter_ results) rows)
AreSafeItems filter_ true keys aggs having items results rows =
    All (λ row. IsSafeCondition filter_ row results) rows × AreSafeOver keys results (filter (keeps filter_ results) rows)
    × (list_any is_large_group (groups_of keys results (filter (keeps filter_ results) rows)) ≡ false → AreSafeGroups aggs having items results (groups_of keys results (filter (keeps filter_ results) rows)))

-- an ON over each pair of rows, behind `start` NULLs
abbrev pub IsSafeOn : Cond → ℕ → Results → List Row → List Row → Type 0
IsSafeOn on start results ls rs = All (λ l. All (λ r. IsSafeCondition on (replicate start Null ++ (l ++ r)) results) rs) ls

-- joins and the query itself are asked for nothing where a subquery below has a large group
abbrev mutual
  pub IsSafeFrom : FromTree → ℕ → Tables → Results → Type 0
  IsSafeFrom (Table t n) start db results = ⊤
  IsSafeFrom (tree.Sub' p (more_of-Query q end_of-Query)) start db results = IsSafeQuery q db results
  IsSafeFrom (Result i n) start db results = ⊤
  IsSafeFrom (Cross' p (more_of-FromTree a end_of-FromTree) q (more_of-FromTree b end_of-FromTree)) start db results =
      IsSafeFrom a start db results × IsSafeFrom b (start + columns_in a) db results
  IsSafeFrom (Inner' p (more_of-FromTree a end_of-FromTree) q (more_of-FromTree b end_of-FromTree) on) start db results =
      IsSafeFrom a start db results × IsSafeFrom b (start + columns_in a) db results
      × (is_large_from a db results ≡ false → is_large_from b db results ≡ false → IsSafeOn on start results (from_rows a start db results) (from_rows b (start + columns_in a) db results))
  IsSafeFrom (Left' p (more_of-FromTree a end_of-FromTree) q (more_of-FromTree b end_of-FromTree) on) start db results =
      IsSafeFrom a start db results × IsSafeFrom b (start + columns_in a) db results
      × (is_large_from a db results ≡ false → is_large_from b db results ≡ false → IsSafeOn on start results (from_rows a start db results) (from_rows b (start + columns_in a) db results))

  pub IsSafeQuery : Query → Tables → Results → Type 0
  IsSafeQuery (Query' cs ctes ss subs from filter_ grouped keys aggs having items shown distinct order limit offset names) db results =
      IsSafeFrom from 0 db results × (is_large_from from db results ≡ false → AreSafeItems filter_ grouped keys aggs having items results (from_rows from 0 db results))

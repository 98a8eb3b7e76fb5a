-- Which queries and writes are well typed, over the types of tables' columns and of results.
use Rattle.std.specs.Prelude.{◌≡◌, ℕ, ◌+◌, ◌≤◌, ◌<◌, ⊤, List, [], ◌∷◌, ◌++◌, map, take, length, true, false, Bool, slice_index_or}
use Rattle.std.specs.List.{AllByRecursion}
use Rattle.cq_tree.specs.declared.expression.Expr.{Expr}
use Rattle.cq_tree.specs.declared.expression.Cond.{Cond}
use Rattle.cq_tree.specs.declared.query.Agg.{Agg}
use Rattle.cq_tree.specs.declared.query.FromTree.{FromTree, Table, Result, Cross', Inner', Left', end_of-FromTree, more_of-FromTree}
use Rattle.cq_tree.specs.declared.query.FromTree as tree
use Rattle.cq_tree.specs.declared.query.Query.{Query, Query', Row_of-Query, end_of-Query, more_of-Query}
use Rattle.cq_tree.specs.declared.write.ShardOp.{ShardOp}
use Rattle.cq_tree.specs.declared.write.ShardOp.TheVariants.{Insert, Update, Remove}
use Rattle.cq_reading.specs.declared.bound.Type.TheVariants as type
use Rattle.cq_reading.specs.Widths.{ValueType}
use Rattle.cq_reading_laws.specs.Typing.{AreAlike, type_over, input_types, group_types, IsTyped, IsTypedCondition, IsTypedAggregate}

-- the types of the columns of tables, and of results, by number
pub record Types : Type 0 where
  pub tables : List (List ValueType)
  pub results : List (List ValueType)

abbrev pub over : List (List ValueType) → List (List ValueType) → Types
over tables results = record { tables = tables; results = results }

abbrev pub table_types : Types → ℕ → List ValueType
table_types cs t = slice_index_or cs.tables t []

abbrev pub result_types : Types → ℕ → List ValueType
result_types cs i = slice_index_or cs.results i []

abbrev mutual
  -- of the columns of a FROM
  pub from_types : Types → FromTree → List ValueType
  from_types cs (Table t n) = table_types cs t
  from_types cs (tree.Sub' p (more_of-Query q end_of-Query)) = output_types cs q
  from_types cs (Result i n) = result_types cs i
  from_types cs (Cross' p (more_of-FromTree a end_of-FromTree) q (more_of-FromTree b end_of-FromTree)) = from_types cs a ++ from_types cs b
  from_types cs (Inner' p (more_of-FromTree a end_of-FromTree) q (more_of-FromTree b end_of-FromTree) on) = from_types cs a ++ from_types cs b
  from_types cs (Left' p (more_of-FromTree a end_of-FromTree) q (more_of-FromTree b end_of-FromTree) on) = from_types cs a ++ from_types cs b

  -- of the outputs of a query
  pub output_types : Types → Query → List ValueType
  output_types cs (Query' ts ctes ss subs from filter_ grouped keys aggs having items shown distinct order limit offset names) =
      take shown (map (type_over (input_types (from_types cs from) grouped keys aggs)) items)

-- ---- the results of IN subqueries

abbrev mutual
  -- the types of the results of all IN subqueries in a query, in the order of their numbers: those in its FROM, and then its own,
  -- each before those in it
  pub results_in : Types → Query → List (List ValueType)
  results_in cs (Query' ts ctes ss subs from filter_ grouped keys aggs having items shown distinct order limit offset names) =
      results_in_from cs from ++ results_in_row cs subs

  pub results_in_from : Types → FromTree → List (List ValueType)
  results_in_from cs (Table t n) = []
  results_in_from cs (tree.Sub' p (more_of-Query q end_of-Query)) = results_in cs q
  results_in_from cs (Result i n) = []
  results_in_from cs (Cross' p (more_of-FromTree a end_of-FromTree) q (more_of-FromTree b end_of-FromTree)) = results_in_from cs a ++ results_in_from cs b
  results_in_from cs (Inner' p (more_of-FromTree a end_of-FromTree) q (more_of-FromTree b end_of-FromTree) on) = results_in_from cs a ++ results_in_from cs b
  results_in_from cs (Left' p (more_of-FromTree a end_of-FromTree) q (more_of-FromTree b end_of-FromTree) on) = results_in_from cs a ++ results_in_from cs b

  pub results_in_row : Types → {n : _} → Row_of-Query n → List (List ValueType)
  results_in_row cs end_of-Query = []
  results_in_row cs (more_of-Query q more) = output_types cs q ∷ (results_in cs q ++ results_in_row cs more)

-- of IN subqueries, with those in them
abbrev pub results_of : Types → List Query → List (List ValueType)
results_of cs [] = []
results_of cs (q ∷ more) = output_types cs q ∷ (results_in cs q ++ results_of cs more)

-- of all IN subqueries in several queries
abbrev pub results_in_all : Types → List Query → List (List ValueType)
results_in_all cs [] = []
results_in_all cs (q ∷ more) = results_in cs q ++ results_in_all cs more

-- the results from this number on have these types
abbrev pub HaveResults : Types → ℕ → List (List ValueType) → Type 0
HaveResults cs k [] = ⊤
HaveResults cs k (r ∷ more) = (result_types cs k ≡ r) × HaveResults cs (k + 1) more

-- ---- what is well typed

-- what follows FROM
abbrev pub AreTypedItems : List ValueType → List (List ValueType) → Cond → Bool → List Expr → List Agg → Cond → List Expr → Type 0
AreTypedItems ts rs filter_ false keys aggs having items = IsTypedCondition ts rs filter_ × AllByRecursion (IsTyped ts rs) items
AreTypedItems ts rs filter_ true keys aggs having items =
    IsTypedCondition ts rs filter_ × AllByRecursion (IsTyped ts rs) keys × AllByRecursion (IsTypedAggregate ts rs) aggs
    × IsTypedCondition (group_types ts keys aggs) rs having × AllByRecursion (IsTyped (group_types ts keys aggs) rs) items

abbrev mutual
  -- a FROM behind columns of these types, over all of which an ON may speak. The leaves have their number of columns
  pub IsTypedFrom : Types → List ValueType → FromTree → Type 0
  IsTypedFrom cs ahead (Table t n) = n ≡ length (table_types cs t)
  IsTypedFrom cs ahead (tree.Sub' p (more_of-Query q end_of-Query)) = IsTypedQuery cs q
  IsTypedFrom cs ahead (Result i n) = n ≡ length (result_types cs i)
  IsTypedFrom cs ahead (Cross' p (more_of-FromTree a end_of-FromTree) q (more_of-FromTree b end_of-FromTree)) = IsTypedFrom cs ahead a × IsTypedFrom cs (ahead ++ from_types cs a) b
  IsTypedFrom cs ahead (Inner' p (more_of-FromTree a end_of-FromTree) q (more_of-FromTree b end_of-FromTree) on) =
      IsTypedFrom cs ahead a × IsTypedFrom cs (ahead ++ from_types cs a) b × IsTypedCondition (ahead ++ (from_types cs a ++ from_types cs b)) cs.results on
  IsTypedFrom cs ahead (Left' p (more_of-FromTree a end_of-FromTree) q (more_of-FromTree b end_of-FromTree) on) =
      IsTypedFrom cs ahead a × IsTypedFrom cs (ahead ++ from_types cs a) b × IsTypedCondition (ahead ++ (from_types cs a ++ from_types cs b)) cs.results on

  -- a query with its IN subqueries, and those in them
  pub IsTypedQuery : Types → Query → Type 0
  IsTypedQuery cs (Query' ts ctes ss subs from filter_ grouped keys aggs having items shown distinct order limit offset names) =
      IsTypedFrom cs [] from × AreTypedItems (from_types cs from) cs.results filter_ grouped keys aggs having items × (shown ≤ length items) × AreTypedQueries cs subs

  pub AreTypedQueries : Types → {n : _} → Row_of-Query n → Type 0
  AreTypedQueries cs end_of-Query = ⊤
  AreTypedQueries cs (more_of-Query q more) = IsTypedQuery cs q × AreTypedQueries cs more

-- a write to a table of columns of these types, which has no results: each value that is set can stand in its column
abbrev pub IsTypedWrite : List ValueType → ShardOp → Type 0
IsTypedWrite ts (Insert table rows) = ⊤
IsTypedWrite ts (Update table filter_ sets) =
    IsTypedCondition ts [] filter_ × AllByRecursion (λ s. IsTyped ts [] s.value × AreAlike (slice_index_or ts s.column type.Null) (type_over ts s.value) × (s.column < length ts)) sets
IsTypedWrite ts (Remove table filter_) = IsTypedCondition ts [] filter_

-- What a query means over tables, given the results of its CTEs and IN subqueries.
use Rattle.std.specs.Prelude.{◌≡◌, ℕ, ◌+◌, List, ◌++◌, map, filter, replicate, Bool, true, false}
use Rattle.std.specs.List.Sorted.{IsPermutation, IsSorted}
use Rattle.cq_value.specs.declared.value.Value.TheVariants.{Null}
use Rattle.cq_tree.specs.declared.expression.Expr.{Expr}
use Rattle.cq_tree.specs.declared.expression.Cond.{Cond}
use Rattle.cq_tree.specs.declared.query.Agg.{Agg}
use Rattle.cq_tree.specs.declared.query.FromTree.{FromTree, Table, Sub', Result, Cross', Inner', Left', end_of-FromTree, more_of-FromTree, end_of-Query, more_of-Query}
use Rattle.cq_tree.specs.declared.query.Query.{Query, Query'}
use Rattle.cq_meaning.specs.Values.{Row, Results, Tables, table_rows, result_at}
use Rattle.cq_meaning.specs.Expressions.{keeps, items_of}
use Rattle.cq_meaning.specs.Joins.{product, left_join}
use Rattle.cq_meaning.specs.Groups.{groups_of, group_row, distinct_if}
use Rattle.cq_meaning.specs.Sorting.{keys_cmp, sorted, cut}

-- WHERE, GROUP BY, HAVING and the items, over the rows of a FROM
abbrev pub item_rows : Cond → Bool → List Expr → List Agg → Cond → List Expr → Results → List Row → List Row
item_rows filter_ false keys aggs having items results rows = map (items_of items results) (filter (keeps filter_ results) rows)
item_rows filter_ true keys aggs having items results rows =
    map (items_of items results) (filter (keeps having results) (map (group_row aggs results) (groups_of keys results (filter (keeps filter_ results) rows))))

-- how many columns a query's rows have
abbrev pub outputs_of : Query → ℕ
outputs_of (Query' cs ctes ss subs from filter_ grouped keys aggs having items shown distinct order limit offset names) = shown

-- how many columns the rows of a FROM have
abbrev pub columns_in : FromTree → ℕ
columns_in (Table t n) = n
columns_in (Sub' p (more_of-Query q end_of-Query)) = outputs_of q
columns_in (Result i n) = n
columns_in (Cross' p (more_of-FromTree a end_of-FromTree) q (more_of-FromTree b end_of-FromTree)) = columns_in a + columns_in b
columns_in (Inner' p (more_of-FromTree a end_of-FromTree) q (more_of-FromTree b end_of-FromTree) on) = columns_in a + columns_in b
columns_in (Left' p (more_of-FromTree a end_of-FromTree) q (more_of-FromTree b end_of-FromTree) on) = columns_in a + columns_in b

-- whether an ON is true of a joined row, whose first column has the number `start` in the whole FROM
abbrev pub joins : Cond → Results → ℕ → Row → Bool
joins on results start row = keeps on results (replicate start Null ++ row)

abbrev mutual
  -- the rows of a FROM whose first column has the number `start` in the whole FROM
  pub from_rows : FromTree → ℕ → Tables → Results → List Row
  from_rows (Table t n) start db results = table_rows db t
  from_rows (Sub' p (more_of-Query q end_of-Query)) start db results = meaning q db results
  from_rows (Result i n) start db results = result_at results i
  from_rows (Cross' p (more_of-FromTree a end_of-FromTree) q (more_of-FromTree b end_of-FromTree)) start db results =
      product (from_rows a start db results) (from_rows b (start + columns_in a) db results)
  from_rows (Inner' p (more_of-FromTree a end_of-FromTree) q (more_of-FromTree b end_of-FromTree) on) start db results =
      filter (joins on results start) (product (from_rows a start db results) (from_rows b (start + columns_in a) db results))
  from_rows (Left' p (more_of-FromTree a end_of-FromTree) q (more_of-FromTree b end_of-FromTree) on) start db results =
      left_join (joins on results start) (columns_in b) (from_rows a start db results) (from_rows b (start + columns_in a) db results)

  -- the rows before the order and the cut, with the items that only ORDER BY has
  pub full_rows : Query → Tables → Results → List Row
  full_rows (Query' cs ctes ss subs from filter_ grouped keys aggs having items shown distinct order limit offset names) db results =
      distinct_if distinct (item_rows filter_ grouped keys aggs having items results (from_rows from 0 db results))

  -- the rows in the order of a stable sort
  pub meaning : Query → Tables → Results → List Row
  meaning (Query' cs ctes ss subs from filter_ grouped keys aggs having items shown distinct order limit offset names) db results =
      cut shown limit offset (sorted (keys_cmp order) (distinct_if distinct (item_rows filter_ grouped keys aggs having items results (from_rows from 0 db results))))

-- rows are an answer: the cut of some order of the full rows that the keys allow
abbrev pub AnswersWith : Query → Tables → Results → List Row → Type 0
AnswersWith (Query' cs ctes ss subs from filter_ grouped keys aggs having items shown distinct order limit offset names) db results rows =
    (all : List Row)
    × IsPermutation (distinct_if distinct (item_rows filter_ grouped keys aggs having items results (from_rows from 0 db results))) all
    × IsSorted (keys_cmp order) all
    × (rows ≡ cut shown limit offset all)

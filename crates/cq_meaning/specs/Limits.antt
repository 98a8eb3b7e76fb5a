-- Whether a query computes a group of more rows than the limit, in itself or in a subquery of its FROM at any depth.
use Rattle.std.specs.Prelude.{◌^◌, List, length, filter, Bool, true, false, ◌||◌, nat_lt}
use Rattle.std.specs.List.{list_any}
use Rattle.cq_tree.specs.declared.expression.Expr.{Expr}
use Rattle.cq_tree.specs.declared.expression.Cond.{Cond}
use Rattle.cq_tree.specs.declared.query.FromTree.{FromTree, Table, Sub', Result, Cross', Inner', Left', end_of-FromTree, more_of-FromTree, end_of-Query, more_of-Query}
use Rattle.cq_tree.specs.declared.query.Query.{Query, Query'}
use Rattle.cq_meaning.specs.declared.Group.{Group}
use Rattle.cq_meaning.specs.Values.{Row, Results, Tables}
use Rattle.cq_meaning.specs.Expressions.{keeps}
use Rattle.cq_meaning.specs.Groups.{groups_of}
use Rattle.cq_meaning.specs.Queries.{from_rows}

abbrev pub is_large_group : Group → Bool
is_large_group g = nat_lt (2 ^ 31) (length g.rows)

-- whether a query has a large group over the rows of its FROM
abbrev pub has_large_group : Cond → Bool → List Expr → Results → List Row → Bool
has_large_group filter_ false keys results rows = false
has_large_group filter_ true keys results rows = list_any is_large_group (groups_of keys results (filter (keeps filter_ results) rows))

abbrev mutual
  pub is_large_from : FromTree → Tables → Results → Bool
  is_large_from (Table t n) db results = false
  is_large_from (Sub' p (more_of-Query q end_of-Query)) db results = is_large q db results
  is_large_from (Result i n) db results = false
  is_large_from (Cross' p (more_of-FromTree a end_of-FromTree) q (more_of-FromTree b end_of-FromTree)) db results = is_large_from a db results || is_large_from b db results
  is_large_from (Inner' p (more_of-FromTree a end_of-FromTree) q (more_of-FromTree b end_of-FromTree) on) db results = is_large_from a db results || is_large_from b db results
  is_large_from (Left' p (more_of-FromTree a end_of-FromTree) q (more_of-FromTree b end_of-FromTree) on) db results = is_large_from a db results || is_large_from b db results

  pub is_large : Query → Tables → Results → Bool
  is_large (Query' cs ctes ss subs from filter_ grouped keys aggs having items shown distinct order limit offset names) db results =
      is_large_from from db results || has_large_group filter_ grouped keys results (from_rows from 0 db results)

-- The blocks of a query: the queries that are planned by themselves. And all queries that stand in it.
use Rattle.std.specs.Prelude.{List, [], ◌∷◌, ◌++◌, Bool, ◌||◌, if◌then◌else◌, is_some}
use Rattle.cq_tree.specs.declared.query.FromTree.{FromTree, Table, Sub', Result, Cross', Inner', Left', end_of-FromTree, more_of-FromTree}
use Rattle.cq_tree.specs.declared.query.Query.{Query, Query', Row_of-Query, end_of-Query, more_of-Query}
use Rattle.cq_catalog.specs.Contents.{Contents}
use Rattle.cq_planning.specs.Pushable.{pushable}
use Rattle.cq_planning.specs.Routing.{fits_fast_path, fits_router}

-- whether the fast path or the router takes a query, with all subqueries of its FROM
abbrev pub is_taken_whole : Contents → Query → Bool
is_taken_whole c q = fits_fast_path c q || fits_router c q

abbrev mutual
  -- a query that is planned by itself, and the blocks in it: its CTEs, subqueries of its FROM, and its IN subqueries
  pub blocks_in : Contents → Query → List Query
  blocks_in c (Query' cs ctes ss subs from filter_ grouped keys aggs having items shown distinct order limit offset names) =
      Query' cs ctes ss subs from filter_ grouped keys aggs having items shown distinct order limit offset names
      ∷ (blocks_in_all c ctes
      ++ (blocks_below c (is_taken_whole c (Query' cs ctes ss subs from filter_ grouped keys aggs having items shown distinct order limit offset names)) from
      ++ blocks_in_all c subs))

  -- those in the FROM of a block, which may be taken whole
  pub blocks_below : Contents → Bool → FromTree → List Query
  blocks_below c whole (Table t n) = []
  blocks_below c whole (Sub' p (more_of-Query q end_of-Query)) = if whole || is_some (pushable c q) then blocks_inside c whole q else blocks_in c q
  blocks_below c whole (Result i n) = []
  blocks_below c whole (Cross' p (more_of-FromTree a end_of-FromTree) q (more_of-FromTree b end_of-FromTree)) = blocks_below c whole a ++ blocks_below c whole b
  blocks_below c whole (Inner' p (more_of-FromTree a end_of-FromTree) q (more_of-FromTree b end_of-FromTree) on) = blocks_below c whole a ++ blocks_below c whole b
  blocks_below c whole (Left' p (more_of-FromTree a end_of-FromTree) q (more_of-FromTree b end_of-FromTree) on) = blocks_below c whole a ++ blocks_below c whole b

  -- those in a subquery that stays in its block
  pub blocks_inside : Contents → Bool → Query → List Query
  blocks_inside c whole (Query' cs ctes ss subs from filter_ grouped keys aggs having items shown distinct order limit offset names) =
      blocks_below c whole from ++ blocks_in_all c subs

  -- each of these queries is planned by itself
  pub blocks_in_all : {n : _} → Contents → Row_of-Query n → List Query
  blocks_in_all c end_of-Query = []
  blocks_in_all c (more_of-Query q more) = blocks_in c q ++ blocks_in_all c more

-- ---- subqueries

abbrev mutual
  -- all CTEs and subqueries in a query, at any depth
  pub subqueries_in : Query → List Query
  subqueries_in (Query' cs ctes ss subs from filter_ grouped keys aggs having items shown distinct order limit offset names) =
      each_with_subqueries ctes ++ (subqueries_below from ++ each_with_subqueries subs)

  pub subqueries_below : FromTree → List Query
  subqueries_below (Table t n) = []
  subqueries_below (Sub' p (more_of-Query q end_of-Query)) = q ∷ subqueries_in q
  subqueries_below (Result i n) = []
  subqueries_below (Cross' p (more_of-FromTree a end_of-FromTree) q (more_of-FromTree b end_of-FromTree)) = subqueries_below a ++ subqueries_below b
  subqueries_below (Inner' p (more_of-FromTree a end_of-FromTree) q (more_of-FromTree b end_of-FromTree) on) = subqueries_below a ++ subqueries_below b
  subqueries_below (Left' p (more_of-FromTree a end_of-FromTree) q (more_of-FromTree b end_of-FromTree) on) = subqueries_below a ++ subqueries_below b

  pub each_with_subqueries : {n : _} → Row_of-Query n → List Query
  each_with_subqueries end_of-Query = []
  each_with_subqueries (more_of-Query q more) = q ∷ (subqueries_in q ++ each_with_subqueries more)

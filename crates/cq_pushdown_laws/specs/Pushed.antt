-- Queries over tables, results of CTEs, and FROM subqueries of the same kind, that pushdown computes by a task in each shard group (Citus, "Query
-- Processing"). A result is whole in each task, as a reference table is.
use Rattle.std.specs.Prelude.{ℕ, List, [], ◌∷◌, Bool, true, false, not, ◌&&◌, ◌||◌, if◌then◌else◌, None, is_some}
use Rattle.std.specs.List.{list_any, list_all}
use Rattle.cq_tree.specs.declared.query.FromTree.{FromTree, Table, Sub', Result, Cross', Inner', Left', end_of-FromTree, more_of-FromTree, end_of-Query, more_of-Query}
use Rattle.cq_tree.specs.declared.query.Query.{Query, Query'}
use Rattle.cq_catalog.specs.Contents.{Contents}
use Rattle.cq_catalog.specs.Placement.{place_at}
use Rattle.cq_planning.specs.Classes.{first_of_class}
use Rattle.cq_planning.specs.Components.{is_one_component, is_loose}
use Rattle.cq_planning.specs.Conjuncts.{conjuncts_of, equalities}
use Rattle.cq_planning.specs.Pushable.{relations, pushable}
use Rattle.cq_planning.specs.Relations.{Distribution, Relation, distributions, is_distributed, is_left_in_block, is_plain}
use Rattle.cq_planning.specs.Routing.{is_reference_place}

module _ (first : ℕ → ℕ) (rels : List Relation) where
  -- a distributed relation that is planned by itself, or whose LEFT JOIN isn't co-located
  abbrev pub strays : Relation → Bool
  strays r = (is_distributed r && not (is_left_in_block rels r)) || is_loose first rels r

  -- some distributed relation isn't a right side, all such, by their distribution columns, are in one component, and no relation strays
  abbrev pub are_pushed : List Distribution → Bool
  are_pushed [] = false
  are_pushed (d ∷ ds) = list_all (is_one_component first d) ds && not (list_any strays rels)

-- a table, a subquery or a result
abbrev pub is_single : FromTree → Bool
is_single (Table t n) = true
is_single (Sub' p q) = true
is_single (Result i n) = true
is_single _ = false

abbrev mutual
  -- joins of reference tables and results, and of subqueries over such joins
  pub reads_references : Contents → FromTree → Bool
  reads_references c (Table t n) = is_reference_place (place_at c t)
  reads_references c (Sub' p (more_of-Query q end_of-Query)) = is_over_references c q
  reads_references c (Result i n) = true
  reads_references c (Cross' p (more_of-FromTree a end_of-FromTree) q (more_of-FromTree b end_of-FromTree)) = reads_references c a && reads_references c b
  reads_references c (Inner' p (more_of-FromTree a end_of-FromTree) q (more_of-FromTree b end_of-FromTree) on) = reads_references c a && reads_references c b
  reads_references c (Left' p (more_of-FromTree a end_of-FromTree) q (more_of-FromTree b end_of-FromTree) on) = reads_references c a && reads_references c b

  -- a query over reference tables and results alone
  pub is_over_references : Contents → Query → Bool
  is_over_references c (Query' cs ctes ss subs from filter_ grouped keys aggs having items shown distinct order limit offset names) = reads_references c from

abbrev mutual
  -- joins of tables, subqueries and results, where the right side of each LEFT JOIN is one of these. A subquery can be pushed down where it
  -- stands, and pushdown makes tasks of it, too, or it is over reference tables and results alone
  pub joins_pushed : Contents → FromTree → Bool
  joins_pushed c (Table t n) = true
  joins_pushed c (Sub' p (more_of-Query q end_of-Query)) = if is_some (pushable c q) then is_pushed c q else is_over_references c q
  joins_pushed c (Result i n) = true
  joins_pushed c (Cross' p (more_of-FromTree a end_of-FromTree) q (more_of-FromTree b end_of-FromTree)) = joins_pushed c a && joins_pushed c b
  joins_pushed c (Inner' p (more_of-FromTree a end_of-FromTree) q (more_of-FromTree b end_of-FromTree) on) = joins_pushed c a && joins_pushed c b
  joins_pushed c (Left' p (more_of-FromTree a end_of-FromTree) q (more_of-FromTree b end_of-FromTree) on) = is_single b && (joins_pushed c a && joins_pushed c b)

  -- a query of which pushdown makes tasks
  pub is_pushed : Contents → Query → Bool
  is_pushed c (Query' cs ctes ss subs from filter_ grouped keys aggs having items shown distinct order limit offset names) =
      let rels = relations c from 0 None in
      joins_pushed c from && are_pushed (first_of_class (equalities (conjuncts_of filter_ from))) rels (distributions is_plain rels)

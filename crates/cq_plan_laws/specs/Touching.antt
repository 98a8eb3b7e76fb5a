-- What a plan touches.
use Rattle.std.specs.Prelude.{◌≡◌, ⊤, map, true}
use Rattle.std.specs.List.Sorted.{IsPermutation}
use Rattle.cq_tree.specs.declared.query.FromTree.{FromTree, Table, Sub', Result, Cross', Inner', Left', end_of-FromTree, more_of-FromTree, end_of-Query, more_of-Query}
use Rattle.cq_tree.specs.declared.query.Query.{Query, Query', Row_of-Query}
use Rattle.cq_tree.specs.declared.query.Query as query
use Rattle.cq_tree.specs.declared.statement.Statement.TheVariants as statement
use Rattle.cq_catalog.specs.Contents.{Contents}
use Rattle.cq_planning.specs.Occurrences.{occurrences_of}
use Rattle.cq_planning.specs.Routing.{is_none_of_them}
use Rattle.cq_planning.specs.Touched.{touched}
use Rattle.cq_outline.specs.Tasking.{touch_of}
use Rattle.cq_one_plan.specs.Plans.{whole_plan}
use Rattle.cq_one_plan.specs.Reading.{touches_in, groups_touched}

-- WITH stands only before the outermost query
abbrev mutual
  pub HasNoCtes : Query → Type 0
  HasNoCtes (Query' cs ctes ss subs from filter_ grouped keys aggs having items shown distinct order limit offset names) = (is_none_of_them ctes ≡ true) × FromHasNone from × EachHasNone subs

  pub FromHasNone : FromTree → Type 0
  FromHasNone (Table t n) = ⊤
  FromHasNone (Sub' p (more_of-Query q end_of-Query)) = HasNoCtes q
  FromHasNone (Result i n) = ⊤
  FromHasNone (Cross' p (more_of-FromTree a end_of-FromTree) q (more_of-FromTree b end_of-FromTree)) = FromHasNone a × FromHasNone b
  FromHasNone (Inner' p (more_of-FromTree a end_of-FromTree) q (more_of-FromTree b end_of-FromTree) on) = FromHasNone a × FromHasNone b
  FromHasNone (Left' p (more_of-FromTree a end_of-FromTree) q (more_of-FromTree b end_of-FromTree) on) = FromHasNone a × FromHasNone b

  pub EachHasNone : {n : _} → Row_of-Query n → Type 0
  EachHasNone query.end_of-Query = ⊤
  EachHasNone (query.more_of-Query q more) = HasNoCtes q × EachHasNone more

abbrev pub IsOutermost : Query → Type 0
IsOutermost (Query' cs ctes ss subs from filter_ grouped keys aggs having items shown distinct order limit offset names) = EachHasNone ctes × FromHasNone from × EachHasNone subs

-- the tables of a plan's blocks, each with the groups that it touches, are the occurrences of the statement, in some order
abbrev pub PlansTouch : Type 0
PlansTouch = (c : Contents) (q : Query) → IsOutermost q → IsPermutation (touches_in (whole_plan c q)) (map (touch_of c) (occurrences_of c q))

-- so the groups that it touches, in ascending order, are those of the statement
abbrev pub PlansReach : Type 0
PlansReach = (c : Contents) (q : Query) → IsOutermost q → groups_touched c (whole_plan c q) ≡ touched c (statement.Select q)

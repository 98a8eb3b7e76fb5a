-- The plan of a query as EXPLAIN shows it.
use Rattle.std.specs.Prelude.{ℕ, ◌+◌, List, [], ◌∷◌, ◌++◌, map, filter_map, length, Bool, false, if◌then◌else◌, nat_lt, Option, None, Some, is_some}
use Rattle.cq_value.specs.declared.value.Value.{Value}
use Rattle.cq_tree.specs.declared.plan.Planner.{Planner}
use Rattle.cq_tree.specs.declared.plan.Planner.TheVariants.{FastPath, Router, Pushdown}
use Rattle.cq_tree.specs.declared.query.FromTree.{FromTree, Table, Sub', Result, Cross', Inner', Left', end_of-FromTree, more_of-FromTree}
use Rattle.cq_tree.specs.declared.query.Query.{Query, Query', Row_of-Query, end_of-Query, more_of-Query}
use Rattle.cq_meaning.specs.Queries.{columns_in}
use Rattle.cq_catalog.specs.Contents.{Contents}
use Rattle.cq_catalog.specs.Placement.{place_at}
use Rattle.cq_planning.specs.Conjuncts.{conjuncts, conjuncts_of, equalities}
use Rattle.cq_planning.specs.ValueSets.{ValueSet, value_set}
use Rattle.cq_planning.specs.Relations.{OuterJoin, Relation, distribution_at}
use Rattle.cq_planning.specs.Pushable.{pushable, relations, distribution_by}
use Rattle.cq_planning.specs.Narrowing.{distribution_in, right_sets, sets_in, given_to}
use Rattle.cq_planning.specs.Occurrences.{Occurrence, key_values, occurrence_of, occurrences_in}
use Rattle.cq_planning.specs.Routing.{are_routed, is_one_value}
use Rattle.cq_outline.specs.declared.outline.Leaving.{Leaving}
use Rattle.cq_outline.specs.declared.outline.Outline.{Outline, roll-Outline}
use Rattle.cq_outline.specs.declared.outline.Piece.{Piece}
use Rattle.cq_outline.specs.declared.outline.Piece.TheVariants.{Stays, Leaves, Asks}
use Rattle.cq_outline.specs.Leaving.{leaves, leaves_subquery, inside}
use Rattle.cq_outline.specs.declared.joining.Joined.{Joined}
use Rattle.cq_outline.specs.Joining.{nothing_joined}
use Rattle.cq_outline.specs.Tasking.{Touch, touch_of, groups_in, planner_of, leaving_by, tasks_by, shown_planner, parting_by, shares_rows, combine_by}

-- ---- pieces of a block

abbrev pub staying : Piece → Option Touch
staying (Stays table groups) = Some (table, groups)
staying (Leaves p) = None
staying (Asks p) = None

abbrev pub leaving : Piece → Option Outline
leaving (Stays table groups) = None
leaving (Leaves p) = Some p
leaving (Asks p) = None

abbrev pub asking : Piece → Option Outline
asking (Stays table groups) = None
asking (Leaves p) = None
asking (Asks p) = Some p

-- the tables that stay in a block
abbrev pub stays_in : List Piece → List Touch
stays_in pieces = filter_map staying pieces

-- what is planned by itself: the relations that leave, and then the IN subqueries
abbrev pub planned_in : List Piece → List Outline
planned_in pieces = filter_map leaving pieces ++ filter_map asking pieces

-- ---- a block

-- a block that this planner takes, whose tasks part its rows so, of these CTEs and pieces
abbrev pub block_by : Contents → Planner → Joined → Bool → List Outline → List Piece → Outline
block_by c planner parting shares ctes pieces = roll-Outline (record {
  subplans = ctes ++ planned_in pieces;
  planner = shown_planner c planner (stays_in pieces);
  steps = parting.steps;
  combine = combine_by (length (tasks_by c planner parting.count (stays_in pieces))) shares;
  tasks = tasks_by c planner parting.count (stays_in pieces);
  tables = map (λ (t : Touch). t.0) (stays_in pieces);
})

-- a query as a block
abbrev pub block_of : Contents → Query → List Outline → List Piece → Outline
block_of c q ctes pieces =
    let parting = parting_by c (planner_of c q) q in
    block_by c (planner_of c q) parting (shares_rows parting.class q) ctes pieces

-- a right side that is planned by itself is a block of all its columns, in which its distribution column has the values that are left to it
abbrev pub lone_by : Contents → Planner → List Piece → Outline
lone_by c planner pieces = block_by c planner nothing_joined false [] pieces

-- such a table
abbrev pub table_planner : Contents → Touch → ValueSet → Planner
table_planner c touch values = if is_one_value values then FastPath else (if nat_lt (length (groups_in c (touch ∷ []))) 2 then Router else Pushdown)

abbrev pub lone_table : Contents → Touch → ValueSet → Outline
lone_table c touch values = lone_by c (table_planner c touch values) (Stays touch.0 touch.1 ∷ [])

-- such a subquery, by the tables in it
abbrev pub subquery_planner : Contents → List Occurrence → Planner
subquery_planner c os = if are_routed c os then Router else Pushdown

-- ---- a FROM

-- a table of a FROM
abbrev pub piece_of_table : Contents → Leaving → List Relation → Relation → Occurrence → ValueSet → Piece
piece_of_table c leaving rels r o values = if leaves leaving rels r then Leaves (lone_table c (touch_of c o) values) else Stays o.table (touch_of c o).1

-- a subquery of a FROM: it is planned by itself as it stands, or as a right side of which these are the pieces, or it stays with these pieces
abbrev pub pieces_of_subquery : Contents → Leaving → List Relation → Relation → Bool → Outline → Outline → List Piece → List Piece
pieces_of_subquery c leaving rels r is_pushable whole lone pieces =
    if leaves_subquery leaving rels r then Leaves (if is_pushable then lone else whole) ∷ [] else pieces

abbrev mutual
  -- the plan of a query
  pub outline_of : Contents → Query → Outline
  outline_of c (Query' cs ctes ss subs from filter_ grouped keys aggs having items shown distinct order limit offset names) =
      block_of c (Query' cs ctes ss subs from filter_ grouped keys aggs having items shown distinct order limit offset names) (outlines c ctes)
      (pieces_from c (leaving_by (planner_of c (Query' cs ctes ss subs from filter_ grouped keys aggs having items shown distinct order limit offset names)))
      (relations c from 0 None) (value_set [] (conjuncts_of filter_ from)) from 0 None ++ map Asks (outlines c subs))

  -- those of these queries
  pub outlines : {n : _} → Contents → Row_of-Query n → List Outline
  outlines c end_of-Query = []
  outlines c (more_of-Query q more) = outline_of c q ∷ outlines c more

  -- the pieces of a subquery that stays, where these sets are given from outside
  pub pieces_inside : Contents → Leaving → Query → List (ℕ × List Value) → List Piece
  pieces_inside c leaving (Query' cs ctes ss subs from filter_ grouped keys aggs having items shown distinct order limit offset names) outer =
      pieces_from c leaving (relations c from 0 None) (value_set outer (conjuncts_of filter_ from)) from 0 None ++ map Asks (outlines c subs)

  -- the pieces of a FROM of these relations, whose first column has the number `start`, and of which `outer` is the LEFT JOIN where it is a right side
  pub pieces_from : Contents → Leaving → List Relation → (ℕ → ValueSet) → FromTree → ℕ → Option OuterJoin → List Piece
  pieces_from c leaving rels sets (Table t n) start outer =
      piece_of_table c leaving rels (record { start = start; distribution = distribution_at start (place_at c t); outer = outer })
      (occurrence_of c sets start t) (key_values sets start (place_at c t)) ∷ []
  pieces_from c leaving rels sets (Sub' p (more_of-Query q end_of-Query)) start outer =
      let given = given_to sets start (pushable c q) in
      let planner = subquery_planner c (occurrences_in c q given) in
      pieces_of_subquery c leaving rels (record { start = start; distribution = distribution_by start (pushable c q); outer = outer }) (is_some (pushable c q))
      (outline_of c q) (lone_by c planner (pieces_inside c (leaving_by planner) q given)) (pieces_inside c (inside leaving) q given)
  pieces_from c leaving rels sets (Result i n) start outer = []
  pieces_from c leaving rels sets (Cross' p (more_of-FromTree a end_of-FromTree) q (more_of-FromTree b end_of-FromTree)) start outer =
      pieces_from c leaving rels sets a start None ++ pieces_from c leaving rels sets b (start + columns_in a) None
  pieces_from c leaving rels sets (Inner' p (more_of-FromTree a end_of-FromTree) q (more_of-FromTree b end_of-FromTree) on) start outer =
      pieces_from c leaving rels sets a start None ++ pieces_from c leaving rels sets b (start + columns_in a) None
  pieces_from c leaving rels sets (Left' p (more_of-FromTree a end_of-FromTree) q (more_of-FromTree b end_of-FromTree) on) start outer =
      pieces_from c leaving rels sets a start None
      ++ pieces_from c leaving rels (right_sets sets (sets_in c sets a start) (distribution_in c b (start + columns_in a)) start (start + columns_in a) on) b (start + columns_in a)
      (Some (record { left = start; equalities = equalities (conjuncts on) }))

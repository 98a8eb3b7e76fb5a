-- The plan of a query, by the definitions that there are: which planner takes a block, what leaves it, its tasks, and how their rows are combined.
use Rattle.std.specs.List.{list_any}
use Rattle.std.specs.Prelude.{ℕ, ◌+◌, List, [], ◌∷◌, ◌++◌, map, filter_map, length, Bool, false, if◌then◌else◌, Option, None, Some, is_some}
use Rattle.cq_value.specs.declared.value.Value.{Value}
use Rattle.cq_tree.specs.declared.plan.Planner.{Planner}
use Rattle.cq_tree.specs.declared.query.FromTree.{FromTree, Table, Sub', Result, Cross', Inner', Left', end_of-FromTree, more_of-FromTree, end_of-Query, more_of-Query}
use Rattle.cq_tree.specs.declared.query.Query.{Query, Query', Row_of-Query}
use Rattle.cq_tree.specs.declared.query.Query as query
use Rattle.cq_meaning.specs.Queries.{columns_in}
use Rattle.cq_meaning.specs.Results.{ins_in, ins_in_from, ins_in_ctes, count_of}
use Rattle.cq_meaning_laws.specs.WholeRules.{steps_of}
use Rattle.cq_catalog.specs.Contents.{Contents}
use Rattle.cq_catalog.specs.Placement.{place_at}
use Rattle.cq_catalog.specs.declared.info.Place.{Place}
use Rattle.cq_catalog.specs.declared.info.Place.TheVariants.{Distributed}
use Rattle.cq_planning.specs.Conjuncts.{conjuncts, conjuncts_of, equalities}
use Rattle.cq_planning.specs.ValueSets.{ValueSet, value_set}
use Rattle.cq_planning.specs.Relations.{OuterJoin, Relation, distribution_at}
use Rattle.cq_planning.specs.Pushable.{Pushable, pushable, relations, distribution_by}
use Rattle.cq_planning.specs.Narrowing.{distribution_in, right_sets, sets_in, given_to}
use Rattle.cq_planning.specs.Blocks.{subqueries_in}
use Rattle.cq_planning.specs.Joins.{lacks_equality, has_loose_join}
use Rattle.cq_planning.specs.Refusals.{is_cut_loosely}
use Rattle.cq_planning.specs.Occurrences.{Occurrence, occurrence_of, occurrences_in}
use Rattle.cq_outline.specs.declared.outline.Leaving.{Leaving}
use Rattle.cq_outline.specs.declared.joining.Joined.{Joined}
use Rattle.cq_outline.specs.Joining.{nothing_joined}
use Rattle.cq_outline.specs.Leaving.{leaves, leaves_subquery, inside}
use Rattle.cq_outline.specs.Outlines.{table_planner, subquery_planner}
use Rattle.cq_outline.specs.Tasking.{Touch, touch_of, planner_of, leaving_by, tasks_by, shown_planner, parting_by, shares_rows, combine_by}
use Rattle.cq_one_plan.specs.declared.plan.Grounds.{Grounds}
use Rattle.cq_one_plan.specs.declared.plan.Plan.{Plan, roll-Plan}
use Rattle.cq_one_plan.specs.declared.plan.Part.{Part}
use Rattle.cq_one_plan.specs.declared.plan.Part.TheVariants.{Stays, Leaves, Asks}
use Rattle.cq_one_plan.specs.Stays.{leaves_in, leaves_of, leaves_of_all, from_staying, query_staying, lone_query}

-- ---- parts of a block

abbrev pub staying : Part → Option Touch
staying (Stays table groups) = Some (table, groups)
staying (Leaves p) = None
staying (Asks p) = None

abbrev pub leaving : Part → Option Plan
leaving (Stays table groups) = None
leaving (Leaves p) = Some p
leaving (Asks p) = None

abbrev pub asking : Part → Option Plan
asking (Stays table groups) = None
asking (Leaves p) = None
asking (Asks p) = Some p

-- the tables that stay in a block
abbrev pub stays_in : List Part → List Touch
stays_in parts = filter_map staying parts

-- what is planned by itself: the relations that leave, and then the IN subqueries
abbrev pub planned_in : List Part → List Plan
planned_in parts = filter_map leaving parts ++ filter_map asking parts

-- ---- a block

-- what a refusal of a block rests on: shared classes don't connect its components, a LEFT JOIN isn't co-located, or a subquery in it is cut loosely
abbrev pub grounds_of : Contents → Query → Grounds
grounds_of c q = record { lacks_equality = lacks_equality c q; has_loose_join = has_loose_join c q; has_loose_cut = list_any is_cut_loosely (subqueries_in q) }

abbrev pub no_grounds : Grounds
no_grounds = record { lacks_equality = false; has_loose_join = false; has_loose_cut = false }

-- the plan that becomes result `number`, of a block that this planner takes, whose tasks part its rows so, of these CTEs and parts and with this query
abbrev pub plan_with : Contents → ℕ → Planner → Joined → Bool → Grounds → List Plan → List Part → Query → Plan
plan_with c number planner parting shares grounds ctes parts q = roll-Plan (record {
  number = number;
  subplans = ctes ++ planned_in parts;
  planner = shown_planner c planner (stays_in parts);
  parting = parting;
  combine = combine_by (length (tasks_by c planner parting.count (stays_in parts))) shares;
  tasks = tasks_by c planner parting.count (stays_in parts);
  query = q;
  touches = stays_in parts;
  grounds = grounds;
})

-- a right side that is planned by itself
abbrev pub lone_plan : Contents → ℕ → Planner → List Part → Query → Plan
lone_plan c number planner parts q = plan_with c number planner nothing_joined false no_grounds [] parts q

-- the distribution column of a table, as it counts its columns
abbrev pub key_of : Place → ℕ
key_of (Distributed at colocation first_shard) = at
key_of _ = 0

-- that of a pushable subquery, among its outputs
abbrev pub output_of : Option Pushable → ℕ
output_of (Some p) = p.output
output_of None = 0

-- the set of a pushable subquery's distribution column
abbrev pub output_set : (ℕ → ValueSet) → ℕ → Option Pushable → ValueSet
output_set sets start (Some p) = sets (start + p.output)
output_set sets start None = None

-- a table of a FROM, where l is the number of the result that it becomes if it is planned by itself
abbrev pub part_of_table : Contents → Leaving → List Relation → Relation → Occurrence → FromTree → ℕ → Part
part_of_table c leaving rels r o f l =
    if leaves leaving rels r then Leaves (lone_plan c l (table_planner c (touch_of c o) o.values) (Stays o.table (touch_of c o).1 ∷ []) (lone_query f (key_of (place_at c o.table)) o.values)) else Stays o.table (touch_of c o).1

abbrev pub parts_of_subquery : Contents → Leaving → List Relation → Relation → Bool → Plan → Plan → List Part → List Part
parts_of_subquery c leaving rels r is_pushable whole lone parts = if leaves_subquery leaving rels r then Leaves (if is_pushable then lone else whole) ∷ [] else parts

-- ---- a query

abbrev mutual
  -- the plan of a query that becomes result `number`, whose IN subqueries have numbers from k on, those in its CTEs from kc on, and whose relations from l on
  pub plan_of : Contents → ℕ → ℕ → ℕ → ℕ → Query → Plan
  plan_of c number kc k l (Query' cs ctes ss subs from filter_ grouped keys aggs having items shown distinct order limit offset names) =
      let q = Query' cs ctes ss subs from filter_ grouped keys aggs having items shown distinct order limit offset names in
      let planner = planner_of c q in
      let parting = parting_by c planner q in
      let lf = l + leaves_of_all ctes in
      plan_with c number planner parting (shares_rows parting.class q) (grounds_of c q) (cte_plans c 0 kc l ctes)
      (parts_from c (leaving_by planner) (relations c from 0 None) (value_set [] (conjuncts_of filter_ from)) from 0 None k lf
      ++ map Asks (in_plans c (k + ins_in_from from) (lf + leaves_in from) subs))
      (Query' cs ctes ss subs (from_staying c (leaving_by planner) (relations c from 0 None) from 0 None lf) filter_ grouped keys aggs having items shown distinct order limit offset names)

  -- those of CTEs, from result i on
  pub cte_plans : {n : _} → Contents → ℕ → ℕ → ℕ → Row_of-Query n → List Plan
  cte_plans c i k l query.end_of-Query = []
  cte_plans c i k l (query.more_of-Query q more) = plan_of c i k k l q ∷ cte_plans c (i + 1) (k + ins_in q) (l + leaves_of q) more

  -- those of IN subqueries, each before those in it
  pub in_plans : {n : _} → Contents → ℕ → ℕ → Row_of-Query n → List Plan
  in_plans c k l query.end_of-Query = []
  in_plans c k l (query.more_of-Query q more) = plan_of c k (k + 1) (k + 1) l q ∷ in_plans c (k + 1 + ins_in q) (l + leaves_of q) more

  -- the parts of a subquery that stays, where these sets are given from outside
  pub parts_inside : Contents → Leaving → Query → List (ℕ × List Value) → ℕ → ℕ → List Part
  parts_inside c leaving (Query' cs ctes ss subs from filter_ grouped keys aggs having items shown distinct order limit offset names) outer k l =
      parts_from c leaving (relations c from 0 None) (value_set outer (conjuncts_of filter_ from)) from 0 None k (l + leaves_of_all ctes)
      ++ map Asks (in_plans c (k + ins_in_from from) (l + leaves_of_all ctes + leaves_in from) subs)

  pub parts_from : Contents → Leaving → List Relation → (ℕ → ValueSet) → FromTree → ℕ → Option OuterJoin → ℕ → ℕ → List Part
  parts_from c leaving rels sets (Table t n) start outer k l =
      part_of_table c leaving rels (record { start = start; distribution = distribution_at start (place_at c t); outer = outer }) (occurrence_of c sets start t) (Table t n) l ∷ []
  parts_from c leaving rels sets (Sub' p (more_of-Query q end_of-Query)) start outer k l =
      let given = given_to sets start (pushable c q) in
      let planner = subquery_planner c (occurrences_in c q given) in
      parts_of_subquery c leaving rels (record { start = start; distribution = distribution_by start (pushable c q); outer = outer }) (is_some (pushable c q))
      (plan_of c l k k (l + 1) q)
      (lone_plan c l planner (parts_inside c (leaving_by planner) q given k (l + 1))
      (lone_query (Sub' p (more_of-Query (query_staying c (leaving_by planner) q (l + 1)) end_of-Query)) (output_of (pushable c q)) (output_set sets start (pushable c q))))
      (parts_inside c (inside leaving) q given k (l + 1))
  parts_from c leaving rels sets (Result i n) start outer k l = []
  parts_from c leaving rels sets (Cross' p (more_of-FromTree a end_of-FromTree) q (more_of-FromTree b end_of-FromTree)) start outer k l =
      parts_from c leaving rels sets a start None k l ++ parts_from c leaving rels sets b (start + columns_in a) None (k + ins_in_from a) (l + leaves_in a)
  parts_from c leaving rels sets (Inner' p (more_of-FromTree a end_of-FromTree) q (more_of-FromTree b end_of-FromTree) on) start outer k l =
      parts_from c leaving rels sets a start None k l ++ parts_from c leaving rels sets b (start + columns_in a) None (k + ins_in_from a) (l + leaves_in a)
  parts_from c leaving rels sets (Left' p (more_of-FromTree a end_of-FromTree) q (more_of-FromTree b end_of-FromTree) on) start outer k l =
      parts_from c leaving rels sets a start None k l
      ++ parts_from c leaving rels (right_sets sets (sets_in c sets a start) (distribution_in c b (start + columns_in a)) start (start + columns_in a) on) b (start + columns_in a)
      (Some (record { left = start; equalities = equalities (conjuncts on) })) (k + ins_in_from a) (l + leaves_in a)

-- ---- a statement

-- how many CTEs and IN subqueries there are: their results have the numbers below, as in the bound query, and those of relations the numbers from there on
abbrev pub first_free : Query → ℕ
first_free q = length (steps_of q)

-- how many CTEs, behind whose results are those of the IN subqueries in them
abbrev pub ctes_of : Query → ℕ
ctes_of (Query' cs ctes ss subs from filter_ grouped keys aggs having items shown distinct order limit offset names) = count_of ctes

-- and behind these those of the other IN subqueries
abbrev pub first_in : Query → ℕ
first_in (Query' cs ctes ss subs from filter_ grouped keys aggs having items shown distinct order limit offset names) = count_of ctes + ins_in_ctes ctes

-- the plan of a statement's query. Its own rows become the last result
abbrev pub whole_plan : Contents → Query → Plan
whole_plan c q = plan_of c (first_free q + leaves_of q) (ctes_of q) (first_in q) (first_free q) q

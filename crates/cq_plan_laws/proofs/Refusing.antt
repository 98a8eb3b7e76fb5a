-- A statement is refused by its plan as by its blocks.
use Rattle.std.proofs.Common.{◌≡◌, ℕ, ◌+◌, List, [], ◌∷◌, ◌++◌, map, filter, filter_map, length, nat_lt, Bool, true, false, not, ◌&&◌, ◌||◌, cond, if◌then◌else◌, Option, None, Some, is_some, inl, inr, refl, sym, ap, subst, ◌∙◌}
use Rattle.std.specs.List.{list_any}
use Rattle.std.proofs.lemmas.List.Folds.{list_any-append}
use Rattle.cq_value.specs.declared.value.Value.{Value}
use Rattle.cq_value.proofs.Truths.{or_false, or_apart, left_false}
use Rattle.cq_tree.specs.declared.plan.Planner.{Planner}
use Rattle.cq_tree.specs.declared.plan.Planner.TheVariants.{FastPath, Router, Pushdown, Repartition, Coordinator}
use Rattle.cq_tree.specs.declared.query.FromTree.{FromTree, Table, Sub', Result, Cross', Inner', Left', end_of-FromTree, more_of-FromTree, end_of-Query, more_of-Query}
use Rattle.cq_tree.specs.declared.query.Query.{Query, Query', Row_of-Query}
use Rattle.cq_tree.specs.declared.query.Query as query
use Rattle.cq_tree.specs.declared.unsupported.Unsupported.{Unsupported}
use Rattle.cq_tree.specs.declared.unsupported.Unsupported.TheVariants.{NeedsRepartition, NoEquality, OuterJoin, LimitWithoutOrder}
use Rattle.cq_meaning.specs.Queries.{columns_in}
use Rattle.cq_meaning.specs.Results.{ins_in, ins_in_from}
use Rattle.cq_catalog.specs.Contents.{Contents}
use Rattle.cq_catalog.specs.Placement.{place_at}
use Rattle.cq_planning.specs.Blocks.{is_taken_whole, blocks_in, blocks_in_all, blocks_below, blocks_inside, subqueries_in}
use Rattle.cq_planning.specs.Classes.{first_of_class}
use Rattle.cq_planning.specs.Conjuncts.{conjuncts, conjuncts_of, equalities}
use Rattle.cq_planning.specs.Joins.{equalities_of, relations_of, are_one_component, has_several_components, are_connected, needs_repartition, lacks_equality, has_loose_join}
use Rattle.cq_planning.specs.Narrowing.{given_to, right_sets, sets_in, distribution_in}
use Rattle.cq_planning.specs.Occurrences.{Occurrence, occurrences_in, occurrences_from, occurrence_of}
use Rattle.cq_planning.specs.Pushable.{Pushable, pushable, relations, distribution_by}
use Rattle.cq_planning.specs.Refusals.{is_cut_loosely}
use Rattle.cq_planning.specs.Relations as joins
use Rattle.cq_planning.specs.Relations.{Relation, distribution_at, distributions, is_left_in_block}
use Rattle.cq_planning.specs.Routing.{are_routed, fits_fast_path, fits_router, is_none_of_them, is_one_value}
use Rattle.cq_planning.specs.ValueSets.{ValueSet, value_set}
use Rattle.cq_outline.specs.declared.joining.Joined.{Joined}
use Rattle.cq_outline.specs.Joining.{nothing_joined}
use Rattle.cq_outline.specs.declared.outline.Leaving.{Leaving}
use Rattle.cq_outline.specs.declared.outline.Leaving.TheVariants as leaving
use Rattle.cq_outline.specs.Leaving.{leaves, leaves_subquery, inside}
use Rattle.cq_outline.specs.Outlines.{table_planner, subquery_planner}
use Rattle.cq_outline.specs.Tasking.{Touch, touch_of, groups_in, planner_of, is_none_left, leaving_by, parting_by, shares_rows, shown_planner, has_reference}
use Rattle.cq_one_plan.specs.declared.plan.Grounds.{Grounds}
use Rattle.cq_one_plan.specs.declared.plan.Plan.{Plan, roll-Plan, Row_of-Plan, end_of-Plan, more_of-Plan, items-the_row-Plan, items_hidden-the_row-Plan-0}
use Rattle.cq_one_plan.specs.declared.plan.Plan.TheBlock.{hidden-the_row-Plan-0}
use Rattle.cq_one_plan.specs.declared.plan.Plan.TheOpen.{Plan-F}
use Rattle.cq_one_plan.specs.declared.plan.Part.{Part}
use Rattle.cq_one_plan.specs.declared.plan.Part.TheVariants.{Stays, Leaves, Asks}
use Rattle.cq_one_plan.specs.Stays.{leaves_in, leaves_of, leaves_of_all, from_staying, query_staying, lone_query}
use Rattle.cq_one_plan.specs.Plans as parted
use Rattle.cq_one_plan.specs.Plans.{no_grounds, grounds_of, planned_in, stays_in, plan_with, lone_plan, part_of_table, parts_of_subquery, key_of, output_of, output_set, plan_of, cte_plans, in_plans, parts_inside, parts_from, whole_plan, first_free, ctes_of, first_in}
use Rattle.cq_one_plan.specs.Reading.{blocks_in_order, blocks_of_all}
use Rattle.cq_one_plan.specs.Refusing as refusing
use Rattle.cq_one_plan.specs.Refusing.{grounds_in, needs_by, refusal_in}
use Rattle.cq_plan_laws.specs.Touching.{HasNoCtes, FromHasNone, EachHasNone, IsOutermost}
use Rattle.cq_plan_laws.specs.Refusing.{PlansRefuse}
use Rattle.cq_plan_laws.proofs.Routed.{IsRouted, first_routed, second_routed, routed_is, bare_needs, bare_lacks, bare_loose, whole_or_bare}

-- ---- truths

or_swap : (a b d : Bool) → (a || (b || d)) ≡ (b || (a || d))
or_swap true true d = refl
or_swap true false d = refl
or_swap false b d = refl

or_turn : (a b : Bool) → (a || b) ≡ (b || a)
or_turn true true = refl
or_turn true false = refl
or_turn false b = sym (or_false b)

-- ---- whether the planner is a repartition

abbrev is_repartition : Planner → Bool
is_repartition Repartition = true
is_repartition FastPath = false
is_repartition Router = false
is_repartition Pushdown = false
is_repartition Coordinator = false

-- whether all of a FROM stays
abbrev keeps_all : Leaving → Bool
keeps_all leaving.Nothing = true
keeps_all leaving.Alone = false
keeps_all leaving.Rights = false

lone_table_is : (one few : Bool) → is_repartition (if one then FastPath else (if few then Router else Pushdown)) ≡ false
lone_table_is true few = refl
lone_table_is false true = refl
lone_table_is false false = refl

lone_query_is : (routed : Bool) → is_repartition (if routed then Router else Pushdown) ≡ false
lone_query_is true = refl
lone_query_is false = refl

chosen_keeps : (fast routed none several : Bool) → keeps_all (leaving_by (if fast then FastPath else (if routed then Router else (if none then Coordinator else (if several then Repartition else Pushdown))))) ≡ (fast || routed)
chosen_keeps true routed none several = refl
chosen_keeps false true none several = refl
chosen_keeps false false true several = refl
chosen_keeps false false false true = refl
chosen_keeps false false false false = refl

whole_keeps : (c : Contents) (q : Query) → keeps_all (leaving_by (planner_of c q)) ≡ is_taken_whole c q
whole_keeps c q = chosen_keeps (fits_fast_path c q) (fits_router c q) (is_none_left (distributions (is_left_in_block (relations_of c q)) (relations_of c q))) (has_several_components c q)

-- ---- one ground

-- a test of plans that says of each block what a test of queries says
record Agrees (c : Contents) (F : Plan → Bool) (G : Query → Bool) : Type 0 where
  own : (number : ℕ) (ctes : List Plan) (parts : List Part) (stays q : Query) →
      F (plan_with c number (planner_of c q) (parting_by c (planner_of c q) q) (shares_rows (parting_by c (planner_of c q) q).class q) (grounds_of c q) ctes parts stays) ≡ G q
  lone : (number : ℕ) (planner : Planner) (parts : List Part) (stays : Query) → is_repartition planner ≡ false → F (lone_plan c number planner parts stays) ≡ false
  whole : (q : Query) → is_taken_whole c q ≡ true → G q ≡ false
  bare : (q : Query) → occurrences_in c q [] ≡ [] → G q ≡ false

none_each : {n : _} (qs : Row_of-Query n) → is_none_of_them qs ≡ true → EachHasNone qs
none_each query.end_of-Query h = tt
none_each (query.more_of-Query q more) h = cc

outermost : (q : Query) → HasNoCtes q → IsOutermost q
outermost (Query' cs ctes ss subs from filter_ grouped keys aggs having items shown distinct order limit offset names) h = (none_each ctes h.0, h.1, h.2)

module _ (c : Contents) (F : Plan → Bool) (G : Query → Bool) (agrees : Agrees c F G) where
  abbrev some : List Query → Bool
  some qs = list_any G qs

  abbrev any : Plan → Bool
  any p = list_any F (blocks_in_order p)

  abbrev any_of : List Plan → Bool
  any_of [] = false
  any_of (p ∷ ps) = any p || any_of ps

  any_row : {n : _} (ps : Row_of-Plan n) → list_any F (blocks_of_all ps) ≡ any_of (items-the_row-Plan _ ps)
  any_row end_of-Plan = refl
  any_row (more_of-Plan p more) = list_any-append F (blocks_in_order p) (blocks_of_all more) ∙ ap (λ (b : Bool). any p || b) (any_row more)

  any_rolled : (x : Plan-F Plan) → any (roll-Plan x) ≡ (any_of x.subplans || F (roll-Plan x))
  unfolding roll-Plan denote.Hole.Carrier.roll
  any_rolled x =
      list_any-append F (blocks_of_all (hidden-the_row-Plan-0 x.subplans)) (roll-Plan x ∷ [])
      ∙ (λ i. (any_row (hidden-the_row-Plan-0 x.subplans) ∙ ap any_of (items_hidden-the_row-Plan-0 x.subplans)) i || or_false (F (roll-Plan x)) i)

  any_append : (ps qs : List Plan) → any_of (ps ++ qs) ≡ (any_of ps || any_of qs)
  any_append [] qs = refl
  any_append (p ∷ ps) qs = ap (λ (b : Bool). any p || b) (any_append ps qs) ∙ sym (or_apart (any p) (any_of ps) (any_of qs))

  -- of parts
  abbrev any_in : List Part → Bool
  any_in [] = false
  any_in (Stays table groups ∷ parts) = any_in parts
  any_in (Leaves p ∷ parts) = any p || any_in parts
  any_in (Asks p ∷ parts) = any p || any_in parts

  planned_any : (parts : List Part) → (any_of (filter_map parted.leaving parts) || any_of (filter_map parted.asking parts)) ≡ any_in parts
  planned_any [] = refl
  planned_any (Stays table groups ∷ parts) = planned_any parts
  planned_any (Leaves p ∷ parts) = or_apart (any p) (any_of (filter_map parted.leaving parts)) (any_of (filter_map parted.asking parts)) ∙ ap (λ (b : Bool). any p || b) (planned_any parts)
  planned_any (Asks p ∷ parts) = or_swap (any_of (filter_map parted.leaving parts)) (any p) (any_of (filter_map parted.asking parts)) ∙ ap (λ (b : Bool). any p || b) (planned_any parts)

  in_append : (xs ys : List Part) → any_in (xs ++ ys) ≡ (any_in xs || any_in ys)
  in_append [] ys = refl
  in_append (Stays table groups ∷ xs) ys = in_append xs ys
  in_append (Leaves p ∷ xs) ys = ap (λ (b : Bool). any p || b) (in_append xs ys) ∙ sym (or_apart (any p) (any_in xs) (any_in ys))
  in_append (Asks p ∷ xs) ys = ap (λ (b : Bool). any p || b) (in_append xs ys) ∙ sym (or_apart (any p) (any_in xs) (any_in ys))

  asks_any : (ps : List Plan) → any_in (map Asks ps) ≡ any_of ps
  asks_any [] = refl
  asks_any (p ∷ ps) = ap (λ (b : Bool). any p || b) (asks_any ps)

  with_any : (number : ℕ) (planner : Planner) (parting : Joined) (shares : Bool) (grounds : Grounds) (ctes : List Plan) (parts : List Part) (q : Query) →
      any (plan_with c number planner parting shares grounds ctes parts q) ≡ ((any_of ctes || any_in parts) || F (plan_with c number planner parting shares grounds ctes parts q))
  with_any number planner parting shares grounds ctes parts q =
      any_rolled _
      ∙ ap (λ (b : Bool). b || F (plan_with c number planner parting shares grounds ctes parts q))
      (any_append ctes (planned_in parts) ∙ ap (λ (b : Bool). any_of ctes || b) (any_append (filter_map parted.leaving parts) (filter_map parted.asking parts) ∙ planned_any parts))

  lone_any : (number : ℕ) (planner : Planner) (parts : List Part) (q : Query) → is_repartition planner ≡ false → any (lone_plan c number planner parts q) ≡ any_in parts
  lone_any number planner parts q h =
      with_any number planner nothing_joined false no_grounds [] parts q ∙ (ap (λ (b : Bool). any_in parts || b) (agrees.lone number planner parts q h) ∙ or_false (any_in parts))

  -- ---- what the router takes as a right side it takes whole

  no_more : {n : _} (qs : Row_of-Query n) → is_none_of_them qs ≡ true → some (blocks_in_all c qs) ≡ false
  no_more query.end_of-Query h = refl
  no_more (query.more_of-Query q more) h = cc

  both : (xs ys us vs : List Query) → some xs ≡ some us → some ys ≡ some vs → some (xs ++ ys) ≡ some (us ++ vs)
  both xs ys us vs e f = list_any-append G xs ys ∙ ((λ i. e i || f i) ∙ sym (list_any-append G us vs))

  by_way : (q : Query) (o : Option Pushable) → pushable c q ≡ o → some (blocks_inside c false q) ≡ some (blocks_inside c true q) → (o ≡ None → some (blocks_in c q) ≡ some (blocks_inside c true q)) →
      some (if false || is_some (pushable c q) then blocks_inside c false q else blocks_in c q) ≡ some (blocks_inside c true q)
  by_way q (Some way) e stays alone = ap (λ (o : Option Pushable). some (if false || is_some o then blocks_inside c false q else blocks_in c q)) e ∙ stays
  by_way q None e stays alone = ap (λ (o : Option Pushable). some (if false || is_some o then blocks_inside c false q else blocks_in c q)) e ∙ alone refl

  none_own : (q : Query) → IsRouted c (occurrences_in c q []) → G q ≡ false
  none_own q h = elim (whole_or_bare c q (occurrences_in c q []) refl h) [ inl e ↦ agrees.whole q e | inr e ↦ agrees.bare q e ]

  either_way : (f : FromTree) (b : Bool) → some (blocks_below c false f) ≡ some (blocks_below c true f) → some (blocks_below c b f) ≡ some (blocks_below c true f)
  either_way f true e = refl
  either_way f false e = e

  mutual
    from_same : (sets : ℕ → ValueSet) (f : FromTree) (start : ℕ) → IsRouted c (occurrences_from c sets f start) → FromHasNone f → some (blocks_below c false f) ≡ some (blocks_below c true f)
    from_same sets (Table t n) start h none = refl
    from_same sets (Sub' p (more_of-Query q end_of-Query)) start h none =
        by_way q (pushable c q) refl (inside_same q (given_to sets start (pushable c q)) h none)
        (λ e. alone_same q (subst (λ (o : Option Pushable). IsRouted c (occurrences_in c q (given_to sets start o))) e h) none)
    from_same sets (Result i n) start h none = refl
    from_same sets (Cross' p (more_of-FromTree a end_of-FromTree) q (more_of-FromTree b end_of-FromTree)) start h none =
        both (blocks_below c false a) (blocks_below c false b) (blocks_below c true a) (blocks_below c true b)
        (from_same sets a start (first_routed c (occurrences_from c sets a start) (occurrences_from c sets b (start + columns_in a)) h) none.0)
        (from_same sets b (start + columns_in a) (second_routed c (occurrences_from c sets a start) (occurrences_from c sets b (start + columns_in a)) h) none.1)
    from_same sets (Inner' p (more_of-FromTree a end_of-FromTree) q (more_of-FromTree b end_of-FromTree) on) start h none =
        both (blocks_below c false a) (blocks_below c false b) (blocks_below c true a) (blocks_below c true b)
        (from_same sets a start (first_routed c (occurrences_from c sets a start) (occurrences_from c sets b (start + columns_in a)) h) none.0)
        (from_same sets b (start + columns_in a) (second_routed c (occurrences_from c sets a start) (occurrences_from c sets b (start + columns_in a)) h) none.1)
    from_same sets (Left' p (more_of-FromTree a end_of-FromTree) q (more_of-FromTree b end_of-FromTree) on) start h none =
        let sb : ℕ → ValueSet = right_sets sets (sets_in c sets a start) (distribution_in c b (start + columns_in a)) start (start + columns_in a) on in
        both (blocks_below c false a) (blocks_below c false b) (blocks_below c true a) (blocks_below c true b)
        (from_same sets a start (first_routed c (occurrences_from c sets a start) (occurrences_from c sb b (start + columns_in a)) h) none.0)
        (from_same sb b (start + columns_in a) (second_routed c (occurrences_from c sets a start) (occurrences_from c sb b (start + columns_in a)) h) none.1)

    inside_same : (q : Query) (outer : List (ℕ × List Value)) → IsRouted c (occurrences_in c q outer) → HasNoCtes q → some (blocks_inside c false q) ≡ some (blocks_inside c true q)
    inside_same (Query' cs ctes ss subs from filter_ grouped keys aggs having items shown distinct order limit offset names) outer h none =
        both (blocks_below c false from) (blocks_in_all c subs) (blocks_below c true from) (blocks_in_all c subs) (from_same (value_set outer (conjuncts_of filter_ from)) from 0 h none.1) refl

    -- a query that is planned by itself
    alone_same : (q : Query) → IsRouted c (occurrences_in c q []) → HasNoCtes q → some (blocks_in c q) ≡ some (blocks_inside c true q)
    alone_same (Query' cs ctes ss subs from filter_ grouped keys aggs having items shown distinct order limit offset names) h none =
        let q : Query = Query' cs ctes ss subs from filter_ grouped keys aggs having items shown distinct order limit offset names in
        let rest : List Query = blocks_below c (is_taken_whole c q) from ++ blocks_in_all c subs in
        (λ i. none_own q h i || (list_any-append G (blocks_in_all c ctes) rest ∙ ap (λ (b : Bool). b || some rest) (no_more ctes none.0)) i)
        ∙ both (blocks_below c (is_taken_whole c q) from) (blocks_in_all c subs) (blocks_below c true from) (blocks_in_all c subs)
        (either_way from (is_taken_whole c q) (from_same (value_set [] (conjuncts_of filter_ from)) from 0 h none.1)) refl

  -- ---- a FROM

  table_any : (leaving : Leaving) (rels : List Relation) (r : Relation) (o : Occurrence) (f : FromTree) (l : ℕ) → any_in (part_of_table c leaving rels r o f l ∷ []) ≡ false
  table_any leaving rels r o f l = by_cases (leaves leaving rels r)
    where
      lone : Plan
      lone = lone_plan c l (table_planner c (touch_of c o) o.values) (Stays o.table (touch_of c o).1 ∷ []) (lone_query f (key_of (place_at c o.table)) o.values)

      by_cases : (b : Bool) → any_in (cond b (Leaves lone) (Stays o.table (touch_of c o).1) ∷ []) ≡ false
      by_cases true = or_false (any lone) ∙ lone_any l (table_planner c (touch_of c o) o.values) (Stays o.table (touch_of c o).1 ∷ []) (lone_query f (key_of (place_at c o.table)) o.values)
          (lone_table_is (is_one_value o.values) (nat_lt (length (groups_in c (touch_of c o ∷ []))) 2))
      by_cases false = refl

  -- a subquery, by whether it can be pushed down
  sub_any : (q : Query) (leaving : Leaving) (rels : List Relation) (start : ℕ) (outer : Option joins.OuterJoin) (o : Option Pushable) (whole lone : Plan) (parts : List Part) →
      any whole ≡ some (blocks_in c q) → any lone ≡ some (blocks_inside c false q) → any_in parts ≡ some (blocks_inside c (keeps_all (inside leaving)) q) →
      any_in (parts_of_subquery c leaving rels (record { start = start; distribution = distribution_by start o; outer = outer }) (is_some o) whole lone parts)
      ≡ some (if keeps_all leaving || is_some o then blocks_inside c (keeps_all leaving) q else blocks_in c q)
  sub_any q leaving.Nothing rels start outer o whole lone parts w e p = p
  sub_any q leaving.Alone rels start outer None whole lone parts w e p = or_false (any whole) ∙ w
  sub_any q leaving.Rights rels start outer None whole lone parts w e p = or_false (any whole) ∙ w
  sub_any q leaving.Alone rels start outer (Some way) whole lone parts w e p = by_cases (leaves_subquery leaving.Alone rels (record { start = start; distribution = distribution_by start (Some way); outer = outer }))
    where
      by_cases : (b : Bool) → any_in (cond b (Leaves lone ∷ []) parts) ≡ some (blocks_inside c false q)
      by_cases true = or_false (any lone) ∙ e
      by_cases false = p
  sub_any q leaving.Rights rels start outer (Some way) whole lone parts w e p = by_cases (leaves_subquery leaving.Rights rels (record { start = start; distribution = distribution_by start (Some way); outer = outer }))
    where
      by_cases : (b : Bool) → any_in (cond b (Leaves lone ∷ []) parts) ≡ some (blocks_inside c false q)
      by_cases true = or_false (any lone) ∙ e
      by_cases false = p

  joined : (xs ys : List Part) (us vs : List Query) → any_in xs ≡ some us → any_in ys ≡ some vs → any_in (xs ++ ys) ≡ some (us ++ vs)
  joined xs ys us vs e f = in_append xs ys ∙ ((λ i. e i || f i) ∙ sym (list_any-append G us vs))

  -- a right side that is a subquery, by whether the router takes it
  routed_same : (q : Query) (os : List Occurrence) → HasNoCtes q → ((is : are_routed c os ≡ true) → some (blocks_inside c false q) ≡ some (blocks_inside c true q)) →
      some (blocks_inside c (keeps_all (leaving_by (subquery_planner c os))) q) ≡ some (blocks_inside c false q)
  routed_same q os none same = by_cases (are_routed c os) same
    where
      by_cases : (b : Bool) → (b ≡ true → some (blocks_inside c false q) ≡ some (blocks_inside c true q)) → some (blocks_inside c (keeps_all (leaving_by (if b then Router else Pushdown))) q) ≡ some (blocks_inside c false q)
      by_cases true h = sym (h refl)
      by_cases false h = refl

  mutual
    plan_any : (number kc k l : ℕ) (q : Query) → IsOutermost q → any (plan_of c number kc k l q) ≡ some (blocks_in c q)
    plan_any number kc k l (Query' cs ctes ss subs from filter_ grouped keys aggs having items shown distinct order limit offset names) none =
        let q : Query = Query' cs ctes ss subs from filter_ grouped keys aggs having items shown distinct order limit offset names in
        let planner : Planner = planner_of c q in
        let parting : Joined = parting_by c planner q in
        let lf : ℕ = l + leaves_of_all ctes in
        let xs : List Part = parts_from c (leaving_by planner) (relations c from 0 None) (value_set [] (conjuncts_of filter_ from)) from 0 None k lf in
        let ys : List Plan = in_plans c (k + ins_in_from from) (lf + leaves_in from) subs in
        let stays : Query = Query' cs ctes ss subs (from_staying c (leaving_by planner) (relations c from 0 None) from 0 None lf) filter_ grouped keys aggs having items shown distinct order limit offset names in
        let below : any_in xs ≡ some (blocks_below c (is_taken_whole c q) from) =
        from_any (leaving_by planner) (relations c from 0 None) (value_set [] (conjuncts_of filter_ from)) from 0 None k lf none.1 ∙ ap (λ (b : Bool). some (blocks_below c b from)) (whole_keeps c q) in
        with_any number planner parting (shares_rows parting.class q) (grounds_of c q) (cte_plans c 0 kc l ctes) (xs ++ map Asks ys) stays
        ∙ (or_turn (any_of (cte_plans c 0 kc l ctes) || any_in (xs ++ map Asks ys)) (F (plan_with c number planner parting (shares_rows parting.class q) (grounds_of c q) (cte_plans c 0 kc l ctes) (xs ++ map Asks ys) stays))
        ∙ (λ i. agrees.own number (cte_plans c 0 kc l ctes) (xs ++ map Asks ys) stays q i
        || ((λ i. ctes_any 0 kc l ctes none.0 i || joined xs (map Asks ys) (blocks_below c (is_taken_whole c q) from) (blocks_in_all c subs) below (asks_any ys ∙ ins_any (k + ins_in_from from) (lf + leaves_in from) subs none.2) i)
        ∙ sym (list_any-append G (blocks_in_all c ctes) (blocks_below c (is_taken_whole c q) from ++ blocks_in_all c subs))) i))

    ctes_any : {n : _} (i k l : ℕ) (qs : Row_of-Query n) → EachHasNone qs → any_of (cte_plans c i k l qs) ≡ some (blocks_in_all c qs)
    ctes_any i k l query.end_of-Query none = refl
    ctes_any i k l (query.more_of-Query q more) none = (λ j. plan_any i k k l q (outermost q none.0) j || ctes_any (i + 1) (k + ins_in q) (l + leaves_of q) more none.1 j) ∙ sym (list_any-append G (blocks_in c q) (blocks_in_all c more))

    ins_any : {n : _} (k l : ℕ) (qs : Row_of-Query n) → EachHasNone qs → any_of (in_plans c k l qs) ≡ some (blocks_in_all c qs)
    ins_any k l query.end_of-Query none = refl
    ins_any k l (query.more_of-Query q more) none = (λ j. plan_any k (k + 1) (k + 1) l q (outermost q none.0) j || ins_any (k + 1 + ins_in q) (l + leaves_of q) more none.1 j) ∙ sym (list_any-append G (blocks_in c q) (blocks_in_all c more))

    inside_any : (leaving : Leaving) (q : Query) (outer : List (ℕ × List Value)) (k l : ℕ) → HasNoCtes q → any_in (parts_inside c leaving q outer k l) ≡ some (blocks_inside c (keeps_all leaving) q)
    inside_any leaving (Query' cs ctes ss subs from filter_ grouped keys aggs having items shown distinct order limit offset names) outer k l none =
        let lf : ℕ = l + leaves_of_all ctes in
        joined (parts_from c leaving (relations c from 0 None) (value_set outer (conjuncts_of filter_ from)) from 0 None k lf) (map Asks (in_plans c (k + ins_in_from from) (lf + leaves_in from) subs))
        (blocks_below c (keeps_all leaving) from) (blocks_in_all c subs)
        (from_any leaving (relations c from 0 None) (value_set outer (conjuncts_of filter_ from)) from 0 None k lf none.1)
        (asks_any (in_plans c (k + ins_in_from from) (lf + leaves_in from) subs) ∙ ins_any (k + ins_in_from from) (lf + leaves_in from) subs none.2)

    from_any : (leaving : Leaving) (rels : List Relation) (sets : ℕ → ValueSet) (f : FromTree) (start : ℕ) (outer : Option joins.OuterJoin) (k l : ℕ) → FromHasNone f →
        any_in (parts_from c leaving rels sets f start outer k l) ≡ some (blocks_below c (keeps_all leaving) f)
    from_any leaving rels sets (Table t n) start outer k l none =
        table_any leaving rels (record { start = start; distribution = distribution_at start (place_at c t); outer = outer }) (occurrence_of c sets start t) (Table t n) l
    from_any leaving rels sets (Sub' p (more_of-Query q end_of-Query)) start outer k l none =
        let given : List (ℕ × List Value) = given_to sets start (pushable c q) in
        let planner : Planner = subquery_planner c (occurrences_in c q given) in
        let lone_parts : List Part = parts_inside c (leaving_by planner) q given k (l + 1) in
        let alone : Query = lone_query (Sub' p (more_of-Query (query_staying c (leaving_by planner) q (l + 1)) end_of-Query)) (output_of (pushable c q)) (output_set sets start (pushable c q)) in
        sub_any q leaving rels start outer (pushable c q) (plan_of c l k k (l + 1) q) (lone_plan c l planner lone_parts alone) (parts_inside c (inside leaving) q given k (l + 1))
        (plan_any l k k (l + 1) q (outermost q none))
        (lone_any l planner lone_parts alone (lone_query_is (are_routed c (occurrences_in c q given)))
        ∙ (inside_any (leaving_by planner) q given k (l + 1) none ∙ routed_same q (occurrences_in c q given) none (λ is. inside_same q given (routed_is c (occurrences_in c q given) is) none)))
        (inside_any (inside leaving) q given k (l + 1) none)
    from_any leaving rels sets (Result i n) start outer k l none = refl
    from_any leaving rels sets (Cross' p (more_of-FromTree a end_of-FromTree) q (more_of-FromTree b end_of-FromTree)) start outer k l none =
        joined (parts_from c leaving rels sets a start None k l) (parts_from c leaving rels sets b (start + columns_in a) None (k + ins_in_from a) (l + leaves_in a))
        (blocks_below c (keeps_all leaving) a) (blocks_below c (keeps_all leaving) b)
        (from_any leaving rels sets a start None k l none.0) (from_any leaving rels sets b (start + columns_in a) None (k + ins_in_from a) (l + leaves_in a) none.1)
    from_any leaving rels sets (Inner' p (more_of-FromTree a end_of-FromTree) q (more_of-FromTree b end_of-FromTree) on) start outer k l none =
        joined (parts_from c leaving rels sets a start None k l) (parts_from c leaving rels sets b (start + columns_in a) None (k + ins_in_from a) (l + leaves_in a))
        (blocks_below c (keeps_all leaving) a) (blocks_below c (keeps_all leaving) b)
        (from_any leaving rels sets a start None k l none.0) (from_any leaving rels sets b (start + columns_in a) None (k + ins_in_from a) (l + leaves_in a) none.1)
    from_any leaving rels sets (Left' p (more_of-FromTree a end_of-FromTree) q (more_of-FromTree b end_of-FromTree) on) start outer k l none =
        let sb : ℕ → ValueSet = right_sets sets (sets_in c sets a start) (distribution_in c b (start + columns_in a)) start (start + columns_in a) on in
        let o : Option joins.OuterJoin = Some (record { left = start; equalities = equalities (conjuncts on) }) in
        joined (parts_from c leaving rels sets a start None k l) (parts_from c leaving rels sb b (start + columns_in a) o (k + ins_in_from a) (l + leaves_in a))
        (blocks_below c (keeps_all leaving) a) (blocks_below c (keeps_all leaving) b)
        (from_any leaving rels sets a start None k l none.0) (from_any leaving rels sb b (start + columns_in a) o (k + ins_in_from a) (l + leaves_in a) none.1)

-- ---- the three grounds of blocks

grounds_rolled : (x : Plan-F Plan) → grounds_in (roll-Plan x) ≡ x.grounds
unfolding roll-Plan denote.Hole.Carrier.roll
grounds_rolled x = refl

needs_rolled : (repartition : Bool) (x : Plan-F Plan) → refusing.needs_repartition repartition (roll-Plan x) ≡ needs_by repartition x.planner x.grounds
unfolding roll-Plan denote.Hole.Carrier.roll
needs_rolled repartition x = refl

-- a block without a distributed relation has no components
is_left : (rels : List Relation) (r : Relation) → joins.is_plain r ≡ true → is_left_in_block rels r ≡ true
is_left rels r h = plain_left (joins.is_distributed r) (joins.is_right r) (joins.has_distributed_left rels r.start r.outer) h
  where
    plain_left : (d o l : Bool) → (d && not o) ≡ true → (d && (not o || l)) ≡ true
    plain_left true false l h = refl
    plain_left true true l h = cc
    plain_left false o l h = cc

plain_among : (all rels : List Relation) → is_none_left (distributions (is_left_in_block all) rels) ≡ true → distributions joins.is_plain rels ≡ []
plain_among all [] h = refl
plain_among all (r ∷ rels) h = by_cases (joins.is_plain r) (is_left_in_block all r) (is_left all r) (plain_among all rels) h
  where
    by_cases : (a b : Bool) → (a ≡ true → b ≡ true) → (is_none_left (distributions (is_left_in_block all) rels) ≡ true → distributions joins.is_plain rels ≡ []) →
        is_none_left (map joins.distribution_of (cond b (r ∷ filter (is_left_in_block all) rels) (filter (is_left_in_block all) rels))) ≡ true →
        map joins.distribution_of (cond a (r ∷ filter joins.is_plain rels) (filter joins.is_plain rels)) ≡ []
    by_cases true true i more h = cc
    by_cases true false i more h = let e : false ≡ true = i refl in cc
    by_cases false true i more h = cc
    by_cases false false i more h = more h

none_several : (c : Contents) (q : Query) → is_none_left (distributions (is_left_in_block (relations_of c q)) (relations_of c q)) ≡ true → has_several_components c q ≡ false
none_several c q h = ap (λ ds. not (are_one_component (first_of_class (equalities_of q)) ds)) (plain_among (relations_of c q) (relations_of c q) h)

module _ (repartition : Bool) (c : Contents) where
  -- the planner of a block, and whether its components are connected
  chosen_needs : (touches : List Touch) (fast routed none several connected : Bool) (g : Grounds) → g.lacks_equality ≡ (not (fast || routed) && (several && not connected)) → (none ≡ true → several ≡ false) →
      needs_by repartition (shown_planner c (if fast then FastPath else (if routed then Router else (if none then Coordinator else (if several then Repartition else Pushdown)))) touches) g
      ≡ (not (fast || routed) && (several && (connected && not repartition)))
  chosen_needs touches true routed none several connected g l n = refl
  chosen_needs touches false true none several connected g l n = refl
  chosen_needs touches false false true several connected g l n = shown (has_reference c touches) ∙ sym (ap (λ (b : Bool). b && (connected && not repartition)) (n refl))
    where
      shown : (b : Bool) → needs_by repartition (if b then Router else Coordinator) g ≡ false
      shown true = refl
      shown false = refl
  chosen_needs touches false false false true connected g l n = ap (λ (b : Bool). not b && not repartition) l ∙ ap (λ (b : Bool). b && not repartition) (twice connected)
    where
      twice : (b : Bool) → not (not b) ≡ b
      twice true = refl
      twice false = refl
  chosen_needs touches false false false false connected g l n = refl

  lone_needs : (planner : Planner) (touches : List Touch) → is_repartition planner ≡ false → needs_by repartition (shown_planner c planner touches) no_grounds ≡ false
  lone_needs FastPath touches h = refl
  lone_needs Router touches h = refl
  lone_needs Pushdown touches h = refl
  lone_needs Repartition touches h = cc
  lone_needs Coordinator touches h = shown (has_reference c touches)
    where
      shown : (b : Bool) → needs_by repartition (if b then Router else Coordinator) no_grounds ≡ false
      shown true = refl
      shown false = refl

  needs_agree : Agrees c (refusing.needs_repartition repartition) (needs_repartition repartition c)
  needs_agree = record {
    own = λ number ctes parts stays q. needs_rolled repartition _
        ∙ chosen_needs (stays_in parts) (fits_fast_path c q) (fits_router c q) (is_none_left (distributions (is_left_in_block (relations_of c q)) (relations_of c q))) (has_several_components c q) (are_connected c q) (grounds_of c q) refl (none_several c q);
    lone = λ number planner parts stays h. needs_rolled repartition _ ∙ lone_needs planner (stays_in parts) h;
    whole = λ q h. left_false (not (is_taken_whole c q)) _ (ap not h);
    bare = λ q h. bare_needs c repartition q h;
  }

  lacks_agree : Agrees c (λ b. (grounds_in b).lacks_equality) (lacks_equality c)
  lacks_agree = record {
    own = λ number ctes parts stays q. ap (λ (g : Grounds). g.lacks_equality) (grounds_rolled _);
    lone = λ number planner parts stays h. ap (λ (g : Grounds). g.lacks_equality) (grounds_rolled _);
    whole = λ q h. left_false (not (is_taken_whole c q)) _ (ap not h);
    bare = λ q h. bare_lacks c q h;
  }

  loose_agree : Agrees c (λ b. (grounds_in b).has_loose_join) (has_loose_join c)
  loose_agree = record {
    own = λ number ctes parts stays q. ap (λ (g : Grounds). g.has_loose_join) (grounds_rolled _);
    lone = λ number planner parts stays h. ap (λ (g : Grounds). g.has_loose_join) (grounds_rolled _);
    whole = λ q h. left_false (not (is_taken_whole c q)) _ (ap not h);
    bare = λ q h. bare_loose c q h;
  }

  -- and of the statement
  cut_is : (number kc k l : ℕ) (q : Query) → (grounds_in (plan_of c number kc k l q)).has_loose_cut ≡ list_any is_cut_loosely (subqueries_in q)
  cut_is number kc k l (Query' cs ctes ss subs from filter_ grouped keys aggs having items shown distinct order limit offset names) = ap (λ (g : Grounds). g.has_loose_cut) (grounds_rolled _)

abbrev lowest : Bool → Bool → Bool → Bool → Option Unsupported
lowest needs lacks loose cut = if needs then Some NeedsRepartition else (if lacks then Some NoEquality else (if loose then Some OuterJoin else (if cut then Some LimitWithoutOrder else None)))

pub plans_refuse : PlansRefuse
plans_refuse repartition c q none =
    (λ i. lowest (plan_any c (refusing.needs_repartition repartition) (needs_repartition repartition c) (needs_agree repartition c) (first_free q + leaves_of q) (ctes_of q) (first_in q) (first_free q) q none i)
    (plan_any c (λ b. (grounds_in b).lacks_equality) (lacks_equality c) (lacks_agree repartition c) (first_free q + leaves_of q) (ctes_of q) (first_in q) (first_free q) q none i)
    (plan_any c (λ b. (grounds_in b).has_loose_join) (has_loose_join c) (loose_agree repartition c) (first_free q + leaves_of q) (ctes_of q) (first_in q) (first_free q) q none i)
    (cut_is repartition c (first_free q + leaves_of q) (ctes_of q) (first_in q) (first_free q) q i))

-- A plan whose blocks are answered answers its statement.
use Rattle.std.proofs.Common.{◌≡◌, ◌+◌, ℕ, List, [], ◌∷◌, ◌++◌, map, filter, filter_map, Bool, true, false, cond, Option, None, Some, refl, subst}
use Rattle.std.specs.Prelude.{is_some, ⊤}
use Rattle.std.specs.List.{AllByRecursion}
use Rattle.std.proofs.lemmas.List.Sorted.{IsPermutation-refl}
use Rattle.cq_value.proofs.Lists.{all_append, all_left, all_right}
use Rattle.cq_value.proofs.Truths.{and_both}
use Rattle.cq_value.specs.declared.value.Value.{Value}
use Rattle.cq_tree.specs.declared.plan.Planner.{Planner}
use Rattle.cq_tree.specs.declared.query.FromTree.{FromTree, Table, Sub', Result, Cross', Inner', Left', end_of-FromTree, more_of-FromTree, end_of-Query, more_of-Query}
use Rattle.cq_tree.specs.declared.query.Query.{Query, Query', Row_of-Query}
use Rattle.cq_tree.specs.declared.query.Query as query
use Rattle.cq_meaning.specs.Values.{Results, Tables, table_rows, result_at}
use Rattle.cq_meaning.specs.Queries.{columns_in, outputs_of, from_rows, AnswersWith}
use Rattle.cq_meaning.specs.Results.{ins_in, ins_in_from, ins_in_ctes, count_of}
use Rattle.cq_meaning_laws.specs.Settled.{IsSettled, IsSettledFrom, IsSettledBelow}
use Rattle.cq_meaning_laws.specs.WholeRules.{Step, steps_in, steps_in_from, steps_in_all, steps_in_ctes}
use Rattle.cq_subplan_laws.proofs.Settling.{below}
use Rattle.cq_catalog.specs.Contents.{Contents}
use Rattle.cq_catalog.specs.Placement.{place_at}
use Rattle.cq_catalog.specs.declared.info.Place.{Place}
use Rattle.cq_catalog.specs.declared.info.Place.TheVariants.{Local, Distributed, Reference}
use Rattle.cq_planning.specs.Conjuncts.{conjuncts, conjuncts_of, equalities}
use Rattle.cq_planning.specs.ValueSets.{ValueSet, value_set}
use Rattle.cq_planning.specs.Relations.{OuterJoin, Relation, distribution_at, is_distributed}
use Rattle.cq_planning.specs.Pushable.{Pushable, pushable, relations, distribution_by}
use Rattle.cq_planning.specs.Narrowing.{distribution_in, right_sets, sets_in, given_to}
use Rattle.cq_planning.specs.Occurrences.{Occurrence, key_values, occurrence_of, occurrences_in}
use Rattle.cq_planning_laws.specs.Laid.{IsLaid, IsLaidFrom, IsColumnOf}
use Rattle.cq_planning_laws.proofs.Columns.{fits}
use Rattle.cq_planning_laws.proofs.Pushing.{pushes_through}
use Rattle.cq_planning_laws.proofs.RowFacts.{IsWide}
use Rattle.cq_outline.specs.declared.joining.Joined.{Joined}
use Rattle.cq_outline.specs.Joining.{nothing_joined}
use Rattle.cq_outline.specs.declared.outline.Leaving.{Leaving}
use Rattle.cq_outline.specs.declared.outline.Leaving.TheVariants as leaving
use Rattle.cq_outline.specs.Leaving.{leaves, leaves_subquery, inside}
use Rattle.cq_outline.specs.Tasking.{touch_of, planner_of, leaving_by, parting_by, shares_rows}
use Rattle.cq_outline.specs.Outlines.{table_planner, subquery_planner}
use Rattle.cq_pushdown_laws.specs.Pushed.{is_single}
use Rattle.cq_frame_laws.specs.Frames.{StandsFor, IsFrame, relation, cross, inner, left}
use Rattle.cq_one_plan.specs.declared.plan.Grounds.{Grounds}
use Rattle.cq_one_plan.specs.declared.plan.Plan.{Plan, roll-Plan, Row_of-Plan, end_of-Plan, more_of-Plan, items-the_row-Plan, items_hidden-the_row-Plan-0}
use Rattle.cq_one_plan.specs.declared.plan.Plan.TheBlock.{hidden-the_row-Plan-0}
use Rattle.cq_one_plan.specs.declared.plan.Plan.TheOpen.{Plan-F}
use Rattle.cq_one_plan.specs.declared.plan.Part.{Part}
use Rattle.cq_one_plan.specs.declared.plan.Part.TheVariants.{Stays, Leaves, Asks}
use Rattle.cq_one_plan.specs.Stays.{leaves_in, leaves_of, leaves_of_all, result_if, from_staying, query_staying, lone_query}
use Rattle.cq_one_plan.specs.Plans as parted
use Rattle.cq_one_plan.specs.Plans.{no_grounds, grounds_of, planned_in, plan_with, lone_plan, part_of_table, parts_of_subquery, key_of, output_of, output_set, plan_of, cte_plans, in_plans, parts_inside, parts_from, whole_plan, first_free, ctes_of, first_in}
use Rattle.cq_plan_laws.specs.Laws.{with_from}
use Rattle.cq_plan_laws.specs.Composing.{IsAnswered, AreAnswered, StepAnswered, IsBase, IsSound, PlansAnswer}
use Rattle.cq_plan_laws.proofs.Standing.{sub_stands, right_sides_stand, frames_answer}
use Rattle.cq_plan_laws.proofs.Passing.{sub_passes}

module _ (c : Contents) (widths : ℕ → ℕ) (db : Tables) (rs : Results) (base : IsBase c widths db rs) where
  -- ---- plans as lists

  abbrev Done : Plan → Type 0
  Done p = IsAnswered db rs p

  abbrev PartDone : Part → Type 0
  PartDone (Stays table groups) = ⊤
  PartDone (Leaves p) = Done p
  PartDone (Asks p) = Done p

  abbrev Sound : Step → Type 0
  Sound s = IsSound c widths s

  abbrev StepDone : Step → Type 0
  StepDone s = StepAnswered db rs s

  done_row : {n : _} (ps : Row_of-Plan n) → AreAnswered db rs ps → AllByRecursion Done (items-the_row-Plan _ ps)
  done_row end_of-Plan h = tt
  done_row (more_of-Plan p more) h = (h.0, done_row more h.1)

  done_hidden : (ps : List Plan) → AreAnswered db rs (hidden-the_row-Plan-0 ps) → AllByRecursion Done ps
  done_hidden ps h = subst (AllByRecursion Done) (items_hidden-the_row-Plan-0 ps) (done_row (hidden-the_row-Plan-0 ps) h)

  rolled : (x : Plan-F Plan) → Done (roll-Plan x) → AllByRecursion Done x.subplans × AnswersWith x.query db rs (result_at rs x.number)
  unfolding roll-Plan denote.Hole.Carrier.roll
  rolled x h = (done_hidden x.subplans h.0, h.1)

  parts_done : (parts : List Part) → AllByRecursion Done (filter_map parted.leaving parts) → AllByRecursion Done (filter_map parted.asking parts) → AllByRecursion PartDone parts
  parts_done [] a b = tt
  parts_done (Stays table groups ∷ parts) a b = (tt, parts_done parts a b)
  parts_done (Leaves p ∷ parts) a b = (a.0, parts_done parts a.1 b)
  parts_done (Asks p ∷ parts) a b = (b.0, parts_done parts a b.1)

  with_done : (number : ℕ) (planner : Planner) (parting : Joined) (shares : Bool) (grounds : Grounds) (ctes : List Plan) (parts : List Part) (q : Query) → Done (plan_with c number planner parting shares grounds ctes parts q) →
      AllByRecursion Done ctes × AllByRecursion PartDone parts × AnswersWith q db rs (result_at rs number)
  with_done number planner parting shares grounds ctes parts q h =
      let u = rolled _ h in
      let planned : AllByRecursion Done (planned_in parts) = all_right Done ctes (planned_in parts) u.0 in (
        all_left Done ctes (planned_in parts) u.0,
        parts_done parts (all_left Done (filter_map parted.leaving parts) (filter_map parted.asking parts) planned) (all_right Done (filter_map parted.leaving parts) (filter_map parted.asking parts) planned),
        u.1,
      )

  asked : (ps : List Plan) → AllByRecursion PartDone (map Asks ps) → AllByRecursion Done ps
  asked [] h = tt
  asked (p ∷ ps) h = (h.0, asked ps h.1)

  -- ---- one relation

  itself : (sets : ℕ → ValueSet) (f : FromTree) (start : ℕ) → is_single f ≡ true → AllByRecursion (IsWide (columns_in f)) (from_rows f start db rs) → StandsFor c db db rs sets f f start
  itself sets f start single wide = record { single = single; columns = refl; wide = wide; new_wide = wide; rows = IsPermutation-refl (filter (fits sets start (columns_in f)) (from_rows f start db rs)) }

  table_itself : (sets : ℕ → ValueSet) (t n start : ℕ) → IsLaidFrom c widths (Table t n) → StandsFor c db db rs sets (Table t n) (Table t n) start
  table_itself sets t n start laid = itself sets (Table t n) start refl (subst (λ m. AllByRecursion (IsWide m) (table_rows db t)) laid.0 (base.tables t n laid.1))

  leaving_distributed : (leaving : Leaving) (rels : List Relation) (r : Relation) → leaves leaving rels r ≡ true → is_distributed r ≡ true
  leaving_distributed leaving.Nothing rels r h = cc
  leaving_distributed leaving.Alone rels r h = (and_both (is_distributed r) _ h).0
  leaving_distributed leaving.Rights rels r h = (and_both (is_distributed r) _ h).0

  lone_table : (sets : ℕ → ValueSet) (t n start l : ℕ) → IsLaidFrom c widths (Table t n) → (p : Place) → place_at c t ≡ p → is_some (distribution_at start p) ≡ true →
      AnswersWith (lone_query (Table t n) (key_of p) (key_values sets start p)) db rs (result_at rs l) → StandsFor c db db rs sets (Table t n) (Result l n) start
  lone_table sets t n start l laid Local e d h = cc
  lone_table sets t n start l laid (Reference group shard) e d h = cc
  lone_table sets t n start l laid (Distributed at colocation first_shard) e d h =
      right_sides_stand c db rs sets (Table t n) (Table t n) start l at (subst (IsColumnOf n) e laid.1) refl (table_itself sets t n start laid) h

  table_done : (leaving : Leaving) (rels : List Relation) (sets : ℕ → ValueSet) (t n start : ℕ) (outer : Option OuterJoin) (l : ℕ) → IsLaidFrom c widths (Table t n) →
      let r : Relation = record { start = start; distribution = distribution_at start (place_at c t); outer = outer } in
      PartDone (part_of_table c leaving rels r (occurrence_of c sets start t) (Table t n) l) → StandsFor c db db rs sets (Table t n) (result_if (leaves leaving rels r) l n (Table t n)) start
  table_done leaving rels sets t n start outer l laid h = by_cases (leaves leaving rels r) refl h
    where
      r : Relation
      r = record { start = start; distribution = distribution_at start (place_at c t); outer = outer }

      o : Occurrence
      o = occurrence_of c sets start t

      lone : Plan
      lone = lone_plan c l (table_planner c (touch_of c o) o.values) (Stays t (touch_of c o).1 ∷ []) (lone_query (Table t n) (key_of (place_at c t)) (key_values sets start (place_at c t)))

      by_cases : (b : Bool) → leaves leaving rels r ≡ b → PartDone (cond b (Leaves lone) (Stays t (touch_of c o).1)) → StandsFor c db db rs sets (Table t n) (result_if b l n (Table t n)) start
      by_cases false e h = table_itself sets t n start laid
      by_cases true e h =
          lone_table sets t n start l laid (place_at c t) refl (leaving_distributed leaving rels r e)
          (with_done l (table_planner c (touch_of c o) o.values) nothing_joined false no_grounds [] (Stays t (touch_of c o).1 ∷ []) (lone_query (Table t n) (key_of (place_at c t)) (key_values sets start (place_at c t))) h).2

  -- a subquery of a FROM, by what is known of it as a plan of its own, and where it stays
  sub_done : (leaving : Leaving) (rels : List Relation) (sets : ℕ → ValueSet) (start : ℕ) {p : _} (q : Query) (outer : Option OuterJoin) (k l : ℕ) → IsLaid c widths q → IsSettled q →
      (Done (plan_of c l k k (l + 1) q) → AnswersWith q db rs (result_at rs l) × AllByRecursion StepDone (steps_in k q)) →
      ((out : Leaving) → AllByRecursion PartDone (parts_inside c out q (given_to sets start (pushable c q)) k (l + 1)) →
      StandsFor c db db rs sets (Sub' p (more_of-Query q end_of-Query)) (Sub' p (more_of-Query (query_staying c out q (l + 1)) end_of-Query)) start × AllByRecursion StepDone (steps_in k q)) →
      AllByRecursion PartDone (parts_from c leaving rels sets (Sub' p (more_of-Query q end_of-Query)) start outer k l) →
      IsFrame c db db rs sets (Sub' p (more_of-Query q end_of-Query)) (from_staying c leaving rels (Sub' p (more_of-Query q end_of-Query)) start outer l) start × AllByRecursion StepDone (steps_in k q)
  sub_done leaving rels sets start {p} q outer k l laid settled as_plan inside_case h = by_cases (leaves_subquery leaving rels r) h
    where
      r : Relation
      r = record { start = start; distribution = distribution_by start (pushable c q); outer = outer }

      given : List (ℕ × List Value)
      given = given_to sets start (pushable c q)

      planner : Planner
      planner = subquery_planner c (occurrences_in c q given)

      lone_parts : List Part
      lone_parts = parts_inside c (leaving_by planner) q given k (l + 1)

      alone : FromTree
      alone = Sub' p (more_of-Query (query_staying c (leaving_by planner) q (l + 1)) end_of-Query)

      lone : Plan
      lone = lone_plan c l planner lone_parts (lone_query alone (output_of (pushable c q)) (output_set sets start (pushable c q)))

      by_push : (o : Option Pushable) → pushable c q ≡ o → Done (cond (is_some o) lone (plan_of c l k k (l + 1) q)) →
          IsFrame c db db rs sets (Sub' p (more_of-Query q end_of-Query)) (Result l (outputs_of q)) start × AllByRecursion StepDone (steps_in k q)
      by_push None e h = let u = as_plan h in (relation (sub_stands c widths db rs sets {p = p} q start l laid settled u.0), u.1)
      by_push (Some pushed) e h =
          let u = with_done l planner nothing_joined false no_grounds [] lone_parts (lone_query alone (output_of (pushable c q)) (output_set sets start (pushable c q))) h in
          let v = inside_case (leaving_by planner) u.1 in (
            relation (right_sides_stand c db rs sets (Sub' p (more_of-Query q end_of-Query)) alone start l pushed.output (pushes_through c q pushed e).0 refl v.0
                (subst (λ (o : Option Pushable). AnswersWith (lone_query alone (output_of o) (output_set sets start o)) db rs (result_at rs l)) e u.2)),
            v.1,
          )

      by_cases : (b : Bool) → AllByRecursion PartDone (cond b (Leaves (cond (is_some (pushable c q)) lone (plan_of c l k k (l + 1) q)) ∷ []) (parts_inside c (inside leaving) q given k (l + 1))) →
          IsFrame c db db rs sets (Sub' p (more_of-Query q end_of-Query)) (result_if b l (outputs_of q) (Sub' p (more_of-Query (query_staying c (inside leaving) q (l + 1)) end_of-Query))) start
          × AllByRecursion StepDone (steps_in k q)
      by_cases true h = by_push (pushable c q) refl h.0
      by_cases false h = let v = inside_case (inside leaving) h in (relation v.0, v.1)

  -- ---- queries

  mutual
    plan_done : (number kc k l : ℕ) (q : Query) → IsLaid c widths q → IsSettledBelow q → AllByRecursion Sound (steps_in k q) → Done (plan_of c number kc k l q) →
        AnswersWith q db rs (result_at rs number) × AllByRecursion StepDone (steps_in k q)
    plan_done number kc k l (Query' cs ctes ss subs from filter_ grouped keys aggs having items shown distinct order limit offset names) laid settled sound h =
        let q : Query = Query' cs ctes ss subs from filter_ grouped keys aggs having items shown distinct order limit offset names in
        let planner : Planner = planner_of c q in
        let parting : Joined = parting_by c planner q in
        let lf : ℕ = l + leaves_of_all ctes in
        let g : FromTree = from_staying c (leaving_by planner) (relations c from 0 None) from 0 None lf in
        let xs : List Part = parts_from c (leaving_by planner) (relations c from 0 None) (value_set [] (conjuncts_of filter_ from)) from 0 None k lf in
        let ys : List Part = map Asks (in_plans c (k + ins_in_from from) (lf + leaves_in from) subs) in
        let u = with_done number planner parting (shares_rows parting.class q) (grounds_of c q) (cte_plans c 0 kc l ctes) (xs ++ ys) (with_from g q) h in
        let v = from_done (leaving_by planner) (relations c from 0 None) (value_set [] (conjuncts_of filter_ from)) from 0 None k lf laid.0 settled
        (all_left Sound (steps_in_from k from) (steps_in_all (k + ins_in_from from) subs) sound) (all_left PartDone xs ys u.1) in
        let w = ins_done (k + ins_in_from from) (lf + leaves_in from) subs (all_right Sound (steps_in_from k from) (steps_in_all (k + ins_in_from from) subs) sound)
        (asked (in_plans c (k + ins_in_from from) (lf + leaves_in from) subs) (all_right PartDone xs ys u.1)) in (
          (frames_answer c db db rs q g v.0).0 (result_at rs number) u.2,
          all_append StepDone (steps_in_from k from) (steps_in_all (k + ins_in_from from) subs) v.1 w,
        )

    ins_done : (k l : ℕ) {n : _} (qs : Row_of-Query n) → AllByRecursion Sound (steps_in_all k qs) → AllByRecursion Done (in_plans c k l qs) → AllByRecursion StepDone (steps_in_all k qs)
    ins_done k l query.end_of-Query sound h = tt
    ins_done k l (query.more_of-Query q more) sound h =
        let s : Step = record { number = k; query = q } in
        let rest : List Step = steps_in_all (k + 1 + ins_in q) more in
        let own = all_right Sound (steps_in (k + 1) q) (s ∷ rest) sound in
        let u = plan_done k (k + 1) (k + 1) l q own.0.0 (below q own.0.1) (all_left Sound (steps_in (k + 1) q) (s ∷ rest) sound) h.0 in
        all_append StepDone (steps_in (k + 1) q) (s ∷ rest) u.1 (u.0, ins_done (k + 1 + ins_in q) (l + leaves_of q) more own.1 h.1)

    -- a subquery that stays, where its own parts are done
    inside_done : (leaving : Leaving) (sets : ℕ → ValueSet) (start : ℕ) {p : _} (q : Query) (k l : ℕ) → IsLaid c widths q → IsSettled q → AllByRecursion Sound (steps_in k q) →
        AllByRecursion PartDone (parts_inside c leaving q (given_to sets start (pushable c q)) k l) →
        StandsFor c db db rs sets (Sub' p (more_of-Query q end_of-Query)) (Sub' p (more_of-Query (query_staying c leaving q l) end_of-Query)) start × AllByRecursion StepDone (steps_in k q)
    inside_done leaving sets start {p} (Query' cs ctes ss subs from filter_ grouped keys aggs having items shown distinct order limit offset names) k l laid settled sound h =
        let q : Query = Query' cs ctes ss subs from filter_ grouped keys aggs having items shown distinct order limit offset names in
        let outer : List (ℕ × List Value) = given_to sets start (pushable c q) in
        let lf : ℕ = l + leaves_of_all ctes in
        let g : FromTree = from_staying c leaving (relations c from 0 None) from 0 None lf in
        let xs : List Part = parts_from c leaving (relations c from 0 None) (value_set outer (conjuncts_of filter_ from)) from 0 None k lf in
        let ys : List Part = map Asks (in_plans c (k + ins_in_from from) (lf + leaves_in from) subs) in
        let v = from_done leaving (relations c from 0 None) (value_set outer (conjuncts_of filter_ from)) from 0 None k lf laid.0 settled.1
        (all_left Sound (steps_in_from k from) (steps_in_all (k + ins_in_from from) subs) sound) (all_left PartDone xs ys h) in
        let w = ins_done (k + ins_in_from from) (lf + leaves_in from) subs (all_right Sound (steps_in_from k from) (steps_in_all (k + ins_in_from from) subs) sound)
        (asked (in_plans c (k + ins_in_from from) (lf + leaves_in from) subs) (all_right PartDone xs ys h)) in (
          sub_passes c widths db rs sets start {p = p} q g laid settled v.0,
          all_append StepDone (steps_in_from k from) (steps_in_all (k + ins_in_from from) subs) v.1 w,
        )

    -- a FROM with the results of what leaves it
    from_done : (leaving : Leaving) (rels : List Relation) (sets : ℕ → ValueSet) (f : FromTree) (start : ℕ) (outer : Option OuterJoin) (k l : ℕ) → IsLaidFrom c widths f → IsSettledFrom f →
        AllByRecursion Sound (steps_in_from k f) → AllByRecursion PartDone (parts_from c leaving rels sets f start outer k l) →
        IsFrame c db db rs sets f (from_staying c leaving rels f start outer l) start × AllByRecursion StepDone (steps_in_from k f)
    from_done leaving rels sets (Table t n) start outer k l laid settled sound h = (relation (table_done leaving rels sets t n start outer l laid h.0), tt)
    from_done leaving rels sets (Sub' p (more_of-Query q end_of-Query)) start outer k l laid settled sound h =
        sub_done leaving rels sets start {p = p} q outer k l laid settled (λ d. plan_done l k k (l + 1) q laid (below q settled) sound d) (λ out d. inside_done out sets start {p = p} q k (l + 1) laid settled sound d) h
    from_done leaving rels sets (Result i n) start outer k l laid settled sound h =
        (relation (itself sets (Result i n) start refl (subst (λ m. AllByRecursion (IsWide m) (result_at rs i)) laid (base.results i))), tt)
    from_done leaving rels sets (Cross' p (more_of-FromTree a end_of-FromTree) q (more_of-FromTree b end_of-FromTree)) start outer k l laid settled sound h =
        let u = from_done leaving rels sets a start None k l laid.0 settled.0 (all_left Sound (steps_in_from k a) (steps_in_from (k + ins_in_from a) b) sound)
        (all_left PartDone (parts_from c leaving rels sets a start None k l) (parts_from c leaving rels sets b (start + columns_in a) None (k + ins_in_from a) (l + leaves_in a)) h) in
        let v = from_done leaving rels sets b (start + columns_in a) None (k + ins_in_from a) (l + leaves_in a) laid.1 settled.1 (all_right Sound (steps_in_from k a) (steps_in_from (k + ins_in_from a) b) sound)
        (all_right PartDone (parts_from c leaving rels sets a start None k l) (parts_from c leaving rels sets b (start + columns_in a) None (k + ins_in_from a) (l + leaves_in a)) h) in
        (cross u.0 v.0, all_append StepDone (steps_in_from k a) (steps_in_from (k + ins_in_from a) b) u.1 v.1)
    from_done leaving rels sets (Inner' p (more_of-FromTree a end_of-FromTree) q (more_of-FromTree b end_of-FromTree) on) start outer k l laid settled sound h =
        let u = from_done leaving rels sets a start None k l laid.0 settled.0 (all_left Sound (steps_in_from k a) (steps_in_from (k + ins_in_from a) b) sound)
        (all_left PartDone (parts_from c leaving rels sets a start None k l) (parts_from c leaving rels sets b (start + columns_in a) None (k + ins_in_from a) (l + leaves_in a)) h) in
        let v = from_done leaving rels sets b (start + columns_in a) None (k + ins_in_from a) (l + leaves_in a) laid.1 settled.1 (all_right Sound (steps_in_from k a) (steps_in_from (k + ins_in_from a) b) sound)
        (all_right PartDone (parts_from c leaving rels sets a start None k l) (parts_from c leaving rels sets b (start + columns_in a) None (k + ins_in_from a) (l + leaves_in a)) h) in
        (inner u.0 v.0, all_append StepDone (steps_in_from k a) (steps_in_from (k + ins_in_from a) b) u.1 v.1)
    from_done leaving rels sets (Left' p (more_of-FromTree a end_of-FromTree) q (more_of-FromTree b end_of-FromTree) on) start outer k l laid settled sound h =
        let sb : ℕ → ValueSet = right_sets sets (sets_in c sets a start) (distribution_in c b (start + columns_in a)) start (start + columns_in a) on in
        let o : Option OuterJoin = Some (record { left = start; equalities = equalities (conjuncts on) }) in
        let u = from_done leaving rels sets a start None k l laid.0 settled.0 (all_left Sound (steps_in_from k a) (steps_in_from (k + ins_in_from a) b) sound)
        (all_left PartDone (parts_from c leaving rels sets a start None k l) (parts_from c leaving rels sb b (start + columns_in a) o (k + ins_in_from a) (l + leaves_in a)) h) in
        let v = from_done leaving rels sb b (start + columns_in a) o (k + ins_in_from a) (l + leaves_in a) laid.1 settled.1 (all_right Sound (steps_in_from k a) (steps_in_from (k + ins_in_from a) b) sound)
        (all_right PartDone (parts_from c leaving rels sets a start None k l) (parts_from c leaving rels sb b (start + columns_in a) o (k + ins_in_from a) (l + leaves_in a)) h) in
        (left u.0 v.0, all_append StepDone (steps_in_from k a) (steps_in_from (k + ins_in_from a) b) u.1 v.1)

  ctes_done : (i k l : ℕ) {n : _} (qs : Row_of-Query n) → AllByRecursion Sound (steps_in_ctes i k qs) → AllByRecursion Done (cte_plans c i k l qs) → AllByRecursion StepDone (steps_in_ctes i k qs)
  ctes_done i k l query.end_of-Query sound h = tt
  ctes_done i k l (query.more_of-Query q more) sound h =
      let s : Step = record { number = i; query = q } in
      let rest : List Step = steps_in_ctes (i + 1) (k + ins_in q) more in
      let own = all_right Sound (steps_in k q) (s ∷ rest) sound in
      let u = plan_done i k k l q own.0.0 (below q own.0.1) (all_left Sound (steps_in k q) (s ∷ rest) sound) h.0 in
      all_append StepDone (steps_in k q) (s ∷ rest) u.1 (u.0, ctes_done (i + 1) (k + ins_in q) (l + leaves_of q) more own.1 h.1)

pub plans_answer : PlansAnswer
plans_answer c widths db rs (Query' cs ctes ss subs from filter_ grouped keys aggs having items shown distinct order limit offset names) base laid settled sound h =
    let q : Query = Query' cs ctes ss subs from filter_ grouped keys aggs having items shown distinct order limit offset names in
    let n : ℕ = count_of ctes in
    let m : ℕ = n + ins_in_ctes ctes in
    let number : ℕ = first_free q + leaves_of q in
    let xs : List Step = steps_in_ctes 0 n ctes in
    let ys : List Step = steps_in_from m from ++ steps_in_all (m + ins_in_from from) subs in
    let Sound : Step → Type 0 = IsSound c widths in
    let planner : Planner = planner_of c q in
    let parting : Joined = parting_by c planner q in
    let lf : ℕ = first_free q + leaves_of_all ctes in
    let ctes_are = (with_done c widths db rs base number planner parting (shares_rows parting.class q) (grounds_of c q) (cte_plans c 0 n (first_free q) ctes)
    (parts_from c (leaving_by planner) (relations c from 0 None) (value_set [] (conjuncts_of filter_ from)) from 0 None m lf ++ map Asks (in_plans c (m + ins_in_from from) (lf + leaves_in from) subs))
    (with_from (from_staying c (leaving_by planner) (relations c from 0 None) from 0 None lf) q) h).0 in
    let u = plan_done c widths db rs base number n m (first_free q) q laid settled (all_right Sound xs ys sound) h in
    (u.0, all_append (StepAnswered db rs) xs ys (ctes_done c widths db rs base 0 n (first_free q) ctes (all_left Sound xs ys sound) ctes_are) u.1)

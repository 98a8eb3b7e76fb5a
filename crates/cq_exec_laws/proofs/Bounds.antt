-- The blocks of a plan keep to the binder's widths.
use Rattle.std.proofs.Common.{◌≡◌, ◌+◌, ◌<◌, ℕ, List, [], ◌∷◌, ◌++◌, map, filter_map, length, Bool, true, false, cond, Option, None, Some, refl, sym, ap, subst, ◌∙◌, arith}
use Rattle.std.specs.Prelude.{is_some, slice_index_or, ⊤}
use Rattle.std.specs.List.{AllByRecursion}
use Rattle.std.proofs.lemmas.List.{length-append, get_or_append_left}
use Rattle.cq_value.proofs.Lists.{all_append, all_left, all_right}
use Rattle.cq_value.proofs.Truths.{and_both}
use Rattle.cq_value.specs.declared.value.Value.{Value}
use Rattle.cq_tree.specs.declared.plan.Planner.{Planner}
use Rattle.cq_tree.specs.declared.query.FromTree.{FromTree, Table, Sub', Result, Cross', Inner', Left', end_of-FromTree, more_of-FromTree, end_of-Query, more_of-Query}
use Rattle.cq_tree.specs.declared.query.Query.{Query, Query', Row_of-Query}
use Rattle.cq_tree.specs.declared.query.Query as query
use Rattle.cq_meaning.specs.declared.Columns.{Columns}
use Rattle.cq_meaning.specs.Lists.{Has}
use Rattle.cq_meaning.specs.Queries.{columns_in, outputs_of}
use Rattle.cq_meaning.specs.Results.{ins_in, ins_in_from, ins_in_ctes, count_of}
use Rattle.cq_meaning.specs.Widths.{table_bits, from_bits, output_bits, IsBoundFrom, IsBoundQuery}
use Rattle.cq_meaning_laws.specs.WholeRules.{Step, steps_in, steps_in_from, steps_in_all, steps_in_ctes, steps_of, IsBoundStep}
use Rattle.cq_catalog.specs.Contents.{Contents}
use Rattle.cq_catalog.specs.Placement.{place_at}
use Rattle.cq_catalog.specs.declared.info.Place.{Place}
use Rattle.cq_catalog.specs.declared.info.Place.TheVariants.{Local, Distributed, Reference}
use Rattle.cq_planning.specs.Conjuncts.{conjuncts, conjuncts_of, equalities}
use Rattle.cq_planning.specs.ValueSets.{ValueSet, value_set}
use Rattle.cq_planning.specs.Relations.{OuterJoin, Relation, distribution_at, is_distributed}
use Rattle.cq_planning.specs.Pushable.{Pushable, pushable, relations, distribution_by}
use Rattle.cq_planning.specs.Narrowing.{distribution_in, right_sets, sets_in, given_to}
use Rattle.cq_planning.specs.Occurrences.{Occurrence, key_values, occurrence_of, occurrences_in}
use Rattle.cq_planning.specs.Routing.{is_none_of_them}
use Rattle.cq_planning_laws.specs.Laid.{IsLaid, IsLaidFrom, IsLaidStep, IsColumnOf}
use Rattle.cq_planning_laws.proofs.Pushing.{pushes_through}
use Rattle.cq_outline.specs.declared.joining.Joined.{Joined}
use Rattle.cq_outline.specs.Joining.{nothing_joined}
use Rattle.cq_outline.specs.declared.outline.Leaving.{Leaving}
use Rattle.cq_outline.specs.declared.outline.Leaving.TheVariants as leaving
use Rattle.cq_outline.specs.Leaving.{leaves, leaves_subquery, inside}
use Rattle.cq_outline.specs.Tasking.{touch_of, planner_of, leaving_by, parting_by, shares_rows}
use Rattle.cq_outline.specs.Outlines.{table_planner, subquery_planner}
use Rattle.cq_one_plan.specs.declared.plan.Grounds.{Grounds}
use Rattle.cq_one_plan.specs.declared.plan.Plan.{Plan, roll-Plan, Row_of-Plan, end_of-Plan, more_of-Plan, items-the_row-Plan, items_hidden-the_row-Plan-0}
use Rattle.cq_one_plan.specs.declared.plan.Plan.TheBlock.{hidden-the_row-Plan-0}
use Rattle.cq_one_plan.specs.declared.plan.Plan.TheOpen.{Plan-F}
use Rattle.cq_one_plan.specs.declared.plan.Part.{Part}
use Rattle.cq_one_plan.specs.declared.plan.Part.TheVariants.{Stays, Leaves, Asks}
use Rattle.cq_one_plan.specs.Stays.{leaves_in, leaves_of, leaves_of_all, query_staying, lone_query}
use Rattle.cq_one_plan.specs.Plans as parted
use Rattle.cq_one_plan.specs.Plans.{no_grounds, grounds_of, planned_in, plan_with, lone_plan, part_of_table, parts_of_subquery, key_of, output_of, output_set, plan_of, cte_plans, in_plans, parts_inside, parts_from, whole_plan, first_free, ctes_of, first_in}
use Rattle.cq_plan_laws.specs.Touching.{HasNoCtes, FromHasNone, EachHasNone}
use Rattle.cq_exec_laws.specs.Bounds.{AreBoundIn, EachBoundIn, Extends, PlansAreBound}
use Rattle.cq_exec_laws.proofs.Members.{AllIn, InSet, InSets, value_set_in, right_in, from_in, given_in, key_in, output_in}
use Rattle.cq_exec_laws.proofs.Widening.{IsFine, conjuncts_fine, lone_bound}
use Rattle.cq_exec_laws.proofs.StayingBounds.{Stand, stand_left, stand_right, stand_behind, query_bits, all_query_bits, relation_bits, relations_long, query_long, all_long, FromBelow, QueryBelow, query_below, StepBelow, steps_below, has_below, query_stands}

-- the plans of a query's CTEs
abbrev plans_of_ctes : Contents → ℕ → ℕ → Query → List Plan
plans_of_ctes c kc l (Query' ts ctes ss subs from filter_ grouped keys aggs having items shown distinct order limit offset names) = cte_plans c 0 kc l ctes

-- WITH stands neither in its FROM nor in its IN subqueries
abbrev BodyHasNone : Query → Type 0
BodyHasNone (Query' ts ctes ss subs from filter_ grouped keys aggs having items shown distinct order limit offset names) = FromHasNone from × EachHasNone subs

body : (q : Query) → HasNoCtes q → BodyHasNone q
body (Query' ts ctes ss subs from filter_ grouped keys aggs having items shown distinct order limit offset names) h = (h.1, h.2)

module _ (c : Contents) (widths : ℕ → ℕ) (cs ds : Columns) (wide : Extends cs ds) where
  abbrev Bounded : Plan → Type 0
  Bounded p = AreBoundIn ds p

  abbrev PartBounded : Part → Type 0
  PartBounded (Stays table groups) = ⊤
  PartBounded (Leaves p) = Bounded p
  PartBounded (Asks p) = Bounded p

  -- a CTE or an IN subquery that is bound over results before it
  abbrev Ready : Step → Type 0
  Ready s = IsLaid c widths s.query × StepBelow (length cs.results) s × IsBoundStep cs s

  -- a FROM behind columns of these widths, whose IN subqueries have numbers from k on, and whose relations from l on
  record FineFrom (f : FromTree) (k l : ℕ) (ahead : List ℕ) : Type 0 where
    laid : IsLaidFrom c widths f
    none : FromHasNone f
    below : FromBelow (length cs.results) f
    bound : IsBoundFrom cs ahead f
    ready : AllByRecursion Ready (steps_in_from k f)
    stand : Stand ds.results l (relation_bits cs f)

  record FineQuery (q : Query) (k l : ℕ) : Type 0 where
    laid : IsLaid c widths q
    none : BodyHasNone q
    below : QueryBelow (length cs.results) q
    bound : IsBoundQuery cs q
    ready : AllByRecursion Ready (steps_in k q)
    stand : Stand ds.results l (query_bits cs q)

  -- ---- plans as lists

  row_bounded : {n : _} (ps : Row_of-Plan n) → AllByRecursion Bounded (items-the_row-Plan _ ps) → EachBoundIn ds ps
  row_bounded end_of-Plan h = tt
  row_bounded (more_of-Plan p more) h = (h.0, row_bounded more h.1)

  hidden_bounded : (ps : List Plan) → AllByRecursion Bounded ps → EachBoundIn ds (hidden-the_row-Plan-0 ps)
  hidden_bounded ps h = row_bounded (hidden-the_row-Plan-0 ps) (subst (AllByRecursion Bounded) (sym (items_hidden-the_row-Plan-0 ps)) h)

  rolled : (x : Plan-F Plan) → AllByRecursion Bounded x.subplans → IsBoundQuery ds x.query → slice_index_or ds.results x.number [] ≡ output_bits ds x.query → Bounded (roll-Plan x)
  unfolding roll-Plan denote.Hole.Carrier.roll
  rolled x h b e = (hidden_bounded x.subplans h, b, e)

  leaving_bounded : (parts : List Part) → AllByRecursion PartBounded parts → AllByRecursion Bounded (filter_map parted.leaving parts)
  leaving_bounded [] h = tt
  leaving_bounded (Stays table groups ∷ parts) h = leaving_bounded parts h.1
  leaving_bounded (Leaves p ∷ parts) h = (h.0, leaving_bounded parts h.1)
  leaving_bounded (Asks p ∷ parts) h = leaving_bounded parts h.1

  asking_bounded : (parts : List Part) → AllByRecursion PartBounded parts → AllByRecursion Bounded (filter_map parted.asking parts)
  asking_bounded [] h = tt
  asking_bounded (Stays table groups ∷ parts) h = asking_bounded parts h.1
  asking_bounded (Leaves p ∷ parts) h = asking_bounded parts h.1
  asking_bounded (Asks p ∷ parts) h = (h.0, asking_bounded parts h.1)

  with_bounded : (number : ℕ) (planner : Planner) (parting : Joined) (shares : Bool) (grounds : Grounds) (ctes : List Plan) (parts : List Part) (q : Query) → AllByRecursion Bounded ctes → AllByRecursion PartBounded parts →
      IsBoundQuery ds q → slice_index_or ds.results number [] ≡ output_bits ds q → Bounded (plan_with c number planner parting shares grounds ctes parts q)
  with_bounded number planner parting shares grounds ctes parts q h g b e =
      rolled _ (all_append Bounded ctes (planned_in parts) h (all_append Bounded (filter_map parted.leaving parts) (filter_map parted.asking parts) (leaving_bounded parts g) (asking_bounded parts g))) b e

  asks : (ps : List Plan) → AllByRecursion Bounded ps → AllByRecursion PartBounded (map Asks ps)
  asks [] h = tt
  asks (p ∷ ps) h = (h.0, asks ps h.1)

  -- ---- one relation

  lone_bounded : (l : ℕ) (planner : Planner) (parts : List Part) (f : FromTree) (y : ℕ) (set : ValueSet) → AllByRecursion PartBounded parts → IsBoundFrom ds [] f → y < columns_in f → InSet IsFine set →
      slice_index_or ds.results l [] ≡ from_bits ds f → Bounded (lone_plan c l planner parts (lone_query f y set))
  lone_bounded l planner parts f y set h b within fine e =
      let u = lone_bound ds f y set b within fine in
      with_bounded l planner nothing_joined false no_grounds [] parts (lone_query f y set) tt h u.0 (e ∙ sym u.1)

  leaving_distributed : (leaving : Leaving) (rels : List Relation) (r : Relation) → leaves leaving rels r ≡ true → is_distributed r ≡ true
  leaving_distributed leaving.Nothing rels r h = cc
  leaving_distributed leaving.Alone rels r h = (and_both (is_distributed r) _ h).0
  leaving_distributed leaving.Rights rels r h = (and_both (is_distributed r) _ h).0

  key_within : (n start : ℕ) (p : Place) → IsColumnOf n p → is_some (distribution_at start p) ≡ true → key_of p < n
  key_within n start Local h d = cc
  key_within n start (Reference group shard) h d = cc
  key_within n start (Distributed at colocation first_shard) h d = h

  table_bounded : (leaving : Leaving) (rels : List Relation) (sets : ℕ → ValueSet) (t n start : ℕ) (outer : Option OuterJoin) (k l : ℕ) (ahead : List ℕ) → FineFrom (Table t n) k l ahead → InSets IsFine sets →
      PartBounded (part_of_table c leaving rels (record { start = start; distribution = distribution_at start (place_at c t); outer = outer }) (occurrence_of c sets start t) (Table t n) l)
  table_bounded leaving rels sets t n start outer k l ahead fine fits = by_cases (leaves leaving rels r) refl
    where
      r : Relation
      r = record { start = start; distribution = distribution_at start (place_at c t); outer = outer }

      o : Occurrence
      o = occurrence_of c sets start t

      lone : Plan
      lone = lone_plan c l (table_planner c (touch_of c o) o.values) (Stays t (touch_of c o).1 ∷ []) (lone_query (Table t n) (key_of (place_at c t)) (key_values sets start (place_at c t)))

      by_cases : (b : Bool) → leaves leaving rels r ≡ b → PartBounded (cond b (Leaves lone) (Stays t (touch_of c o).1))
      by_cases false e = tt
      by_cases true e =
          let same : table_bits ds.tables t ≡ table_bits cs.tables t = ap (λ us. table_bits us t) wide.tables in
          lone_bounded l (table_planner c (touch_of c o) o.values) (Stays t (touch_of c o).1 ∷ []) (Table t n) (key_of (place_at c t)) (key_values sets start (place_at c t)) (tt, tt)
          (fine.bound ∙ ap length (sym same)) (key_within n start (place_at c t) fine.laid.1 (leaving_distributed leaving rels r e)) (key_in IsFine sets start (place_at c t) fits)
          (fine.stand.0 ∙ sym same)

  sub_bounded : (b : Bool) (o : Option Pushable) (whole lone : Plan) (parts : List Part) → Bounded whole → ((p : Pushable) → o ≡ Some p → Bounded lone) → AllByRecursion PartBounded parts →
      AllByRecursion PartBounded (cond b (Leaves (cond (is_some o) lone whole) ∷ []) parts)
  sub_bounded true None whole lone parts w s h = (w, tt)
  sub_bounded true (Some p) whole lone parts w s h = (s p refl, tt)
  sub_bounded false o whole lone parts w s h = h

  staying_outputs : (leaving : Leaving) (q : Query) (l : ℕ) → outputs_of (query_staying c leaving q l) ≡ outputs_of q
  staying_outputs leaving (Query' ts ctes ss subs from filter_ grouped keys aggs having items shown distinct order limit offset names) l = refl

  no_ctes : {n : _} (i k l : ℕ) (qs : Row_of-Query n) → is_none_of_them qs ≡ true → AllByRecursion Bounded (cte_plans c i k l qs)
  no_ctes i k l query.end_of-Query h = tt
  no_ctes i k l (query.more_of-Query q more) h = cc

  has_none : (kc l : ℕ) (q : Query) → HasNoCtes q → AllByRecursion Bounded (plans_of_ctes c kc l q)
  has_none kc l (Query' ts ctes ss subs from filter_ grouped keys aggs having items shown distinct order limit offset names) h = no_ctes 0 kc l ctes h.0

  -- ---- queries

  -- the two sides of a join
  sides_fine : (a b : FromTree) (k l : ℕ) (ahead : List ℕ) → IsLaidFrom c widths a × IsLaidFrom c widths b → FromHasNone a × FromHasNone b → FromBelow (length cs.results) a × FromBelow (length cs.results) b →
      IsBoundFrom cs ahead a → IsBoundFrom cs (ahead ++ from_bits cs a) b → AllByRecursion Ready (steps_in_from k a ++ steps_in_from (k + ins_in_from a) b) → Stand ds.results l (relation_bits cs a ++ relation_bits cs b) →
      FineFrom a k l ahead × FineFrom b (k + ins_in_from a) (l + leaves_in a) (ahead ++ from_bits cs a)
  sides_fine a b k l ahead laid none below left right ready stand = (
    record { laid = laid.0; none = none.0; below = below.0; bound = left; ready = all_left Ready (steps_in_from k a) (steps_in_from (k + ins_in_from a) b) ready; stand = stand_left ds.results (relation_bits cs a) (relation_bits cs b) l stand },
    record {
      laid = laid.1;
      none = none.1;
      below = below.1;
      bound = right;
      ready = all_right Ready (steps_in_from k a) (steps_in_from (k + ins_in_from a) b) ready;
      stand = stand_right ds.results (relation_bits cs a) (relation_bits cs b) l (leaves_in a) (relations_long cs a) stand;
    },
  )

  -- all parts of a query, where these sets are given from outside
  abbrev InsideBounded : Query → ℕ → ℕ → Type 0
  InsideBounded q k l = (leaving : Leaving) (outer : List (ℕ × List Value)) → AllByRecursion (AllIn IsFine) outer → AllByRecursion PartBounded (parts_inside c leaving q outer k l)

  plan_bounded : (number kc k l : ℕ) (q : Query) → FineQuery q k l → InsideBounded q k l → slice_index_or ds.results number [] ≡ output_bits cs q → AllByRecursion Bounded (plans_of_ctes c kc l q) → Bounded (plan_of c number kc k l q)
  plan_bounded number kc k l (Query' ts ctes ss subs from filter_ grouped keys aggs having items shown distinct order limit offset names) fine parts e h =
      let q : Query = Query' ts ctes ss subs from filter_ grouped keys aggs having items shown distinct order limit offset names in
      let planner : Planner = planner_of c q in
      let parting : Joined = parting_by c planner q in
      let stays = query_stands c cs ds wide (leaving_by planner) q l fine.below fine.bound fine.stand in
      with_bounded number planner parting (shares_rows parting.class q) (grounds_of c q) (cte_plans c 0 kc l ctes) (parts_inside c (leaving_by planner) q [] k l) (query_staying c (leaving_by planner) q l)
      h (parts (leaving_by planner) [] tt) stays.1 (e ∙ sym stays.0)

  -- a CTE or an IN subquery
  step_bounded : (i kc k l : ℕ) (q : Query) → HasNoCtes q → Ready (record { number = i; query = q }) → AllByRecursion Ready (steps_in k q) → Stand ds.results l (query_bits cs q) → (FineQuery q k l → InsideBounded q k l) → Bounded (plan_of c i kc k l q)
  step_bounded i kc k l q none own ready stand parts =
      let fine : FineQuery q k l = record { laid = own.0; none = body q none; below = own.1.0; bound = own.2.0; ready = ready; stand = stand } in
      plan_bounded i kc k l q fine (parts fine) (wide.results i own.1.1 ∙ own.2.1) (has_none kc l q none)

  mutual
    ins_bounded : (k l : ℕ) {n : _} (qs : Row_of-Query n) → EachHasNone qs → AllByRecursion Ready (steps_in_all k qs) → Stand ds.results l (all_query_bits cs qs) → AllByRecursion Bounded (in_plans c k l qs)
    ins_bounded k l query.end_of-Query none ready stand = tt
    ins_bounded k l (query.more_of-Query q more) none ready stand =
        let s : Step = record { number = k; query = q } in
        let rest : List Step = steps_in_all (k + 1 + ins_in q) more in
        let own = all_right Ready (steps_in (k + 1) q) (s ∷ rest) ready in (
          step_bounded k (k + 1) (k + 1) l q none.0 own.0 (all_left Ready (steps_in (k + 1) q) (s ∷ rest) ready) (stand_left ds.results (query_bits cs q) (all_query_bits cs more) l stand) (λ fine. inside_bounded q (k + 1) l fine),
          ins_bounded (k + 1 + ins_in q) (l + leaves_of q) more none.1 own.1 (stand_right ds.results (query_bits cs q) (all_query_bits cs more) l (leaves_of q) (query_long cs q) stand),
        )

    inside_bounded : (q : Query) (k l : ℕ) → FineQuery q k l → InsideBounded q k l
    inside_bounded (Query' ts ctes ss subs from filter_ grouped keys aggs having items shown distinct order limit offset names) k l fine leaving outer given =
        let lf : ℕ = l + leaves_of_all ctes in
        let sets : ℕ → ValueSet = value_set outer (conjuncts_of filter_ from) in
        let rels : List Relation = relations c from 0 None in
        let within : Stand ds.results lf (relation_bits cs from ++ all_query_bits cs subs) = stand_right ds.results (all_query_bits cs ctes) (relation_bits cs from ++ all_query_bits cs subs) l (leaves_of_all ctes) (all_long cs ctes) fine.stand in
        all_append PartBounded (parts_from c leaving rels sets from 0 None k lf) (map Asks (in_plans c (k + ins_in_from from) (lf + leaves_in from) subs))
        (from_bounded leaving rels sets from 0 None k lf []
        (record {
          laid = fine.laid.0;
          none = fine.none.0;
          below = fine.below;
          bound = fine.bound.0;
          ready = all_left Ready (steps_in_from k from) (steps_in_all (k + ins_in_from from) subs) fine.ready;
          stand = stand_left ds.results (relation_bits cs from) (all_query_bits cs subs) lf within;
        })
        (value_set_in IsFine outer (conjuncts_of filter_ from) given (conjuncts_fine cs from filter_ grouped keys aggs having items fine.bound.0 fine.bound.1)))
        (asks (in_plans c (k + ins_in_from from) (lf + leaves_in from) subs)
        (ins_bounded (k + ins_in_from from) (lf + leaves_in from) subs fine.none.1 (all_right Ready (steps_in_from k from) (steps_in_all (k + ins_in_from from) subs) fine.ready)
        (stand_right ds.results (relation_bits cs from) (all_query_bits cs subs) lf (leaves_in from) (relations_long cs from) within)))

    from_bounded : (leaving : Leaving) (rels : List Relation) (sets : ℕ → ValueSet) (f : FromTree) (start : ℕ) (outer : Option OuterJoin) (k l : ℕ) (ahead : List ℕ) → FineFrom f k l ahead → InSets IsFine sets →
        AllByRecursion PartBounded (parts_from c leaving rels sets f start outer k l)
    from_bounded leaving rels sets (Table t n) start outer k l ahead fine fits = (table_bounded leaving rels sets t n start outer k l ahead fine fits, tt)
    from_bounded leaving rels sets (Sub' p (more_of-Query q end_of-Query)) start outer k l ahead fine fits =
        let given : List (ℕ × List Value) = given_to sets start (pushable c q) in
        let planner : Planner = subquery_planner c (occurrences_in c q given) in
        let alone : FromTree = Sub' p (more_of-Query (query_staying c (leaving_by planner) q (l + 1)) end_of-Query) in
        let lone_parts : List Part = parts_inside c (leaving_by planner) q given k (l + 1) in
        let own : FineQuery q k (l + 1) = record { laid = fine.laid; none = body q fine.none; below = fine.below; bound = fine.bound; ready = fine.ready; stand = fine.stand.1 } in
        let outside = given_in IsFine sets start (pushable c q) fits in
        let stays = query_stands c cs ds wide (leaving_by planner) q (l + 1) fine.below fine.bound fine.stand.1 in
        sub_bounded (leaves_subquery leaving rels (record { start = start; distribution = distribution_by start (pushable c q); outer = outer })) (pushable c q)
        (plan_of c l k k (l + 1) q) (lone_plan c l planner lone_parts (lone_query alone (output_of (pushable c q)) (output_set sets start (pushable c q)))) (parts_inside c (inside leaving) q given k (l + 1))
        (plan_bounded l k k (l + 1) q own (inside_bounded q k (l + 1) own) fine.stand.0 (has_none k (l + 1) q fine.none))
        (λ pushed e. lone_bounded l planner lone_parts alone (output_of (pushable c q)) (output_set sets start (pushable c q)) (inside_bounded q k (l + 1) own (leaving_by planner) given outside) stays.1
        (subst (λ n. output_of (pushable c q) < n) (sym (staying_outputs (leaving_by planner) q (l + 1))) (subst (λ (o : Option Pushable). output_of o < outputs_of q) (sym e) (pushes_through c q pushed e).0))
        (output_in IsFine sets start (pushable c q) fits) (fine.stand.0 ∙ sym stays.0))
        (inside_bounded q k (l + 1) own (inside leaving) given outside)
    from_bounded leaving rels sets (Result i n) start outer k l ahead fine fits = tt
    from_bounded leaving rels sets (Cross' p (more_of-FromTree a end_of-FromTree) q (more_of-FromTree b end_of-FromTree)) start outer k l ahead fine fits =
        let s = sides_fine a b k l ahead fine.laid fine.none fine.below fine.bound.0 fine.bound.1 fine.ready fine.stand in
        all_append PartBounded (parts_from c leaving rels sets a start None k l) (parts_from c leaving rels sets b (start + columns_in a) None (k + ins_in_from a) (l + leaves_in a))
        (from_bounded leaving rels sets a start None k l ahead s.0 fits) (from_bounded leaving rels sets b (start + columns_in a) None (k + ins_in_from a) (l + leaves_in a) (ahead ++ from_bits cs a) s.1 fits)
    from_bounded leaving rels sets (Inner' p (more_of-FromTree a end_of-FromTree) q (more_of-FromTree b end_of-FromTree) on) start outer k l ahead fine fits =
        let s = sides_fine a b k l ahead fine.laid fine.none fine.below fine.bound.0 fine.bound.1 fine.ready fine.stand in
        all_append PartBounded (parts_from c leaving rels sets a start None k l) (parts_from c leaving rels sets b (start + columns_in a) None (k + ins_in_from a) (l + leaves_in a))
        (from_bounded leaving rels sets a start None k l ahead s.0 fits) (from_bounded leaving rels sets b (start + columns_in a) None (k + ins_in_from a) (l + leaves_in a) (ahead ++ from_bits cs a) s.1 fits)
    from_bounded leaving rels sets (Left' p (more_of-FromTree a end_of-FromTree) q (more_of-FromTree b end_of-FromTree) on) start outer k l ahead fine fits =
        let s = sides_fine a b k l ahead fine.laid fine.none fine.below fine.bound.0 fine.bound.1 fine.ready fine.stand in
        let left : ℕ → ValueSet = sets_in c sets a start in
        let right : ℕ → ValueSet = right_sets sets left (distribution_in c b (start + columns_in a)) start (start + columns_in a) on in
        let o : Option OuterJoin = Some (record { left = start; equalities = equalities (conjuncts on) }) in
        all_append PartBounded (parts_from c leaving rels sets a start None k l) (parts_from c leaving rels right b (start + columns_in a) o (k + ins_in_from a) (l + leaves_in a))
        (from_bounded leaving rels sets a start None k l ahead s.0 fits)
        (from_bounded leaving rels right b (start + columns_in a) o (k + ins_in_from a) (l + leaves_in a) (ahead ++ from_bits cs a) s.1
        (right_in IsFine sets left (distribution_in c b (start + columns_in a)) start (start + columns_in a) on fits (from_in IsFine c sets a start fits)))

  ctes_bounded : (i k l : ℕ) {n : _} (qs : Row_of-Query n) → EachHasNone qs → AllByRecursion Ready (steps_in_ctes i k qs) → Stand ds.results l (all_query_bits cs qs) → AllByRecursion Bounded (cte_plans c i k l qs)
  ctes_bounded i k l query.end_of-Query none ready stand = tt
  ctes_bounded i k l (query.more_of-Query q more) none ready stand =
      let s : Step = record { number = i; query = q } in
      let rest : List Step = steps_in_ctes (i + 1) (k + ins_in q) more in
      let own = all_right Ready (steps_in k q) (s ∷ rest) ready in (
        step_bounded i k k l q none.0 own.0 (all_left Ready (steps_in k q) (s ∷ rest) ready) (stand_left ds.results (query_bits cs q) (all_query_bits cs more) l stand) (λ fine. inside_bounded q k l fine),
        ctes_bounded (i + 1) (k + ins_in q) (l + leaves_of q) more none.1 own.1 (stand_right ds.results (query_bits cs q) (all_query_bits cs more) l (leaves_of q) (query_long cs q) stand),
      )

-- ---- a statement

pub plans_are_bound : PlansAreBound
plans_are_bound c widths cs (Query' ts ctes ss subs from filter_ grouped keys aggs having items shown distinct order limit offset names) laid outermost scoped bound =
    let q : Query = Query' ts ctes ss subs from filter_ grouped keys aggs having items shown distinct order limit offset names in
    let n : ℕ = count_of ctes in
    let m : ℕ = n + ins_in_ctes ctes in
    let first : ℕ = first_free q in
    let more : List (List ℕ) = query_bits cs q ++ output_bits cs q ∷ [] in
    let ds : Columns = record { tables = cs.tables; results = cs.results ++ more } in
    let all : length (cs.results ++ more) ≡ length cs.results + length more = length-append cs.results more in
    let own : length more ≡ leaves_of q + 1 = length-append (query_bits cs q) (output_bits cs q ∷ []) ∙ (λ i. query_long cs q i + 1) in
    let many : length cs.results ≡ first = bound.2 in
    let wide : Extends cs ds = record { tables = refl; results = λ i h. get_or_append_left cs.results more [] i h; counted = omega (arith, all) } in
    let stand : Stand ds.results first more = subst (λ l. Stand ds.results l more) many (stand_behind cs.results more) in
    let others : Stand ds.results first (query_bits cs q) = stand_left ds.results (query_bits cs q) (output_bits cs q ∷ []) first stand in
    let below : AllByRecursion (StepBelow first) (steps_of q) = steps_below (λ i. ⊥) first (λ i h. absurd h) (steps_of q) scoped.0 in
    let ready : AllByRecursion (Ready c widths cs ds wide) (steps_of q) =
    all_three (IsLaidStep c widths) (StepBelow (length cs.results)) (IsBoundStep cs) (Ready c widths cs ds wide) (λ s a b d. (a.0, b, d)) (steps_of q) laid.1 (subst (λ k. AllByRecursion (StepBelow k) (steps_of q)) (sym many) below) bound.1 in
    let xs : List Step = steps_in_ctes 0 n ctes in
    let ys : List Step = steps_in_from m from ++ steps_in_all (m + ins_in_from from) subs in
    let fine : FineQuery c widths cs ds wide q m first = record {
      laid = laid.0;
      none = (outermost.1, outermost.2);
      below = subst (λ k. QueryBelow k q) (sym many) (query_below (λ i. Has (map (λ (s : Step). s.number) (steps_of q)) i) first (has_below first (steps_of q) below) q scoped.1);
      bound = bound.0;
      ready = all_right (Ready c widths cs ds wide) xs ys ready;
      stand = others;
    } in (
      ds,
      wide,
      omega (arith, all, own, many),
      plan_bounded c widths cs ds wide (first + leaves_of q) n m first q fine (inside_bounded c widths cs ds wide q m first fine)
          (stand_right ds.results (query_bits cs q) (output_bits cs q ∷ []) first (leaves_of q) (query_long cs q) stand).0
          (ctes_bounded c widths cs ds wide 0 n first ctes outermost.0 (all_left (Ready c widths cs ds wide) xs ys ready) (stand_left ds.results (all_query_bits cs ctes) (relation_bits cs from ++ all_query_bits cs subs) first others)),
    )
  where
    all_three : {X : Type 0} (P Q R S : X → Type 0) → ((x : X) → P x → Q x → R x → S x) → (xs : List X) → AllByRecursion P xs → AllByRecursion Q xs → AllByRecursion R xs → AllByRecursion S xs
    all_three P Q R S f [] p q r = tt
    all_three P Q R S f (x ∷ xs) p q r = (f x p.0 q.0 r.0, all_three P Q R S f xs p.1 q.1 r.1)

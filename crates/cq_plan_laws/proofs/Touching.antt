-- What a plan touches are the occurrences of its statement.
use Rattle.std.proofs.Common.{◌≡◌, ℕ, ◌+◌, List, [], ◌∷◌, ◌++◌, map, filter_map, Bool, true, false, cond, Option, None, Some, refl, sym, ap, subst, ◌∙◌, append_assoc, append-nil}
use Rattle.std.specs.Prelude.{is_some}
use Rattle.std.specs.List.{flat_map}
use Rattle.cq_value.specs.declared.value.Value.{Value}
use Rattle.cq_tree.specs.declared.plan.Planner.{Planner}
use Rattle.cq_tree.specs.declared.query.FromTree.{FromTree, Table, Sub', Result, Cross', Inner', Left', end_of-FromTree, more_of-FromTree, end_of-Query, more_of-Query}
use Rattle.cq_tree.specs.declared.query.Query.{Query, Query', Row_of-Query}
use Rattle.cq_tree.specs.declared.query.Query as query
use Rattle.cq_meaning.specs.Queries.{columns_in}
use Rattle.cq_meaning.specs.Results.{ins_in, ins_in_from}
use Rattle.cq_meaning.proofs.Reorder.{Reordered, then, same, permuted, behind, before, swapped}
use Rattle.cq_meaning_laws.proofs.SortLaws.{back}
use Rattle.cq_catalog.specs.Contents.{Contents}
use Rattle.cq_catalog.specs.Placement.{place_at}
use Rattle.cq_planning.specs.Conjuncts.{conjuncts, conjuncts_of, equalities}
use Rattle.cq_planning.specs.ValueSets.{ValueSet, value_set}
use Rattle.cq_planning.specs.Relations.{OuterJoin, Relation, distribution_at}
use Rattle.cq_planning.specs.Pushable.{Pushable, pushable, relations, distribution_by}
use Rattle.cq_planning.specs.Narrowing.{distribution_in, right_sets, sets_in, given_to}
use Rattle.cq_planning.specs.Occurrences.{Occurrence, occurrence_of, occurrences_from, occurrences_in, ins_of, ins_of_from, ins_of_all, with_ins, all_with_ins, occurrences_of}
use Rattle.cq_outline.specs.declared.joining.Joined.{Joined}
use Rattle.cq_outline.specs.Joining.{nothing_joined}
use Rattle.cq_outline.specs.declared.outline.Leaving.{Leaving}
use Rattle.cq_outline.specs.Leaving.{leaves, leaves_subquery, inside}
use Rattle.cq_outline.specs.Tasking.{Touch, touch_of, planner_of, leaving_by, parting_by, shares_rows}
use Rattle.cq_outline.specs.Outlines.{table_planner, subquery_planner}
use Rattle.cq_one_plan.specs.declared.plan.Grounds.{Grounds}
use Rattle.cq_one_plan.specs.declared.plan.Plan.{Plan, roll-Plan, Row_of-Plan, end_of-Plan, more_of-Plan, items-the_row-Plan, items_hidden-the_row-Plan-0}
use Rattle.cq_one_plan.specs.declared.plan.Plan.TheBlock.{hidden-the_row-Plan-0}
use Rattle.cq_one_plan.specs.declared.plan.Plan.TheOpen.{Plan-F}
use Rattle.cq_one_plan.specs.declared.plan.Part.{Part}
use Rattle.cq_one_plan.specs.declared.plan.Part.TheVariants.{Stays, Leaves, Asks}
use Rattle.cq_one_plan.specs.Stays.{leaves_in, leaves_of, leaves_of_all, from_staying, query_staying, lone_query}
use Rattle.cq_one_plan.specs.Plans as parted
use Rattle.cq_one_plan.specs.Plans.{no_grounds, grounds_of, stays_in, planned_in, plan_with, lone_plan, part_of_table, parts_of_subquery, key_of, output_of, output_set, plan_of, cte_plans, in_plans, parts_inside, parts_from, whole_plan, first_free, ctes_of, first_in}
use Rattle.cq_one_plan.specs.Reading.{touches_in, touches_of_all}
use Rattle.cq_plan_laws.specs.Laws.{with_from}
use Rattle.cq_planning.specs.Routing.{is_none_of_them}
use Rattle.cq_plan_laws.specs.Touching.{IsOutermost, HasNoCtes, FromHasNone, EachHasNone, PlansTouch}

-- ---- lists

abbrev all_touches : List Plan → List Touch
all_touches [] = []
all_touches (p ∷ ps) = touches_in p ++ all_touches ps

row_touches : {n : _} (ps : Row_of-Plan n) → touches_of_all ps ≡ all_touches (items-the_row-Plan _ ps)
row_touches end_of-Plan = refl
row_touches (more_of-Plan p more) = ap (λ (us : List Touch). touches_in p ++ us) (row_touches more)

hidden_touches : (ps : List Plan) → touches_of_all (hidden-the_row-Plan-0 ps) ≡ all_touches ps
hidden_touches ps = row_touches (hidden-the_row-Plan-0 ps) ∙ ap all_touches (items_hidden-the_row-Plan-0 ps)

rolled : (x : Plan-F Plan) → touches_in (roll-Plan x) ≡ all_touches x.subplans ++ x.touches
unfolding roll-Plan denote.Hole.Carrier.roll
rolled x = ap (λ (us : List Touch). us ++ x.touches) (hidden_touches x.subplans)

all_append : (ps qs : List Plan) → all_touches (ps ++ qs) ≡ all_touches ps ++ all_touches qs
all_append [] qs = refl
all_append (p ∷ ps) qs = ap (λ (us : List Touch). touches_in p ++ us) (all_append ps qs) ∙ sym (append_assoc (touches_in p) (all_touches ps) (all_touches qs))

-- those of parts
abbrev of_part : Part → List Touch
of_part (Stays table groups) = (table, groups) ∷ []
of_part (Leaves p) = touches_in p
of_part (Asks p) = touches_in p

abbrev of_parts : List Part → List Touch
of_parts [] = []
of_parts (x ∷ xs) = of_part x ++ of_parts xs

parts_append : (xs ys : List Part) → of_parts (xs ++ ys) ≡ of_parts xs ++ of_parts ys
parts_append [] ys = refl
parts_append (x ∷ xs) ys = ap (λ (us : List Touch). of_part x ++ us) (parts_append xs ys) ∙ sym (append_assoc (of_part x) (of_parts xs) (of_parts ys))

asks_touch : (ps : List Plan) → of_parts (map Asks ps) ≡ all_touches ps
asks_touch [] = refl
asks_touch (p ∷ ps) = ap (λ (us : List Touch). touches_in p ++ us) (asks_touch ps)

-- two pairs of lists
crossed : (a b d e : List Touch) → Reordered ((a ++ b) ++ (d ++ e)) ((a ++ d) ++ (b ++ e))
crossed a b d e =
    subst (λ us. Reordered us ((a ++ d) ++ (b ++ e))) (sym (append_assoc a b (d ++ e)))
    (subst (λ us. Reordered (a ++ (b ++ (d ++ e))) us) (sym (append_assoc a d (b ++ e)))
    (behind a (subst (λ us. Reordered us (d ++ (b ++ e))) (append_assoc b d e) (subst (λ us. Reordered ((b ++ d) ++ e) us) (append_assoc d b e) (before e (swapped b d))))))

both : {a b d e : List Touch} → Reordered a b → Reordered d e → Reordered (a ++ d) (b ++ e)
both {a} {b} {d} {e} r s = then (before d r) (behind b s)

-- a part to its place
pulled : (t xs ys zs : List Touch) → Reordered (t ++ ((xs ++ ys) ++ zs)) ((xs ++ (t ++ ys)) ++ zs)
pulled t xs ys zs =
    subst (λ us. Reordered us ((xs ++ (t ++ ys)) ++ zs)) (append_assoc t (xs ++ ys) zs)
    (before zs (subst (λ us. Reordered us (xs ++ (t ++ ys))) (append_assoc t xs ys) (subst (λ us. Reordered ((t ++ xs) ++ ys) us) (append_assoc xs t ys) (before ys (swapped t xs)))))

parted_touch : (parts : List Part) → Reordered (of_parts parts) ((all_touches (filter_map parted.leaving parts) ++ all_touches (filter_map parted.asking parts)) ++ stays_in parts)
parted_touch [] = same []
parted_touch (Stays table groups ∷ parts) =
    let l : List Touch = all_touches (filter_map parted.leaving parts) ++ all_touches (filter_map parted.asking parts) in
    let t : List Touch = (table, groups) ∷ [] in
    then (behind t (parted_touch parts))
    (subst (λ us. Reordered us (l ++ (t ++ stays_in parts))) (append_assoc t l (stays_in parts)) (subst (λ us. Reordered ((t ++ l) ++ stays_in parts) us) (append_assoc l t (stays_in parts)) (before (stays_in parts) (swapped t l))))
parted_touch (Leaves p ∷ parts) =
    let a : List Touch = all_touches (filter_map parted.leaving parts) in
    let b : List Touch = all_touches (filter_map parted.asking parts) in
    then (behind (touches_in p) (parted_touch parts))
    (subst (λ us. Reordered us (((touches_in p ++ a) ++ b) ++ stays_in parts)) (append_assoc (touches_in p) (a ++ b) (stays_in parts)) (before (stays_in parts) (subst (λ us. Reordered (touches_in p ++ (a ++ b)) us) (sym (append_assoc (touches_in p) a b)) (same (touches_in p ++ (a ++ b))))))
parted_touch (Asks p ∷ parts) =
    then (behind (touches_in p) (parted_touch parts)) (pulled (touches_in p) (all_touches (filter_map parted.leaving parts)) (all_touches (filter_map parted.asking parts)) (stays_in parts))

map_append : {X Y : Type 0} (f : X → Y) (xs ys : List X) → map f (xs ++ ys) ≡ map f xs ++ map f ys
map_append f [] ys = refl
map_append f (x ∷ xs) ys = ap (λ us. f x ∷ us) (map_append f xs ys)

-- the plans of a query's CTEs
abbrev plans_of_ctes : Contents → ℕ → ℕ → Query → List Plan
plans_of_ctes c kc l (Query' cs ctes ss subs from filter_ grouped keys aggs having items shown distinct order limit offset names) = cte_plans c 0 kc l ctes

module _ (c : Contents) where
  with_touch : (number : ℕ) (planner : Planner) (parting : Joined) (shares : Bool) (grounds : Grounds) (ctes : List Plan) (parts : List Part) (q : Query) →
      Reordered (touches_in (plan_with c number planner parting shares grounds ctes parts q)) (all_touches ctes ++ of_parts parts)
  with_touch number planner parting shares grounds ctes parts q =
      let ps : List Touch = all_touches (filter_map parted.leaving parts) ++ all_touches (filter_map parted.asking parts) in
      let e : touches_in (plan_with c number planner parting shares grounds ctes parts q) ≡ all_touches ctes ++ (ps ++ stays_in parts) =
      rolled _ ∙ ap (λ (us : List Touch). us ++ stays_in parts) (all_append ctes (planned_in parts) ∙ ap (λ (us : List Touch). all_touches ctes ++ us) (all_append (filter_map parted.leaving parts) (filter_map parted.asking parts)))
      ∙ append_assoc (all_touches ctes) ps (stays_in parts) in
      subst (λ us. Reordered us (all_touches ctes ++ of_parts parts)) (sym e) (behind (all_touches ctes) (back (parted_touch parts)))

  -- the occurrences of blocks
  abbrev seen : List Query → List Touch
  seen qs = map (touch_of c) (flat_map (λ block. occurrences_in c block []) qs)

  seen_append : (ps qs : List Query) → seen (ps ++ qs) ≡ seen ps ++ seen qs
  seen_append [] qs = refl
  seen_append (p ∷ ps) qs =
      map_append (touch_of c) (occurrences_in c p []) (flat_map (λ block. occurrences_in c block []) (ps ++ qs))
      ∙ ap (λ (us : List Touch). map (touch_of c) (occurrences_in c p []) ++ us) (seen_append ps qs)
      ∙ sym (append_assoc (map (touch_of c) (occurrences_in c p [])) (seen ps) (seen qs))
      ∙ ap (λ (us : List Touch). us ++ seen qs) (sym (map_append (touch_of c) (occurrences_in c p []) (flat_map (λ block. occurrences_in c block []) ps)))

  table_touch : (leaving : Leaving) (rels : List Relation) (r : Relation) (o : Occurrence) (f : FromTree) (l : ℕ) → Reordered (of_part (part_of_table c leaving rels r o f l)) (touch_of c o ∷ [])
  table_touch leaving rels r o f l = by_cases (leaves leaving rels r)
    where
      lone : Plan
      lone = lone_plan c l (table_planner c (touch_of c o) o.values) (Stays o.table (touch_of c o).1 ∷ []) (lone_query f (key_of (place_at c o.table)) o.values)

      by_cases : (b : Bool) → Reordered (of_part (cond b (Leaves lone) (Stays o.table (touch_of c o).1))) (touch_of c o ∷ [])
      by_cases true = with_touch l (table_planner c (touch_of c o) o.values) nothing_joined false no_grounds [] (Stays o.table (touch_of c o).1 ∷ []) (lone_query f (key_of (place_at c o.table)) o.values)
      by_cases false = same (touch_of c o ∷ [])

  sub_touch : (b : Bool) (o : Option Pushable) (whole lone : Plan) (parts : List Part) (us : List Touch) → (o ≡ None → Reordered (touches_in whole) us) → Reordered (touches_in lone) us → Reordered (of_parts parts) us →
      Reordered (of_parts (cond b (Leaves (cond (is_some o) lone whole) ∷ []) parts)) us
  sub_touch true None whole lone parts us w r s = subst (λ vs. Reordered vs us) (sym (append-nil (touches_in whole))) (w refl)
  sub_touch true (Some p) whole lone parts us w r s = subst (λ vs. Reordered vs us) (sym (append-nil (touches_in lone))) r
  sub_touch false o whole lone parts us w r s = s

  -- the two sides of a join
  join_touch : (xs ys : List Part) (a b : List Occurrence) (p q : List Query) → Reordered (of_parts xs) (map (touch_of c) a ++ seen p) → Reordered (of_parts ys) (map (touch_of c) b ++ seen q) →
      Reordered (of_parts (xs ++ ys)) (map (touch_of c) (a ++ b) ++ seen (p ++ q))
  join_touch xs ys a b p q r s =
      subst (λ us. Reordered us (map (touch_of c) (a ++ b) ++ seen (p ++ q))) (sym (parts_append xs ys))
      (subst (λ us. Reordered (of_parts xs ++ of_parts ys) us) (λ i. sym (map_append (touch_of c) a b) i ++ sym (seen_append p q) i)
      (then (both r s) (crossed (map (touch_of c) a) (seen p) (map (touch_of c) b) (seen q))))

  -- the parts of a query: those of its FROM, and its IN subqueries
  query_touch : (xs : List Part) (ps : List Plan) (os : List Occurrence) (a b : List Query) → Reordered (of_parts xs) (map (touch_of c) os ++ seen a) → Reordered (all_touches ps) (seen b) →
      Reordered (of_parts (xs ++ map Asks ps)) (map (touch_of c) os ++ seen (a ++ b))
  query_touch xs ps os a b r s =
      subst (λ us. Reordered us (map (touch_of c) os ++ seen (a ++ b))) (sym (parts_append xs (map Asks ps) ∙ ap (λ (us : List Touch). of_parts xs ++ us) (asks_touch ps)))
      (subst (λ us. Reordered (of_parts xs ++ all_touches ps) us) (append_assoc (map (touch_of c) os) (seen a) (seen b) ∙ ap (λ (us : List Touch). map (touch_of c) os ++ us) (sym (seen_append a b))) (both r s))

  abbrev BodyHasNone : Query → Type 0
  BodyHasNone (Query' cs ctes ss subs from filter_ grouped keys aggs having items shown distinct order limit offset names) = FromHasNone from × EachHasNone subs

  no_ctes : {n : _} (i k l : ℕ) (qs : Row_of-Query n) → is_none_of_them qs ≡ true → all_touches (cte_plans c i k l qs) ≡ []
  no_ctes i k l query.end_of-Query h = refl
  no_ctes i k l (query.more_of-Query q more) h = cc

  body : (q : Query) → HasNoCtes q → BodyHasNone q
  body (Query' cs ctes ss subs from filter_ grouped keys aggs having items shown distinct order limit offset names) h = (h.1, h.2)

  -- a query below the outermost has none
  strip : (number kc k l : ℕ) (q : Query) → HasNoCtes q → Reordered (touches_in (plan_of c number kc k l q)) (all_touches (plans_of_ctes c kc l q) ++ seen (with_ins q)) → Reordered (touches_in (plan_of c number kc k l q)) (seen (with_ins q))
  strip number kc k l (Query' cs ctes ss subs from filter_ grouped keys aggs having items shown distinct order limit offset names) h r =
      let q : Query = Query' cs ctes ss subs from filter_ grouped keys aggs having items shown distinct order limit offset names in
      subst (λ us. Reordered (touches_in (plan_of c number kc k l q)) (us ++ seen (with_ins q))) (no_ctes 0 kc l ctes h.0) r

  mutual
    -- with those of its CTEs before it
    body_touch : (number kc k l : ℕ) (q : Query) → BodyHasNone q → Reordered (touches_in (plan_of c number kc k l q)) (all_touches (plans_of_ctes c kc l q) ++ seen (with_ins q))
    body_touch number kc k l (Query' cs ctes ss subs from filter_ grouped keys aggs having items shown distinct order limit offset names) h =
        let q : Query = Query' cs ctes ss subs from filter_ grouped keys aggs having items shown distinct order limit offset names in
        let planner : Planner = planner_of c q in
        let parting : Joined = parting_by c planner q in
        let lf : ℕ = l + leaves_of_all ctes in
        let g : FromTree = from_staying c (leaving_by planner) (relations c from 0 None) from 0 None lf in
        let xs : List Part = parts_from c (leaving_by planner) (relations c from 0 None) (value_set [] (conjuncts_of filter_ from)) from 0 None k lf in
        let ys : List Part = map Asks (in_plans c (k + ins_in_from from) (lf + leaves_in from) subs) in
        then (with_touch number planner parting (shares_rows parting.class q) (grounds_of c q) (cte_plans c 0 kc l ctes) (xs ++ ys) (with_from g q))
        (behind (all_touches (cte_plans c 0 kc l ctes))
        (subst (λ us. Reordered (of_parts (xs ++ ys)) us) (sym (map_append (touch_of c) (occurrences_in c q []) (flat_map (λ block. occurrences_in c block []) (ins_of_from from ++ ins_of_all subs))))
        (query_touch xs (in_plans c (k + ins_in_from from) (lf + leaves_in from) subs) (occurrences_in c q []) (ins_of_from from) (ins_of_all subs)
        (from_touch (leaving_by planner) (relations c from 0 None) (value_set [] (conjuncts_of filter_ from)) from 0 None k lf h.0)
        (ins_touch (k + ins_in_from from) (lf + leaves_in from) subs h.1))))

    ins_touch : (k l : ℕ) {n : _} (qs : Row_of-Query n) → EachHasNone qs → Reordered (all_touches (in_plans c k l qs)) (seen (ins_of_all qs))
    ins_touch k l query.end_of-Query h = same []
    ins_touch k l (query.more_of-Query q more) h =
        subst (λ us. Reordered (touches_in (plan_of c k (k + 1) (k + 1) l q) ++ all_touches (in_plans c (k + 1 + ins_in q) (l + leaves_of q) more)) us) (sym (seen_append (with_ins q) (ins_of_all more)))
        (both (strip k (k + 1) (k + 1) l q h.0 (body_touch k (k + 1) (k + 1) l q (body q h.0))) (ins_touch (k + 1 + ins_in q) (l + leaves_of q) more h.1))

    inside_touch : (leaving : Leaving) (q : Query) (outer : List (ℕ × List Value)) (k l : ℕ) → HasNoCtes q → Reordered (of_parts (parts_inside c leaving q outer k l)) (map (touch_of c) (occurrences_in c q outer) ++ seen (ins_of q))
    inside_touch leaving (Query' cs ctes ss subs from filter_ grouped keys aggs having items shown distinct order limit offset names) outer k l h =
        let q : Query = Query' cs ctes ss subs from filter_ grouped keys aggs having items shown distinct order limit offset names in
        let lf : ℕ = l + leaves_of_all ctes in
        query_touch (parts_from c leaving (relations c from 0 None) (value_set outer (conjuncts_of filter_ from)) from 0 None k lf) (in_plans c (k + ins_in_from from) (lf + leaves_in from) subs) (occurrences_in c q outer) (ins_of_from from) (ins_of_all subs)
        (from_touch leaving (relations c from 0 None) (value_set outer (conjuncts_of filter_ from)) from 0 None k lf h.1)
        (ins_touch (k + ins_in_from from) (lf + leaves_in from) subs h.2)

    from_touch : (leaving : Leaving) (rels : List Relation) (sets : ℕ → ValueSet) (f : FromTree) (start : ℕ) (outer : Option OuterJoin) (k l : ℕ) → FromHasNone f →
        Reordered (of_parts (parts_from c leaving rels sets f start outer k l)) (map (touch_of c) (occurrences_from c sets f start) ++ seen (ins_of_from f))
    from_touch leaving rels sets (Table t n) start outer k l h =
        both (table_touch leaving rels (record { start = start; distribution = distribution_at start (place_at c t); outer = outer }) (occurrence_of c sets start t) (Table t n) l) (same [])
    from_touch leaving rels sets (Sub' p (more_of-Query q end_of-Query)) start outer k l h =
        let given : List (ℕ × List Value) = given_to sets start (pushable c q) in
        let planner : Planner = subquery_planner c (occurrences_in c q given) in
        let us : List Touch = map (touch_of c) (occurrences_in c q given) ++ seen (ins_of q) in
        let lone_parts : List Part = parts_inside c (leaving_by planner) q given k (l + 1) in
        let alone : Query = lone_query (Sub' p (more_of-Query (query_staying c (leaving_by planner) q (l + 1)) end_of-Query)) (output_of (pushable c q)) (output_set sets start (pushable c q)) in
        sub_touch (leaves_subquery leaving rels (record { start = start; distribution = distribution_by start (pushable c q); outer = outer })) (pushable c q)
        (plan_of c l k k (l + 1) q) (lone_plan c l planner lone_parts alone) (parts_inside c (inside leaving) q given k (l + 1)) us
        (λ e. subst (λ (o : Option Pushable). Reordered (touches_in (plan_of c l k k (l + 1) q)) (map (touch_of c) (occurrences_in c q (given_to sets start o)) ++ seen (ins_of q))) (sym e)
        (subst (λ vs. Reordered (touches_in (plan_of c l k k (l + 1) q)) vs) (map_append (touch_of c) (occurrences_in c q []) (flat_map (λ block. occurrences_in c block []) (ins_of q))) (strip l k k (l + 1) q h (body_touch l k k (l + 1) q (body q h)))))
        (then (with_touch l planner nothing_joined false no_grounds [] lone_parts alone) (inside_touch (leaving_by planner) q given k (l + 1) h))
        (inside_touch (inside leaving) q given k (l + 1) h)
    from_touch leaving rels sets (Result i n) start outer k l h = same []
    from_touch leaving rels sets (Cross' p (more_of-FromTree a end_of-FromTree) q (more_of-FromTree b end_of-FromTree)) start outer k l h =
        join_touch (parts_from c leaving rels sets a start None k l) (parts_from c leaving rels sets b (start + columns_in a) None (k + ins_in_from a) (l + leaves_in a))
        (occurrences_from c sets a start) (occurrences_from c sets b (start + columns_in a)) (ins_of_from a) (ins_of_from b)
        (from_touch leaving rels sets a start None k l h.0) (from_touch leaving rels sets b (start + columns_in a) None (k + ins_in_from a) (l + leaves_in a) h.1)
    from_touch leaving rels sets (Inner' p (more_of-FromTree a end_of-FromTree) q (more_of-FromTree b end_of-FromTree) on) start outer k l h =
        join_touch (parts_from c leaving rels sets a start None k l) (parts_from c leaving rels sets b (start + columns_in a) None (k + ins_in_from a) (l + leaves_in a))
        (occurrences_from c sets a start) (occurrences_from c sets b (start + columns_in a)) (ins_of_from a) (ins_of_from b)
        (from_touch leaving rels sets a start None k l h.0) (from_touch leaving rels sets b (start + columns_in a) None (k + ins_in_from a) (l + leaves_in a) h.1)
    from_touch leaving rels sets (Left' p (more_of-FromTree a end_of-FromTree) q (more_of-FromTree b end_of-FromTree) on) start outer k l h =
        let sb : ℕ → ValueSet = right_sets sets (sets_in c sets a start) (distribution_in c b (start + columns_in a)) start (start + columns_in a) on in
        let o : Option OuterJoin = Some (record { left = start; equalities = equalities (conjuncts on) }) in
        join_touch (parts_from c leaving rels sets a start None k l) (parts_from c leaving rels sb b (start + columns_in a) o (k + ins_in_from a) (l + leaves_in a))
        (occurrences_from c sets a start) (occurrences_from c sb b (start + columns_in a)) (ins_of_from a) (ins_of_from b)
        (from_touch leaving rels sets a start None k l h.0) (from_touch leaving rels sb b (start + columns_in a) o (k + ins_in_from a) (l + leaves_in a) h.1)

  ctes_touch : (i k l : ℕ) {n : _} (qs : Row_of-Query n) → EachHasNone qs → Reordered (all_touches (cte_plans c i k l qs)) (seen (all_with_ins qs))
  ctes_touch i k l query.end_of-Query h = same []
  ctes_touch i k l (query.more_of-Query q more) h =
      subst (λ us. Reordered (touches_in (plan_of c i k k l q) ++ all_touches (cte_plans c (i + 1) (k + ins_in q) (l + leaves_of q) more)) us) (sym (seen_append (with_ins q) (all_with_ins more)))
      (both (strip i k k l q h.0 (body_touch i k k l q (body q h.0))) (ctes_touch (i + 1) (k + ins_in q) (l + leaves_of q) more h.1))

-- in another order
pub touches_again : (c : Contents) (q : Query) → IsOutermost q → Reordered (touches_in (whole_plan c q)) (map (touch_of c) (occurrences_of c q))
touches_again c (Query' cs ctes ss subs from filter_ grouped keys aggs having items shown distinct order limit offset names) h =
    let q : Query = Query' cs ctes ss subs from filter_ grouped keys aggs having items shown distinct order limit offset names in
    subst (λ us. Reordered (touches_in (whole_plan c q)) us) (sym (seen_append c (all_with_ins ctes) (with_ins q)))
    (then (body_touch c (first_free q + leaves_of q) (ctes_of q) (first_in q) (first_free q) q (h.1, h.2))
    (before (seen c (with_ins q)) (ctes_touch c 0 (ctes_of q) (first_free q) ctes h.0)))

pub plans_touch : PlansTouch
plans_touch c q h = permuted (touches_again c q h)

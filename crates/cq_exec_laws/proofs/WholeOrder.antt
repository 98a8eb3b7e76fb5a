-- The plan of a statement whose queries name what they see is ordered: each of its blocks names results alone that are set before it, and sets one that isn't.
use Rattle.std.proofs.Common.{◌≡◌, ◌+◌, ◌<◌, ◌≤◌, ℕ, List, [], ◌∷◌, ◌++◌, map, Bool, true, false, cond, Option, None, Some, refl, sym, subst, ◌⊎◌, inl, inr, arith}
use Rattle.std.specs.Prelude.{is_some}
use Rattle.cq_value.specs.declared.value.Value.{Value}
use Rattle.cq_tree.specs.declared.plan.Planner.{Planner}
use Rattle.cq_tree.specs.declared.query.FromTree.{FromTree, Table, Sub', Result, Cross', Inner', Left', end_of-FromTree, more_of-FromTree, end_of-Query, more_of-Query}
use Rattle.cq_tree.specs.declared.query.Query.{Query, Query', Row_of-Query}
use Rattle.cq_tree.specs.declared.query.Query as query
use Rattle.cq_meaning.specs.Lists.{Has}
use Rattle.cq_meaning.specs.Queries.{columns_in}
use Rattle.cq_meaning.specs.Results.{ins_in, ins_in_from, ins_in_all, ins_in_ctes, count_of}
use Rattle.cq_meaning.proofs.RowLaws.{has_either}
use Rattle.cq_catalog.specs.Contents.{Contents}
use Rattle.cq_catalog.specs.Placement.{place_at}
use Rattle.cq_planning.specs.Conjuncts.{conjuncts, conjuncts_of, equalities}
use Rattle.cq_planning.specs.ValueSets.{ValueSet, value_set}
use Rattle.cq_planning.specs.Relations.{OuterJoin, Relation, distribution_at}
use Rattle.cq_planning.specs.Pushable.{pushable, relations, distribution_by}
use Rattle.cq_planning.specs.Narrowing.{distribution_in, right_sets, sets_in, given_to}
use Rattle.cq_planning.specs.Occurrences.{Occurrence, occurrence_of, occurrences_in}
use Rattle.cq_planning.specs.Routing.{is_none_of_them}
use Rattle.cq_outline.specs.declared.joining.Joined.{Joined}
use Rattle.cq_outline.specs.Joining.{nothing_joined}
use Rattle.cq_outline.specs.declared.outline.Leaving.{Leaving}
use Rattle.cq_outline.specs.Leaving.{leaves, leaves_subquery, inside}
use Rattle.cq_outline.specs.Tasking.{touch_of, planner_of, leaving_by, parting_by, shares_rows}
use Rattle.cq_outline.specs.Outlines.{table_planner, subquery_planner}
use Rattle.cq_one_plan.specs.declared.plan.Grounds.{Grounds}
use Rattle.cq_one_plan.specs.declared.plan.Plan.{Plan}
use Rattle.cq_one_plan.specs.declared.plan.Part.{Part}
use Rattle.cq_one_plan.specs.declared.plan.Part.TheVariants.{Stays, Leaves, Asks}
use Rattle.cq_one_plan.specs.Stays.{leaves_in, leaves_of, leaves_of_all, query_staying, lone_query}
use Rattle.cq_one_plan.specs.Plans.{no_grounds, grounds_of, plan_with, lone_plan, key_of, output_of, output_set, plan_of, cte_plans, in_plans, parts_inside, parts_from, first_free}
use Rattle.cq_plan_laws.specs.Scoping.{QueryNames}
use Rattle.cq_plan_laws.specs.Nested.{numbers_from, IsNested, FromIsNested, AreNested, CtesAreNested, IsNestedBehind}
use Rattle.cq_exec_laws.specs.Ordering.{set_by, IsOrdered, PlansAreOrdered}
use Rattle.cq_exec_laws.proofs.Nested.{behind, length_of}
use Rattle.cq_exec_laws.proofs.Apart.{set_in, set_either, split, joined, InOrder, order_grows, AreApart, apart_append, plans_in, plans_append, asked_plans, block_sets, block_order}
use Rattle.cq_exec_laws.proofs.Staying.{lone_names, plan_number, inside_named}

-- ---- numbers

-- those of IN subqueries, and those of relations
abbrev Between : ℕ → ℕ → ℕ → ℕ → ℕ → Type 0
Between k k' l l' i = ((k ≤ i) × (i < k')) ⊎ ((l ≤ i) × (i < l'))

between : (k k' l l' u u' v v' i : ℕ) → u ≤ k → k' ≤ u' → v ≤ l → l' ≤ v' → Between k k' l l' i → Between u u' v v' i
between k k' l l' u u' v v' i a b d e (inl h) = inl (omega (arith, a, b, h))
between k k' l l' u u' v v' i a b d e (inr h) = inr (omega (arith, d, e, h))

-- how many relations stand in CTEs, and how many in the rest
abbrev in_ctes : Query → ℕ
in_ctes (Query' cs ctes ss subs from filter_ grouped keys aggs having items shown distinct order limit offset names) = leaves_of_all ctes

abbrev in_body : Query → ℕ
in_body (Query' cs ctes ss subs from filter_ grouped keys aggs having items shown distinct order limit offset names) = leaves_in from + leaves_of_all subs

in_both : (q : Query) → leaves_of q ≡ in_ctes q + in_body q
in_both (Query' cs ctes ss subs from filter_ grouped keys aggs having items shown distinct order limit offset names) = refl

no_plans : (c : Contents) (i k l : ℕ) {n : _} (qs : Row_of-Query n) → is_none_of_them qs ≡ true → cte_plans c i k l qs ≡ []
no_plans c i k l query.end_of-Query h = refl
no_plans c i k l (query.more_of-Query q more) h = cc

-- a relation's result is not among those behind it, nor that of an IN subquery
behind_it : (k a l b : ℕ) → k + a ≤ l → Between k (k + a) (l + 1) (l + 1 + b) l → ⊥
behind_it k a l b room (inl x) = absurd (omega (arith, x, room))
behind_it k a l b room (inr x) = absurd (omega (arith, x))

before : (k a l b : ℕ) → k + 1 + a ≤ l → Between (k + 1) (k + 1 + a) l (l + b) k → ⊥
before k a l b room (inl x) = absurd (omega (arith, x))
before k a l b room (inr x) = absurd (omega (arith, x, room))

-- ---- plans that name the first m results alone, beside those below them

module _ (c : Contents) (count m : ℕ) where
  abbrev Outside : ℕ → Type 0
  Outside j = j < m

  -- they are apart, and set a results of IN subqueries from k on alone, and b of relations from l on
  abbrev Fit : ℕ → ℕ → ℕ → ℕ → List Plan → Type 0
  Fit k a l b ps = AreApart count Outside ps × ((i : ℕ) → Has (set_in ps) i → Between k (k + a) l (l + b) i)

  -- such numbers are there
  abbrev Room : ℕ → ℕ → ℕ → ℕ → Type 0
  Room k a l b = (m ≤ k) × (k + a ≤ l) × (l + b ≤ count)

  fit_none : (k a l b : ℕ) → Fit k a l b []
  fit_none k a l b = (tt, λ i h. absurd h)

  fit_within : (k a l b l' b' : ℕ) (ps : List Plan) → Fit k a l' b' ps → l ≤ l' → l' + b' ≤ l + b → Fit k a l b ps
  fit_within k a l b l' b' ps h low high = (h.0, λ i g. between k (k + a) l' (l' + b') k (k + a) l (l + b) i (omega arith) (omega arith) low high (h.1 i g))

  fit_both : (k a l b k' a' l' b' : ℕ) (ps qs : List Plan) → Fit k a l b ps → Fit k' a' l' b' qs → k' ≡ k + a → l' ≡ l + b → k + (a + a') ≤ l → Fit k (a + a') l (b + b') (ps ++ qs)
  fit_both k a l b k' a' l' b' ps qs h g e f room = (
    apart_append count Outside ps qs h.0 g.0 (λ i x y. meets i (h.1 i x) (g.1 i y)),
    λ i x. within i (set_either ps qs i x),
  )
    where
      meets : (i : ℕ) → Between k (k + a) l (l + b) i → Between k' (k' + a') l' (l' + b') i → ⊥
      meets i (inl x) (inl y) = absurd (omega (arith, x, y, e))
      meets i (inl x) (inr y) = absurd (omega (arith, x, y, f, room))
      meets i (inr x) (inl y) = absurd (omega (arith, x, y, e, room))
      meets i (inr x) (inr y) = absurd (omega (arith, x, y, f))

      within : (i : ℕ) → Has (set_in ps) i ⊎ Has (set_in qs) i → Between k (k + (a + a')) l (l + (b + b')) i
      within i (inl x) = between k (k + a) l (l + b) k (k + (a + a')) l (l + (b + b')) i (omega arith) (omega arith) (omega arith) (omega arith) (h.1 i x)
      within i (inr y) = between k' (k' + a') l' (l' + b') k (k + (a + a')) l (l + (b + b')) i (omega (arith, e)) (omega (arith, e)) (omega (arith, f)) (omega (arith, f)) (g.1 i y)

  -- parts, and those behind them in the text
  join_fits : (xs ys : List Part) (k a l b a' b' : ℕ) → Fit k a l b (plans_in xs) → Fit (k + a) a' (l + b) b' (plans_in ys) → k + (a + a') ≤ l → Fit k (a + a') l (b + b') (plans_in (xs ++ ys))
  join_fits xs ys k a l b a' b' h g room = subst (Fit k (a + a') l (b + b')) (sym (plans_append xs ys)) (fit_both k a l b (k + a) a' (l + b) b' (plans_in xs) (plans_in ys) h g refl refl room)

  -- ---- a block without WITH

  -- it sets its own result, and those of the plans that it is computed over
  abbrev Sound : ℕ → ℕ → ℕ → ℕ → ℕ → Plan → Type 0
  Sound number k a l b p = IsOrdered count Outside p × ((i : ℕ) → Has (set_by p) i → Between k (k + a) l (l + b) i ⊎ (number ≡ i))

  sound_block : (number : ℕ) (planner : Planner) (parting : Joined) (shares : Bool) (grounds : Grounds) (parts : List Part) (q : Query) (k a l b : ℕ) → Fit k a l b (plans_in parts) → Room k a l b →
      ((S : ℕ → Type 0) → ((i : ℕ) → Outside i → S i) → ((i : ℕ) → Has (set_in (plans_in parts)) i → S i) → QueryNames S q) → m ≤ number → number < count → (Between k (k + a) l (l + b) number → ⊥) →
      Sound number k a l b (plan_with c number planner parting shares grounds [] parts q)
  sound_block number planner parting shares grounds parts q k a l b fit room names low high free = (
    block_order c number planner parting shares grounds [] parts q count Outside Outside tt (λ i h. inl h) fit.0 clear names high unset,
    sets,
  )
    where
      apart : (i : ℕ) → i < m → Between k (k + a) l (l + b) i → ⊥
      apart i h (inl x) = absurd (omega (arith, h, x, room))
      apart i h (inr x) = absurd (omega (arith, h, x, room))

      clear : (i : ℕ) → Outside i ⊎ ⊥ → Has (set_in (plans_in parts)) i → ⊥
      clear i (inl h) g = apart i h (fit.1 i g)
      clear i (inr none) g = none

      unset : Outside number ⊎ (⊥ ⊎ Has (set_in (plans_in parts)) number) → ⊥
      unset (inl h) = absurd (omega (arith, h, low))
      unset (inr (inl none)) = none
      unset (inr (inr g)) = free (fit.1 number g)

      sets : (i : ℕ) → Has (set_by (plan_with c number planner parting shares grounds [] parts q)) i → Between k (k + a) l (l + b) i ⊎ (number ≡ i)
      sets i h = elim (block_sets c number planner parting shares grounds [] parts q i h) [
        | inl below ↦ elim below [ inl none ↦ absurd none | inr g ↦ inl (fit.1 i g) ]
        | inr e ↦ inr e
      ]

  -- ---- one plan alone

  fit_alone : (k a l b : ℕ) (p : Plan) → IsOrdered count Outside p → ((i : ℕ) → Has (set_by p) i → Between k (k + a) l (l + b) i) → Fit k a l b (p ∷ [])
  fit_alone k a l b p o sets = ((o, (λ i x y. y), tt), λ i x. elim (has_either (set_by p) [] i x) [ inl own ↦ sets i own | inr none ↦ absurd none ])

  -- its result is the first of relations
  fit_relation : (k a l b : ℕ) (p : Plan) → Sound l k a (l + 1) b p → Fit k a l (1 + b) (p ∷ [])
  fit_relation k a l b p h = fit_alone k a l (1 + b) p h.0 (λ i x. relation i (h.1 i x))
    where
      relation : (i : ℕ) → Between k (k + a) (l + 1) (l + 1 + b) i ⊎ (l ≡ i) → Between k (k + a) l (l + (1 + b)) i
      relation i (inl x) = between k (k + a) (l + 1) (l + 1 + b) k (k + a) l (l + (1 + b)) i (omega arith) (omega arith) (omega arith) (omega arith) x
      relation i (inr e) = inr (omega (arith, e))

  -- it is the first of IN subqueries
  fit_asked : (k a l b : ℕ) (p : Plan) → Sound k (k + 1) a l b p → Fit k (1 + a) l b (p ∷ [])
  fit_asked k a l b p h = fit_alone k (1 + a) l b p h.0 (λ i x. asked i (h.1 i x))
    where
      asked : (i : ℕ) → Between (k + 1) (k + 1 + a) l (l + b) i ⊎ (k ≡ i) → Between k (k + (1 + a)) l (l + b) i
      asked i (inl x) = between (k + 1) (k + 1 + a) l (l + b) k (k + (1 + a)) l (l + b) i (omega arith) (omega arith) (omega arith) (omega arith) x
      asked i (inr e) = inl (omega (arith, e))

  -- ---- a query without WITH

  -- by what is known of its parts, whatever leaves it
  sound_plan : (number kc k l : ℕ) (q : Query) → IsNested Outside k q → ((leaving : Leaving) → Fit k (ins_in q) (l + in_ctes q) (in_body q) (plans_in (parts_inside c leaving q [] k l))) → Room k (ins_in q) l (leaves_of q) →
      m ≤ number → number < count → (Between k (k + ins_in q) l (l + leaves_of q) number → ⊥) → Sound number k (ins_in q) l (leaves_of q) (plan_of c number kc k l q)
  sound_plan number kc k l (Query' cs ctes ss subs from filter_ grouped keys aggs having items shown distinct order limit offset names) h fits room low high free =
      let q : Query = Query' cs ctes ss subs from filter_ grouped keys aggs having items shown distinct order limit offset names in
      let planner : Planner = planner_of c q in
      let parting : Joined = parting_by c planner q in
      let parts : List Part = parts_inside c (leaving_by planner) q [] k l in
      let stays : Query = query_staying c (leaving_by planner) q l in
      subst (λ (ps : List Plan). Sound number k (ins_in q) l (leaves_of q) (plan_with c number planner parting (shares_rows parting.class q) (grounds_of c q) ps parts stays)) (sym (no_plans c 0 kc l ctes h.0))
      (sound_block number planner parting (shares_rows parting.class q) (grounds_of c q) parts stays k (ins_in q) l (leaves_of q)
      (fit_within k (ins_in q) l (leaves_of q) (l + in_ctes q) (in_body q) (plans_in parts) (fits (leaving_by planner)) (omega arith) (omega arith)) room
      (λ S out set. inside_named c Outside S out (leaving_by planner) q [] k l (behind Outside k q h) set) low high free)

  -- ---- a relation

  table_fits : (b : Bool) (lone : Plan) (table : ℕ) (groups : List ℕ) (k l : ℕ) → Fit k 0 l 1 (lone ∷ []) → Fit k 0 l 1 (plans_in (cond b (Leaves lone) (Stays table groups) ∷ []))
  table_fits true lone table groups k l h = h
  table_fits false lone table groups k l h = fit_none k 0 l 1

  one_of : (b pushed : Bool) (whole lone : Plan) (parts : List Part) (k a l d : ℕ) → Fit k a l d (whole ∷ []) → Fit k a l d (lone ∷ []) → Fit k a l d (plans_in parts) →
      Fit k a l d (plans_in (cond b (Leaves (cond pushed lone whole) ∷ []) parts))
  one_of true true whole lone parts k a l d w o s = o
  one_of true false whole lone parts k a l d w o s = w
  one_of false pushed whole lone parts k a l d w o s = s

  -- a subquery, by what is known of its parts, whatever leaves it and whichever sets are given to it
  sub_fits : (leaving : Leaving) (rels : List Relation) (sets : ℕ → ValueSet) (start : ℕ) {p : _} (q : Query) (outer : Option OuterJoin) (k l : ℕ) → IsNested Outside k q → Room k (ins_in q) l (1 + leaves_of q) →
      ((out : Leaving) (given : List (ℕ × List Value)) → Fit k (ins_in q) (l + 1 + in_ctes q) (in_body q) (plans_in (parts_inside c out q given k (l + 1)))) →
      Fit k (ins_in q) l (1 + leaves_of q) (plans_in (parts_from c leaving rels sets (Sub' p (more_of-Query q end_of-Query)) start outer k l))
  sub_fits leaving rels sets start {p} q outer k l h room fits =
      let given : List (ℕ × List Value) = given_to sets start (pushable c q) in
      let planner : Planner = subquery_planner c (occurrences_in c q given) in
      let lone_parts : List Part = parts_inside c (leaving_by planner) q given k (l + 1) in
      let parts : List Part = parts_inside c (inside leaving) q given k (l + 1) in
      let alone : FromTree = Sub' p (more_of-Query (query_staying c (leaving_by planner) q (l + 1)) end_of-Query) in
      let key : ℕ = output_of (pushable c q) in
      let values : ValueSet = output_set sets start (pushable c q) in
      let whole : Plan = plan_of c l k k (l + 1) q in
      let lone : Plan = lone_plan c l planner lone_parts (lone_query alone key values) in
      let here : Room k (ins_in q) (l + 1) (leaves_of q) = omega (arith, room) in
      let low : m ≤ l = omega (arith, room) in
      let high : l < count = omega (arith, room) in
      let both : leaves_of q ≡ in_ctes q + in_body q = in_both q in
      let free : Between k (k + ins_in q) (l + 1) (l + 1 + leaves_of q) l → ⊥ = λ x. behind_it k (ins_in q) l (leaves_of q) room.1 x in
      one_of (leaves_subquery leaving rels (record { start = start; distribution = distribution_by start (pushable c q); outer = outer })) (is_some (pushable c q)) whole lone parts k (ins_in q) l (1 + leaves_of q)
      (fit_relation k (ins_in q) l (leaves_of q) whole (sound_plan l k k (l + 1) q h (λ out. fits out []) here low high free))
      (fit_relation k (ins_in q) l (leaves_of q) lone (sound_block l planner nothing_joined false no_grounds lone_parts (lone_query alone key values) k (ins_in q) (l + 1) (leaves_of q)
      (fit_within k (ins_in q) (l + 1) (leaves_of q) (l + 1 + in_ctes q) (in_body q) (plans_in lone_parts) (fits (leaving_by planner) given) (omega arith) (omega (arith, both))) here
      (λ S out set. lone_names S alone key values (inside_named c Outside S out (leaving_by planner) q given k (l + 1) (behind Outside k q h) set)) low high free))
      (fit_within k (ins_in q) l (1 + leaves_of q) (l + 1 + in_ctes q) (in_body q) (plans_in parts) (fits (inside leaving) given) (omega arith) (omega (arith, both)))

  -- ---- the parts of a query

  mutual
    inside_fits : (leaving : Leaving) (q : Query) (outer : List (ℕ × List Value)) (k l : ℕ) → IsNestedBehind Outside k q → Room k (ins_in q) (l + in_ctes q) (in_body q) → Fit k (ins_in q) (l + in_ctes q) (in_body q) (plans_in (parts_inside c leaving q outer k l))
    inside_fits leaving (Query' cs ctes ss subs from filter_ grouped keys aggs having items shown distinct order limit offset names) outer k l h room =
        let lf : ℕ = l + leaves_of_all ctes in
        let xs : List Part = parts_from c leaving (relations c from 0 None) (value_set outer (conjuncts_of filter_ from)) from 0 None k lf in
        let asked : List Plan = in_plans c (k + ins_in_from from) (lf + leaves_in from) subs in
        join_fits xs (map Asks asked) k (ins_in_from from) lf (leaves_in from) (ins_in_all subs) (leaves_of_all subs)
        (from_fits leaving (relations c from 0 None) (value_set outer (conjuncts_of filter_ from)) from 0 None k lf (numbers_from (k + ins_in_from from) subs) h.0 (omega (arith, room)))
        (subst (Fit (k + ins_in_from from) (ins_in_all subs) (lf + leaves_in from) (leaves_of_all subs)) (sym (asked_plans asked)) (ins_fit (k + ins_in_from from) (lf + leaves_in from) subs h.1 (omega (arith, room))))
        (omega (arith, room))

    from_fits : (leaving : Leaving) (rels : List Relation) (sets : ℕ → ValueSet) (f : FromTree) (start : ℕ) (outer : Option OuterJoin) (k l : ℕ) (own : List ℕ) → FromIsNested Outside (λ i. Outside i ⊎ Has own i) k f →
        Room k (ins_in_from f) l (leaves_in f) → Fit k (ins_in_from f) l (leaves_in f) (plans_in (parts_from c leaving rels sets f start outer k l))
    from_fits leaving rels sets (Table t n) start outer k l own h room =
        let o : Occurrence = occurrence_of c sets start t in
        let planner : Planner = table_planner c (touch_of c o) o.values in
        let parts : List Part = Stays t (touch_of c o).1 ∷ [] in
        let alone : Query = lone_query (Table t n) (key_of (place_at c t)) o.values in
        let lone : Plan = lone_plan c l planner parts alone in
        table_fits (leaves leaving rels (record { start = start; distribution = distribution_at start (place_at c t); outer = outer })) lone t (touch_of c o).1 k l
        (fit_relation k 0 l 0 lone (sound_block l planner nothing_joined false no_grounds parts alone k 0 (l + 1) 0 (fit_none k 0 (l + 1) 0) (omega (arith, room))
        (λ S out set. lone_names S (Table t n) (key_of (place_at c t)) o.values tt) (omega (arith, room)) (omega (arith, room)) (λ x. behind_it k 0 l 0 room.1 x)))
    from_fits leaving rels sets (Sub' p (more_of-Query q end_of-Query)) start outer k l own h room =
        let both : leaves_of q ≡ in_ctes q + in_body q = in_both q in
        sub_fits leaving rels sets start {p = p} q outer k l h room (λ out given. inside_fits out q given k (l + 1) (behind Outside k q h) (omega (arith, room, both)))
    from_fits leaving rels sets (Result i n) start outer k l own h room = fit_none k 0 l 1
    from_fits leaving rels sets (Cross' p (more_of-FromTree a end_of-FromTree) q (more_of-FromTree b end_of-FromTree)) start outer k l own h room =
        let k' : ℕ = k + ins_in_from a in
        let l' : ℕ = l + leaves_in a in
        join_fits (parts_from c leaving rels sets a start None k l) (parts_from c leaving rels sets b (start + columns_in a) None k' l') k (ins_in_from a) l (leaves_in a) (ins_in_from b) (leaves_in b)
        (from_fits leaving rels sets a start None k l own h.0 (omega (arith, room))) (from_fits leaving rels sets b (start + columns_in a) None k' l' own h.1 (omega (arith, room))) (omega (arith, room))
    from_fits leaving rels sets (Inner' p (more_of-FromTree a end_of-FromTree) q (more_of-FromTree b end_of-FromTree) on) start outer k l own h room =
        let k' : ℕ = k + ins_in_from a in
        let l' : ℕ = l + leaves_in a in
        join_fits (parts_from c leaving rels sets a start None k l) (parts_from c leaving rels sets b (start + columns_in a) None k' l') k (ins_in_from a) l (leaves_in a) (ins_in_from b) (leaves_in b)
        (from_fits leaving rels sets a start None k l own h.0 (omega (arith, room))) (from_fits leaving rels sets b (start + columns_in a) None k' l' own h.1 (omega (arith, room))) (omega (arith, room))
    from_fits leaving rels sets (Left' p (more_of-FromTree a end_of-FromTree) q (more_of-FromTree b end_of-FromTree) on) start outer k l own h room =
        let k' : ℕ = k + ins_in_from a in
        let l' : ℕ = l + leaves_in a in
        let sb : ℕ → ValueSet = right_sets sets (sets_in c sets a start) (distribution_in c b (start + columns_in a)) start (start + columns_in a) on in
        let o : Option OuterJoin = Some (record { left = start; equalities = equalities (conjuncts on) }) in
        join_fits (parts_from c leaving rels sets a start None k l) (parts_from c leaving rels sb b (start + columns_in a) o k' l') k (ins_in_from a) l (leaves_in a) (ins_in_from b) (leaves_in b)
        (from_fits leaving rels sets a start None k l own h.0 (omega (arith, room))) (from_fits leaving rels sb b (start + columns_in a) o k' l' own h.1 (omega (arith, room))) (omega (arith, room))

    ins_fit : (k l : ℕ) {n : _} (qs : Row_of-Query n) → AreNested Outside k qs → Room k (ins_in_all qs) l (leaves_of_all qs) → Fit k (ins_in_all qs) l (leaves_of_all qs) (in_plans c k l qs)
    ins_fit k l query.end_of-Query h room = fit_none k 0 l 0
    ins_fit k l (query.more_of-Query q more) h room =
        let both : leaves_of q ≡ in_ctes q + in_body q = in_both q in
        let p : Plan = plan_of c k (k + 1) (k + 1) l q in
        fit_both k (1 + ins_in q) l (leaves_of q) (k + 1 + ins_in q) (ins_in_all more) (l + leaves_of q) (leaves_of_all more) (p ∷ []) (in_plans c (k + 1 + ins_in q) (l + leaves_of q) more)
        (fit_asked k (ins_in q) l (leaves_of q) p (sound_plan k (k + 1) (k + 1) l q h.0 (λ out. inside_fits out q [] (k + 1) l (behind Outside (k + 1) q h.0) (omega (arith, room, both)))
        (omega (arith, room)) room.0 (omega (arith, room)) (λ x. before k (ins_in q) l (leaves_of q) (omega (arith, room)) x)))
        (ins_fit (k + 1 + ins_in q) (l + leaves_of q) more h.1 (omega (arith, room))) (omega arith) refl (omega (arith, room))

-- ---- WITH

-- of results that are set: the CTEs before number i, and what stands in them
abbrev Taken : ℕ → ℕ → ℕ → ℕ → ℕ → ℕ → Type 0
Taken i n k f l j = (j < i) ⊎ Between n k f l j

taken : (i n k f l i' k' l' j : ℕ) → i ≤ i' → k ≤ k' → l ≤ l' → Taken i n k f l j → Taken i' n k' f l' j
taken i n k f l i' k' l' j a b d (inl h) = inl (omega (arith, a, h))
taken i n k f l i' k' l' j a b d (inr h) = inr (between n k f l n k' f l' j (omega arith) b (omega arith) d h)

-- what comes next is not among them
not_taken : (i n k f l a b j : ℕ) → i ≤ n → n ≤ k → k + a ≤ f → f ≤ l → Taken i n k f l j → Between k (k + a) l (l + b) j → ⊥
not_taken i n k f l a b j u v w x (inl h) (inl y) = absurd (omega (arith, u, v, h, y))
not_taken i n k f l a b j u v w x (inl h) (inr y) = absurd (omega (arith, u, v, w, x, h, y))
not_taken i n k f l a b j u v w x (inr (inl h)) (inl y) = absurd (omega (arith, h, y))
not_taken i n k f l a b j u v w x (inr (inl h)) (inr y) = absurd (omega (arith, w, x, h, y))
not_taken i n k f l a b j u v w x (inr (inr h)) (inl y) = absurd (omega (arith, w, h, y))
not_taken i n k f l a b j u v w x (inr (inr h)) (inr y) = absurd (omega (arith, h, y))

not_own : (i n k f l : ℕ) → i < n → n ≤ f → Taken i n k f l i → ⊥
not_own i n k f l u v (inl h) = absurd (omega (arith, h))
not_own i n k f l u v (inr (inl h)) = absurd (omega (arith, u, h))
not_own i n k f l u v (inr (inr h)) = absurd (omega (arith, u, v, h))

module _ (c : Contents) (count : ℕ) where
  -- each is over the CTEs before it; behind them all CTEs are set, and besides only what stands in them
  ctes_order : (R : ℕ → Type 0) (i n k f l : ℕ) {w : _} (qs : Row_of-Query w) → CtesAreNested i k qs → (i + count_of qs ≤ n) × (n ≤ k) × (k + ins_in_ctes qs ≤ f) × (f ≤ l) × (l + leaves_of_all qs ≤ count) →
      ((j : ℕ) → j < i → R j) → ((j : ℕ) → R j → Taken i n k f l j) →
      InOrder count R (cte_plans c i k l qs) × ((j : ℕ) → j < i + count_of qs → R j ⊎ Has (set_in (cte_plans c i k l qs)) j)
      × ((j : ℕ) → R j ⊎ Has (set_in (cte_plans c i k l qs)) j → Taken (i + count_of qs) n (k + ins_in_ctes qs) f (l + leaves_of_all qs) j)
  ctes_order R i n k f l query.end_of-Query h space known few = (
    tt,
    (λ j x. inl (known j (omega (arith, x)))),
    (λ j x. elim x [ inl r ↦ taken i n k f l (i + 0) (k + 0) (l + 0) j (omega arith) (omega arith) (omega arith) (few j r) | inr none ↦ absurd none ]),
  )
  ctes_order R i n k f l (query.more_of-Query q more) h space known few =
      let P : ℕ → Type 0 = λ j. j < i in
      let p : Plan = plan_of c i k k l q in
      let rest : List Plan = cte_plans c (i + 1) (k + ins_in q) (l + leaves_of q) more in
      let both : leaves_of q ≡ in_ctes q + in_body q = in_both q in
      let own : i < n = omega (arith, space) in
      let inner : k + ins_in q ≤ f = omega (arith, space) in
      let s : IsOrdered count P p × ((j : ℕ) → Has (set_by p) j → Between k (k + ins_in q) l (l + leaves_of q) j ⊎ (i ≡ j)) =
      sound_plan c count i i k k l q h.0 (λ out. inside_fits c count i out q [] k l (behind P k q h.0) (omega (arith, space, both))) (omega (arith, space)) (omega arith) (omega (arith, space))
      (λ x. unlike i k (ins_in q) l (leaves_of q) (omega (arith, space)) (omega (arith, space)) x) in
      let u = ctes_order (λ j. R j ⊎ Has (set_by p) j) (i + 1) n (k + ins_in q) f (l + leaves_of q) more h.1 (omega (arith, space))
      (λ j low. with_own j (first_or_before j low))
      (λ j x. elim x [ inl r ↦ taken i n k f l (i + 1) (k + ins_in q) (l + leaves_of q) j (omega arith) (omega arith) (omega arith) (few j r) | inr y ↦ owned space.1 space.3 j (s.1 j y) ]) in (
        (order_grows count P R known p s.0 (λ j r x. clash own space.1 inner space.3 j (few j r) (s.1 j x)), u.0),
        (λ j x. joined R (set_by p) (set_in rest) j (u.1 j (omega (arith, x)))),
        (λ j x. taken (i + 1 + count_of more) n (k + ins_in q + ins_in_ctes more) f (l + leaves_of q + leaves_of_all more) (i + (1 + count_of more)) (k + (ins_in q + ins_in_ctes more)) (l + (leaves_of q + leaves_of_all more)) j
            (omega arith) (omega arith) (omega arith) (u.2 j (split R (set_by p) (set_in rest) j x))),
      )
    where
      unlike : (i k a l b : ℕ) → i < k → i < l → Between k (k + a) l (l + b) i → ⊥
      unlike i k a l b u v (inl x) = absurd (omega (arith, u, x))
      unlike i k a l b u v (inr x) = absurd (omega (arith, v, x))

      first_or_before : (j : ℕ) → j < i + 1 → (j < i) ⊎ (i ≡ j)
      first_or_before j low = grind arith

      with_own : (j : ℕ) → (j < i) ⊎ (i ≡ j) → R j ⊎ Has (set_by (plan_of c i k k l q)) j
      with_own j (inl low) = inl (known j low)
      with_own j (inr e) = inr (subst (λ x. Has (set_by (plan_of c i k k l q)) x) e (plan_number c i k k l q))

      owned : n ≤ k → f ≤ l → (j : ℕ) → Between k (k + ins_in q) l (l + leaves_of q) j ⊎ (i ≡ j) → Taken (i + 1) n (k + ins_in q) f (l + leaves_of q) j
      owned a b j (inl y) = inr (between k (k + ins_in q) l (l + leaves_of q) n (k + ins_in q) f (l + leaves_of q) j a (omega arith) b (omega arith) y)
      owned a b j (inr e) = inl (omega (arith, e))

      clash : i < n → n ≤ k → k + ins_in q ≤ f → f ≤ l → (j : ℕ) → Taken i n k f l j → Between k (k + ins_in q) l (l + leaves_of q) j ⊎ (i ≡ j) → ⊥
      clash own a inner b j t (inl y) = not_taken i n k f l (ins_in q) (leaves_of q) j (omega (arith, own)) a inner b t y
      clash own a inner b j t (inr e) = not_own i n k f l own (omega (arith, a, inner)) (subst (Taken i n k f l) (sym e) t)

-- ---- a statement

pub plans_are_ordered : PlansAreOrdered
plans_are_ordered c (Query' cs ctes ss subs from filter_ grouped keys aggs having items shown distinct order limit offset names) h =
    let q : Query = Query' cs ctes ss subs from filter_ grouped keys aggs having items shown distinct order limit offset names in
    let n : ℕ = count_of ctes in
    let k : ℕ = n + ins_in_ctes ctes in
    let f : ℕ = first_free q in
    let number : ℕ = f + leaves_of q in
    let count : ℕ = number + 1 in
    let e : f ≡ n + ins_in_ctes ctes + ins_in_from from + ins_in_all subs = length_of q in
    let planner : Planner = planner_of c q in
    let parting : Joined = parting_by c planner q in
    let parts : List Part = parts_inside c (leaving_by planner) q [] k f in
    let u = ctes_order c count (λ i. ⊥) 0 n n f f ctes h.0 (omega (arith, e)) (λ j x. absurd (omega (arith, x))) (λ j x. absurd x) in
    let fit = inside_fits c count n (leaving_by planner) q [] k f h.1 (omega (arith, e)) in
    block_order c number planner parting (shares_rows parting.class q) (grounds_of c q) (cte_plans c 0 n f ctes) parts (query_staying c (leaving_by planner) q f) count (λ j. j < n) (λ i. ⊥)
    u.0 (λ j x. u.1 j (omega (arith, x))) fit.0
    (λ j x y. not_taken (0 + n) n k f (f + leaves_of_all ctes) (ins_in_from from + ins_in_all subs) (leaves_in from + leaves_of_all subs) j (omega arith) (omega arith) (omega (arith, e)) (omega arith) (u.2 j x) (fit.1 j y))
    (λ S out set. inside_named c (λ j. j < n) S out (leaving_by planner) q [] k f h.1 set)
    (omega arith)
    (λ x. elim x [
      | inl none ↦ none
      | inr y ↦ elim y [
        | inl z ↦ last_of_all n k f (leaves_of_all ctes) (leaves_in from + leaves_of_all subs) (omega (arith, e)) (omega (arith, e)) (u.2 number (inr z))
        | inr z ↦ behind_all k (ins_in_from from + ins_in_all subs) f (leaves_of_all ctes) (leaves_in from + leaves_of_all subs) (omega (arith, e)) (fit.1 number z)
      ]
    ])
  where
    last_of_all : (n k f a b : ℕ) → n ≤ f → k ≤ f → Taken (0 + n) n k f (f + a) (f + (a + b)) → ⊥
    last_of_all n k f a b u v (inl x) = absurd (omega (arith, u, x))
    last_of_all n k f a b u v (inr (inl x)) = absurd (omega (arith, v, x))
    last_of_all n k f a b u v (inr (inr x)) = absurd (omega (arith, x))

    behind_all : (k i f a b : ℕ) → k + i ≤ f → Between k (k + i) (f + a) (f + a + b) (f + (a + b)) → ⊥
    behind_all k i f a b u (inl x) = absurd (omega (arith, u, x))
    behind_all k i f a b u (inr x) = absurd (omega (arith, x))

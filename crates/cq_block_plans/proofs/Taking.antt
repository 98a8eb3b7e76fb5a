-- The block of a query has the shape that its tasks need.
use Rattle.std.proofs.Common.{◌≡◌, ℕ, zero, suc, ◌+◌, ◌<◌, ◌≤◌, List, [], ◌∷◌, ◌++◌, map, filter, length, take, Bool, true, false, not, ◌&&◌, ◌||◌, nat_eq, nat_lt, cond, if◌then◌else◌, Option, None, Some, is_some, refl, sym, ap, subst, ◌∙◌, arith}
use Rattle.std.specs.List.{flat_map, list_any, AllByRecursion}
use Rattle.std.proofs.lemmas.List.Folds.{list_any-append}
use Rattle.std.proofs.lemmas.List.Elements.{filter-append}
use Rattle.cq_value.proofs.Truths.{and_left, and_right, both_true, same_number, or_false}
use Rattle.cq_value.specs.declared.value.Value.{Value}
use Rattle.cq_tree.specs.declared.plan.Planner.{Planner}
use Rattle.cq_tree.specs.declared.plan.Planner.TheVariants.{FastPath, Router, Pushdown, Repartition, Coordinator}
use Rattle.cq_tree.specs.declared.plan.Task.{Task}
use Rattle.cq_tree.specs.declared.query.FromTree.{FromTree, Table, Sub', Result, Cross', Inner', Left', end_of-FromTree, more_of-FromTree, end_of-Query, more_of-Query}
use Rattle.cq_tree.specs.declared.query.Query.{Query, Query'}
use Rattle.cq_meaning.specs.Queries.{columns_in, outputs_of}
use Rattle.cq_catalog.specs.Contents.{Contents}
use Rattle.cq_catalog.specs.Placement.{place_at, group_of}
use Rattle.cq_catalog.specs.declared.info.Place.{Place}
use Rattle.cq_catalog.specs.declared.info.Place.TheVariants.{Local, Distributed, Reference}
use Rattle.cq_planning.specs.Classes.{first_of_class}
use Rattle.cq_planning.specs.Conjuncts.{column_of, conjuncts, conjuncts_of, equalities}
use Rattle.cq_planning.specs.ValueSets.{ValueSet, value_set}
use Rattle.cq_planning.specs.Narrowing.{distribution_in, right_sets, sets_in, given_to}
use Rattle.cq_planning.specs.Occurrences.{Occurrence, occurrence_of, key_values, occurrences_from, occurrences_in}
use Rattle.cq_planning.specs.Components.{is_of_class}
use Rattle.cq_planning.specs.Joins.{relations_of, plain_in, has_several_components, has_loose_join}
use Rattle.cq_planning.specs.Pushable.{Pushable, pushable, relations, distribution_by, column_behind}
use Rattle.cq_planning.specs.Relations.{OuterJoin, Relation, distribution_at, distribution_of, distributions, is_distributed, is_left_in_block, is_plain}
use Rattle.cq_planning.specs.Routing.{distributed_of, groups_of_all, fits_fast_path, fits_router, is_distributed_place, is_reference_place, is_one_table, is_one_value, is_none_of_them, tasks_in}
use Rattle.cq_planning.specs.Touched.{among, in_order, groups_of, groups_at, groups_with, numbers}
use Rattle.cq_planning_laws.proofs.GroupLists.{in_order_has, in_order_only}
use Rattle.cq_outline.specs.declared.outline.Leaving.{Leaving}
use Rattle.cq_outline.specs.declared.outline.Leaving.TheVariants.{Nothing, Alone, Rights}
use Rattle.cq_outline.specs.Joining.{joined_in}
use Rattle.cq_outline.specs.Leaving.{leaves, leaves_subquery, inside}
use Rattle.cq_outline.specs.Tasking.{Touch, touch_of, groups_in, distributed_in, has_reference, first_group, is_none_left, planner_of, leaving_by, group_tasks, bucket_tasks, tasks_by, shown_planner, parting_by, first_column, shares_rows, combine_by}
use Rattle.cq_pushdown_laws.specs.Pushed.{joins_pushed}
use Rattle.cq_one_plan.specs.Plans.{stays_in, parts_inside}
use Rattle.cq_one_plan.specs.Stays.{leaves_in, leaves_of_all, result_if, from_staying, query_staying}
use Rattle.cq_plan_laws.specs.Blocks.{reads_none, query_reads_none}
use Rattle.cq_plan_laws.specs.Laws.{from_of}
use Rattle.cq_plan_laws.specs.Opening.{subs_pushed}
use Rattle.cq_plan_laws.proofs.Routed.{routed_is}
use Rattle.cq_block_plans.specs.Firm.{result_for, settled, IsFirm, IsFirmFrom}
use Rattle.cq_block_plans.specs.Taken.{reached, Reaches, IsAlone, IsTaken}
use Rattle.cq_block_plans.specs.Laws.{BlocksAreTaken}
use Rattle.cq_block_plans.proofs.Staying.{conjuncts_stay, all_stays, plain_stay, from_relations, pushable_stays, inside_pushable, staying_pushable, joins_stay, query_pushed, block_pushes}
use Rattle.cq_block_plans.proofs.Covering.{inside_stays}

-- ---- the touches of occurrences

alike : (a b : Bool) → (a ≡ true → b ≡ true) → (b ≡ true → a ≡ true) → a ≡ b
alike true true f g = refl
alike true false f g = sym (f refl)
alike false true f g = g refl
alike false false f g = refl

filter_same : (p q : ℕ → Bool) (k n : ℕ) → ((g : ℕ) → k ≤ g → g < k + n → p g ≡ q g) → filter p (numbers k n) ≡ filter q (numbers k n)
filter_same p q k zero h = refl
filter_same p q k (suc n) h = (λ i. cond (h k (omega arith) (omega arith) i) (k ∷ filter_same p q (k + 1) n (λ g a b. h g (omega arith) (omega arith)) i) (filter_same p q (k + 1) n (λ g a b. h g (omega arith) (omega arith)) i))

module _ (c : Contents) where
  abbrev spread : List Touch → List ℕ
  spread ts = flat_map (λ (t : Touch). t.1) ts

  among_each : (os : List Occurrence) (g : ℕ) → g < c.groups → among g (spread (map (touch_of c) os)) ≡ among g (flat_map (groups_of c) os)
  among_each [] g h = refl
  among_each (o ∷ os) g h =
      list_any-append (nat_eq g) (in_order c (groups_of c o)) (spread (map (touch_of c) os))
      ∙ ((λ i. alike (among g (in_order c (groups_of c o))) (among g (groups_of c o)) (in_order_only c (groups_of c o) g) (in_order_has c (groups_of c o) g h) i || among_each os g h i)
      ∙ sym (list_any-append (nat_eq g) (groups_of c o) (flat_map (groups_of c) os)))

  distributed_same : (os : List Occurrence) → distributed_in c (map (touch_of c) os) ≡ map (touch_of c) (distributed_of c os)
  distributed_same [] = refl
  distributed_same (o ∷ os) = by_case (is_distributed_place (place_at c o.table)) (distributed_in c (map (touch_of c) os)) (distributed_same os)
    where
      by_case : (b : Bool) (us : List Touch) → us ≡ map (touch_of c) (distributed_of c os) → cond b (touch_of c o ∷ us) us ≡ map (touch_of c) (cond b (o ∷ distributed_of c os) (distributed_of c os))
      by_case true us e = ap (λ vs. touch_of c o ∷ vs) e
      by_case false us e = e

  groups_same : (os : List Occurrence) → groups_in c (map (touch_of c) os) ≡ groups_of_all c (distributed_of c os)
  groups_same os =
      ap (λ ts. in_order c (spread ts)) (distributed_same os)
      ∙ filter_same (λ g. among g (spread (map (touch_of c) (distributed_of c os)))) (λ g. among g (flat_map (groups_of c) (distributed_of c os))) 0 c.groups (λ g a b. among_each (distributed_of c os) g (omega arith))

  abbrev is_of_reference : Occurrence → Bool
  is_of_reference o = is_reference_place (place_at c o.table)

  reference_same : (os : List Occurrence) → has_reference c (map (touch_of c) os) ≡ list_any is_of_reference os
  reference_same [] = refl
  reference_same (o ∷ os) = ap (λ (b : Bool). is_of_reference o || b) (reference_same os)

  none_apart : (a b : Bool) → (not a && not b) ≡ not (a || b)
  none_apart true b = refl
  none_apart false b = refl

  both_read : (xs ys : List Occurrence) (a b : Bool) → a ≡ not (list_any is_of_reference xs) → b ≡ not (list_any is_of_reference ys) → (a && b) ≡ not (list_any is_of_reference (xs ++ ys))
  both_read xs ys a b ea eb = (λ i. ea i && eb i) ∙ (none_apart (list_any is_of_reference xs) (list_any is_of_reference ys) ∙ ap not (sym (list_any-append is_of_reference xs ys)))

  -- a query without reference tables has no occurrence of one
  mutual
    query_reads : (q : Query) (outer : List (ℕ × List Value)) → query_reads_none c q ≡ not (list_any is_of_reference (occurrences_in c q outer))
    query_reads (Query' cs ctes ss subs from filter_ grouped keys aggs having items shown distinct order limit offset names) outer = from_reads from (value_set outer (conjuncts_of filter_ from)) 0

    from_reads : (f : FromTree) (sets : ℕ → ValueSet) (start : ℕ) → reads_none c f ≡ not (list_any is_of_reference (occurrences_from c sets f start))
    from_reads (Table t n) sets start = ap not (sym (or_false (is_reference_place (place_at c t))))
    from_reads (Sub' p (more_of-Query q end_of-Query)) sets start = query_reads q (given_to sets start (pushable c q))
    from_reads (Result i n) sets start = refl
    from_reads (Cross' p (more_of-FromTree a end_of-FromTree) q (more_of-FromTree b end_of-FromTree)) sets start =
        both_read (occurrences_from c sets a start) (occurrences_from c sets b (start + columns_in a)) (reads_none c a) (reads_none c b) (from_reads a sets start) (from_reads b sets (start + columns_in a))
    from_reads (Inner' p (more_of-FromTree a end_of-FromTree) q (more_of-FromTree b end_of-FromTree) on) sets start =
        both_read (occurrences_from c sets a start) (occurrences_from c sets b (start + columns_in a)) (reads_none c a) (reads_none c b) (from_reads a sets start) (from_reads b sets (start + columns_in a))
    from_reads (Left' p (more_of-FromTree a end_of-FromTree) q (more_of-FromTree b end_of-FromTree) on) sets start =
        let sb : ℕ → ValueSet = right_sets sets (sets_in c sets a start) (distribution_in c b (start + columns_in a)) start (start + columns_in a) on in
        both_read (occurrences_from c sets a start) (occurrences_from c sb b (start + columns_in a)) (reads_none c a) (reads_none c b) (from_reads a sets start) (from_reads b sb (start + columns_in a))

  -- ---- at most one task

  none_or : (b r : Bool) → r ≡ not b → b ≡ false → r ≡ true
  none_or b r e h = e ∙ ap not h

  alone_by : (first : ℕ) (reference shares : Bool) (gs : List ℕ) (q : Query) → nat_lt (length gs) 2 ≡ true → query_reads_none c q ≡ not reference → Reaches c q gs →
      IsAlone c (combine_by (length (tasks_in first reference gs)) shares) (tasks_in first reference gs) q
  alone_by first true shares [] q few none reach = (refl, reach)
  alone_by first false shares [] q few none reach = (none, reach)
  alone_by first reference shares (g ∷ []) q few none reach = (refl, reach)
  alone_by first reference shares (g ∷ (h ∷ gs)) q few none reach = absurd (grind (arith, few))

  -- a block of these occurrences
  alone_of : (touches : List Touch) (q : Query) (shares : Bool) → touches ≡ map (touch_of c) (occurrences_in c q []) → nat_lt (length (groups_in c touches)) 2 ≡ true →
      let tasks = tasks_in (first_group c (distributed_in c touches)) (has_reference c touches) (groups_in c touches) in IsAlone c (combine_by (length tasks) shares) tasks q
  alone_of touches q shares e few =
      let is : groups_in c touches ≡ reached c q = ap (groups_in c) e ∙ groups_same (occurrences_in c q []) in
      alone_by (first_group c (distributed_in c touches)) (has_reference c touches) shares (groups_in c touches) q few
      (query_reads q [] ∙ ap not (sym (ap (has_reference c) e ∙ reference_same (occurrences_in c q []))))
      (λ g h. ap (among g) is ∙ h)

  -- ---- the fast path

  none_one : (g k n : ℕ) → g < k → filter (λ h. among h (g ∷ [])) (numbers k n) ≡ []
  none_one g k zero below = refl
  none_one g k (suc n) below =
      let e : nat_eq k g ≡ false = grind (arith, below) in
      ap (λ (b : Bool). cond (b || false) (k ∷ filter (λ h. among h (g ∷ [])) (numbers (k + 1) n)) (filter (λ h. among h (g ∷ [])) (numbers (k + 1) n))) e ∙ none_one g (k + 1) n (omega (arith, below))

  few_one : (g k n : ℕ) → nat_lt (length (filter (λ h. among h (g ∷ [])) (numbers k n))) 2 ≡ true
  few_one g k zero = refl
  few_one g k (suc n) = by_case (nat_eq k g) refl (few_one g (k + 1) n)
    where
      more : List ℕ
      more = filter (λ h. among h (g ∷ [])) (numbers (k + 1) n)

      by_case : (b : Bool) → nat_eq k g ≡ b → nat_lt (length more) 2 ≡ true → nat_lt (length (cond (b || false) (k ∷ more) more)) 2 ≡ true
      by_case true e h = let is : k ≡ g = same_number k g e in ap (λ us. nat_lt (length (k ∷ us)) 2) (none_one g (k + 1) n (omega (arith, is)))
      by_case false e h = h

  table_few : (sets : ℕ → ValueSet) (t : ℕ) → is_one_value (key_values sets 0 (place_at c t)) ≡ true → nat_lt (length (groups_of_all c (distributed_of c (occurrence_of c sets 0 t ∷ [])))) 2 ≡ true
  table_few sets t h = by_place (place_at c t) refl h
    where
      by_place : (p : Place) → place_at c t ≡ p → is_one_value (key_values sets 0 p) ≡ true → nat_lt (length (groups_of_all c (distributed_of c (occurrence_of c sets 0 t ∷ [])))) 2 ≡ true
      by_place Local e h = cc
      by_place (Reference group shard) e h = cc
      by_place (Distributed at colocation first_shard) e h = by_set (sets (0 + at)) refl h
        where
          by_set : (s : ValueSet) → sets (0 + at) ≡ s → is_one_value s ≡ true → nat_lt (length (groups_of_all c (distributed_of c (occurrence_of c sets 0 t ∷ [])))) 2 ≡ true
          by_set None f h = cc
          by_set (Some []) f h = cc
          by_set (Some (v ∷ (w ∷ vs))) f h = cc
          by_set (Some (v ∷ [])) f h =
              let only : distributed_of c (occurrence_of c sets 0 t ∷ []) ≡ occurrence_of c sets 0 t ∷ [] = ap (λ (q : Place). cond (is_distributed_place q) (occurrence_of c sets 0 t ∷ []) []) e in
              let own : groups_of c (occurrence_of c sets 0 t) ≡ group_of c t v ∷ [] = ap (λ (q : Place). groups_at c t q (key_values sets 0 q)) e ∙ ap (groups_with c t) f in
              ap (λ os. nat_lt (length (groups_of_all c os)) 2) only ∙ (ap (λ gs. nat_lt (length (in_order c (gs ++ []))) 2) own ∙ few_one (group_of c t v) 0 c.groups)

  fast_few : (q : Query) → fits_fast_path c q ≡ true → nat_lt (length (groups_of_all c (distributed_of c (occurrences_in c q [])))) 2 ≡ true
  fast_few (Query' cs ctes ss subs from filter_ grouped keys aggs having items shown distinct order limit offset names) h =
      by_from from (value_set [] (conjuncts_of filter_ from)) (and_right (is_none_of_them subs) _ (and_right (is_none_of_them ctes) _ h))
    where
      by_from : (f : FromTree) (sets : ℕ → ValueSet) → is_one_table c sets f ≡ true → nat_lt (length (groups_of_all c (distributed_of c (occurrences_from c sets f 0)))) 2 ≡ true
      by_from (Table t n) sets h = table_few sets t h
      by_from (Sub' p (more_of-Query q end_of-Query)) sets h = cc
      by_from (Result i n) sets h = cc
      by_from (Cross' p (more_of-FromTree a end_of-FromTree) q (more_of-FromTree b end_of-FromTree)) sets h = cc
      by_from (Inner' p (more_of-FromTree a end_of-FromTree) q (more_of-FromTree b end_of-FromTree) on) sets h = cc
      by_from (Left' p (more_of-FromTree a end_of-FromTree) q (more_of-FromTree b end_of-FromTree) on) sets h = cc

  -- ---- what stays

  subs_stay : (leaving : Leaving) → inside leaving ≡ Alone → (rels : List Relation) (f : FromTree) (start : ℕ) (outer : Option OuterJoin) (l : ℕ) → IsFirmFrom c f → subs_pushed c (from_staying c leaving rels f start outer l) ≡ true
  subs_stay leaving some rels (Table t n) start outer l firm = by_case (leaves leaving rels (record { start = start; distribution = distribution_at start (place_at c t); outer = outer }))
    where
      by_case : (b : Bool) → subs_pushed c (result_if b l n (Table t n)) ≡ true
      by_case true = refl
      by_case false = refl
  subs_stay leaving some rels (Sub' p (more_of-Query q end_of-Query)) start outer l firm = by_case (leaves_subquery leaving rels (record { start = start; distribution = distribution_by start (pushable c q); outer = outer })) refl
    where
      by_case : (b : Bool) → leaves_subquery leaving rels (record { start = start; distribution = distribution_by start (pushable c q); outer = outer }) ≡ b →
          subs_pushed c (result_if b l (outputs_of q) (Sub' p (more_of-Query (query_staying c (inside leaving) q (l + 1)) end_of-Query))) ≡ true
      by_case true e = refl
      by_case false e = ap is_some (inside_pushable c leaving q (l + 1) (pushable_stays c q (l + 1) firm)) ∙ staying_pushable c leaving rels start outer (pushable c q) some e
  subs_stay leaving some rels (Result i n) start outer l firm = refl
  subs_stay leaving some rels (Cross' p (more_of-FromTree a end_of-FromTree) q (more_of-FromTree b end_of-FromTree)) start outer l firm =
      both_true (subs_pushed c (from_staying c leaving rels a start None l)) (subs_pushed c (from_staying c leaving rels b (start + columns_in a) None (l + leaves_in a)))
      (subs_stay leaving some rels a start None l firm.0) (subs_stay leaving some rels b (start + columns_in a) None (l + leaves_in a) firm.1)
  subs_stay leaving some rels (Inner' p (more_of-FromTree a end_of-FromTree) q (more_of-FromTree b end_of-FromTree) on) start outer l firm =
      both_true (subs_pushed c (from_staying c leaving rels a start None l)) (subs_pushed c (from_staying c leaving rels b (start + columns_in a) None (l + leaves_in a)))
      (subs_stay leaving some rels a start None l firm.0) (subs_stay leaving some rels b (start + columns_in a) None (l + leaves_in a) firm.1)
  subs_stay leaving some rels (Left' p (more_of-FromTree a end_of-FromTree) q (more_of-FromTree b end_of-FromTree) on) start outer l firm =
      let o : Option OuterJoin = Some (record { left = start; equalities = equalities (conjuncts on) }) in
      both_true (subs_pushed c (from_staying c leaving rels a start None l)) (subs_pushed c (from_staying c leaving rels b (start + columns_in a) o (l + leaves_in a)))
      (subs_stay leaving some rels a start None l firm.0) (subs_stay leaving some rels b (start + columns_in a) o (l + leaves_in a) firm.1)

  subs_of : (q : Query) (l : ℕ) → IsFirm c q → subs_pushed c (from_of (query_staying c Rights q l)) ≡ true
  subs_of (Query' cs ctes ss subs from filter_ grouped keys aggs having items shown distinct order limit offset names) l firm = subs_stay Rights refl (relations c from 0 None) from 0 None (l + leaves_of_all ctes) firm.1

  joins_of : (q : Query) (l : ℕ) → IsFirm c q → joins_pushed c (from_of (query_staying c Rights q l)) ≡ true
  joins_of (Query' cs ctes ss subs from filter_ grouped keys aggs having items shown distinct order limit offset names) l firm = joins_stay c Rights refl (relations c from 0 None) from 0 None (l + leaves_of_all ctes) firm.1

  shares_stay : (leaving : Leaving) (at : ℕ) (q : Query) (l : ℕ) → shares_rows at (query_staying c leaving q l) ≡ shares_rows at q
  shares_stay leaving at (Query' cs ctes ss subs from filter_ grouped keys aggs having items shown distinct order limit offset names) l =
      ap (λ ks. (grouped && not (list_any (λ e. is_of_class (first_of_class (equalities ks)) at (column_of e)) keys))
      || (distinct && not (list_any (λ e. is_of_class (first_of_class (equalities ks)) at (column_behind grouped keys (column_of e))) (take shown items)))) (conjuncts_stay c leaving (relations c from 0 None) filter_ from (l + leaves_of_all ctes))

  plain_stays : (leaving : Leaving) (q : Query) (l : ℕ) → IsFirm c q → plain_in c (query_staying c leaving q l) ≡ plain_in c q
  plain_stays leaving (Query' cs ctes ss subs from filter_ grouped keys aggs having items shown distinct order limit offset names) l firm =
      ap (distributions is_plain) (from_relations c leaving (relations c from 0 None) from 0 None (l + leaves_of_all ctes) firm.1) ∙ plain_stay leaving (relations c from 0 None) (relations c from 0 None)

  -- ---- where nothing distributed stays

  place_is : (start : ℕ) (p : Place) → is_distributed_place p ≡ is_some (distribution_at start p)
  place_is start Local = refl
  place_is start (Distributed at colocation first_shard) = refl
  place_is start (Reference group shard) = refl

  abbrev IsBare : Relation → Type 0
  IsBare r = is_distributed r ≡ false

  bare_left : (xs ys : List Relation) → AllByRecursion IsBare (xs ++ ys) → AllByRecursion IsBare xs
  bare_left [] ys h = tt
  bare_left (x ∷ xs) ys h = (h.0, bare_left xs ys h.1)

  bare_right : (xs ys : List Relation) → AllByRecursion IsBare (xs ++ ys) → AllByRecursion IsBare ys
  bare_right [] ys h = h
  bare_right (x ∷ xs) ys h = bare_right xs ys h.1

  both_none : (xs ys : List Occurrence) → distributed_of c xs ≡ [] → distributed_of c ys ≡ [] → distributed_of c (xs ++ ys) ≡ []
  both_none xs ys ea eb = filter-append (λ (o : Occurrence). is_distributed_place (place_at c o.table)) xs ys ∙ (λ i. ea i ++ eb i)

  bare_none : (sets : ℕ → ValueSet) (f : FromTree) (start : ℕ) (outer : Option OuterJoin) → subs_pushed c f ≡ true → AllByRecursion IsBare (relations c f start outer) → distributed_of c (occurrences_from c sets f start) ≡ []
  bare_none sets (Table t n) start outer h bare = ap (λ (b : Bool). cond b (occurrence_of c sets start t ∷ []) []) (place_is start (place_at c t) ∙ bare.0)
  bare_none sets (Sub' p (more_of-Query q end_of-Query)) start outer h bare = apart (pushable c q) h bare.0
    where
      apart : {X : Type 0} (o : Option Pushable) → is_some o ≡ true → is_some (distribution_by start o) ≡ false → X
      apart None h e = cc
      apart (Some s) h e = cc
  bare_none sets (Result i n) start outer h bare = refl
  bare_none sets (Cross' p (more_of-FromTree a end_of-FromTree) q (more_of-FromTree b end_of-FromTree)) start outer h bare =
      let ra : List Relation = relations c a start None in
      let rb : List Relation = relations c b (start + columns_in a) None in
      both_none (occurrences_from c sets a start) (occurrences_from c sets b (start + columns_in a)) (bare_none sets a start None (and_left (subs_pushed c a) (subs_pushed c b) h) (bare_left ra rb bare))
      (bare_none sets b (start + columns_in a) None (and_right (subs_pushed c a) (subs_pushed c b) h) (bare_right ra rb bare))
  bare_none sets (Inner' p (more_of-FromTree a end_of-FromTree) q (more_of-FromTree b end_of-FromTree) on) start outer h bare =
      let ra : List Relation = relations c a start None in
      let rb : List Relation = relations c b (start + columns_in a) None in
      both_none (occurrences_from c sets a start) (occurrences_from c sets b (start + columns_in a)) (bare_none sets a start None (and_left (subs_pushed c a) (subs_pushed c b) h) (bare_left ra rb bare))
      (bare_none sets b (start + columns_in a) None (and_right (subs_pushed c a) (subs_pushed c b) h) (bare_right ra rb bare))
  bare_none sets (Left' p (more_of-FromTree a end_of-FromTree) q (more_of-FromTree b end_of-FromTree) on) start outer h bare =
      let o : Option OuterJoin = Some (record { left = start; equalities = equalities (conjuncts on) }) in
      let sb : ℕ → ValueSet = right_sets sets (sets_in c sets a start) (distribution_in c b (start + columns_in a)) start (start + columns_in a) on in
      let ra : List Relation = relations c a start None in
      let rb : List Relation = relations c b (start + columns_in a) o in
      both_none (occurrences_from c sets a start) (occurrences_from c sb b (start + columns_in a)) (bare_none sets a start None (and_left (subs_pushed c a) (subs_pushed c b) h) (bare_left ra rb bare))
      (bare_none sb b (start + columns_in a) o (and_right (subs_pushed c a) (subs_pushed c b) h) (bare_right ra rb bare))

  all_leave : (rels rs : List Relation) → is_none_left (distributions (is_left_in_block rels) rs) ≡ true → AllByRecursion IsBare (map (settled Alone rels) rs)
  all_leave rels [] h = tt
  all_leave rels (r ∷ rs) h = by_case (is_left_in_block rels r) refl (all_leave rels rs) h
    where
      bare : (d : Bool) → is_distributed r ≡ d → is_distributed (if d && true then result_for r else r) ≡ false
      bare true e = refl
      bare false e = e

      by_case : (b : Bool) → is_left_in_block rels r ≡ b → (is_none_left (distributions (is_left_in_block rels) rs) ≡ true → AllByRecursion IsBare (map (settled Alone rels) rs)) →
          is_none_left (map distribution_of (cond b (r ∷ filter (is_left_in_block rels) rs) (filter (is_left_in_block rels) rs))) ≡ true → AllByRecursion IsBare (map (settled Alone rels) (r ∷ rs))
      by_case true e more h = cc
      by_case false e more h = (ap (λ (b : Bool). is_distributed (if is_distributed r && not b then result_for r else r)) e ∙ bare (is_distributed r) refl, more h)

  none_stays : (q : Query) (l : ℕ) → IsFirm c q → is_none_left (distributions (is_left_in_block (relations_of c q)) (relations_of c q)) ≡ true → distributed_of c (occurrences_in c (query_staying c Alone q l) []) ≡ []
  none_stays (Query' cs ctes ss subs from filter_ grouped keys aggs having items shown distinct order limit offset names) l firm h =
      let rels : List Relation = relations c from 0 None in
      let f : FromTree = from_staying c Alone rels from 0 None (l + leaves_of_all ctes) in
      bare_none (value_set [] (conjuncts_of filter_ f)) f 0 None (subs_stay Alone refl rels from 0 None (l + leaves_of_all ctes) firm.1)
      (subst (AllByRecursion IsBare) (sym (from_relations c Alone rels from 0 None (l + leaves_of_all ctes) firm.1)) (all_leave rels rels h))

  none_filtered : (xs : List ℕ) → filter (λ g. false) xs ≡ []
  none_filtered [] = refl
  none_filtered (x ∷ xs) = none_filtered xs

  -- ---- tasks in groups

  tasks_long : (first : ℕ) (gs : List ℕ) → length (group_tasks first gs) ≡ length gs
  tasks_long first [] = refl
  tasks_long first (g ∷ gs) = ap suc (tasks_long first gs)

  tasks_groups : (first : ℕ) (gs : List ℕ) → map (λ (t : Task). t.group) (group_tasks first gs) ≡ map Some gs
  tasks_groups first [] = refl
  tasks_groups first (g ∷ gs) = ap (λ us. Some g ∷ us) (tasks_groups first gs)

-- ---- by planner

abbrev chosen : Bool → Bool → Bool → Bool → Planner
chosen fast routed none several = if fast then FastPath else (if routed then Router else (if none then Coordinator else (if several then Repartition else Pushdown)))

if_fast : (fast routed none several : Bool) → chosen fast routed none several ≡ FastPath → fast ≡ true
if_fast true routed none several h = refl
if_fast false true none several h = cc
if_fast false false true several h = cc
if_fast false false false true h = cc
if_fast false false false false h = cc

if_routed : (fast routed none several : Bool) → chosen fast routed none several ≡ Router → routed ≡ true
if_routed true routed none several h = cc
if_routed false true none several h = refl
if_routed false false true several h = cc
if_routed false false false true h = cc
if_routed false false false false h = cc

if_none : (fast routed none several : Bool) → chosen fast routed none several ≡ Coordinator → none ≡ true
if_none true routed none several h = cc
if_none false true none several h = cc
if_none false false true several h = refl
if_none false false false true h = cc
if_none false false false false h = cc

module _ (c : Contents) (q : Query) (k l : ℕ) (firm : IsFirm c q) (loose : has_loose_join c q ≡ false) where
  abbrev touches : Leaving → List Touch
  touches leaving = stays_in (parts_inside c leaving q [] k l)

  -- the groups of the tables that stay are those of the query that stays
  groups_are : (leaving : Leaving) → groups_in c (touches leaving) ≡ reached c (query_staying c leaving q l)
  groups_are leaving = ap (groups_in c) (inside_stays c leaving q [] k l firm) ∙ groups_same c (occurrences_in c (query_staying c leaving q l) [])

  reach : (leaving : Leaving) → Reaches c (query_staying c leaving q l) (groups_in c (touches leaving))
  reach leaving g h = ap (among g) (groups_are leaving) ∙ h

  whole_few : nat_lt (length (groups_of_all c (distributed_of c (occurrences_in c q [])))) 2 ≡ true → nat_lt (length (groups_in c (touches Nothing))) 2 ≡ true
  whole_few h = ap (λ gs. nat_lt (length gs) 2) (groups_are Nothing ∙ ap (reached c) (all_stays c q l)) ∙ h

  abbrev none : Bool
  none = is_none_left (distributions (is_left_in_block (relations_of c q)) (relations_of c q))

  abbrev Taken : Planner → Type 0
  Taken planner = let parting = parting_by c planner q in
      let tasks = tasks_by c planner parting.count (touches (leaving_by planner)) in
      IsTaken c (shown_planner c planner (touches (leaving_by planner))) parting (combine_by (length tasks) (shares_rows parting.class q)) tasks (query_staying c (leaving_by planner) q l) (touches (leaving_by planner))

  abbrev tasks : List Task
  tasks = tasks_in (first_group c (distributed_in c (touches Alone))) (has_reference c (touches Alone)) (groups_in c (touches Alone))

  by_planner : (planner : Planner) → planner_of c q ≡ planner → Taken planner
  by_planner FastPath e =
      alone_of c (touches Nothing) (query_staying c Nothing q l) (shares_rows (first_column (plain_in c q)) q) (inside_stays c Nothing q [] k l firm)
      (whole_few (fast_few c q (if_fast (fits_fast_path c q) (fits_router c q) none (has_several_components c q) e)))
  by_planner Router e =
      alone_of c (touches Nothing) (query_staying c Nothing q l) (shares_rows (first_column (plain_in c q)) q) (inside_stays c Nothing q [] k l firm)
      (whole_few (routed_is c (occurrences_in c q []) (if_routed (fits_fast_path c q) (fits_router c q) none (has_several_components c q) e)).1)
  by_planner Coordinator e = shown (has_reference c (touches Alone))
      (alone_of c (touches Alone) (query_staying c Alone q l) (shares_rows (first_column (plain_in c q)) q) (inside_stays c Alone q [] k l firm)
      (ap (λ gs. nat_lt (length gs) 2) (groups_are Alone ∙ (ap (groups_of_all c) (none_stays c q l firm (if_none (fits_fast_path c q) (fits_router c q) none (has_several_components c q) e)) ∙ none_filtered c (numbers 0 c.groups)))))
    where
      shown : (b : Bool) → IsAlone c (combine_by (length tasks) (shares_rows (first_column (plain_in c q)) q)) tasks (query_staying c Alone q l) →
          IsTaken c (if b then Router else Coordinator) (parting_by c Coordinator q) (combine_by (length tasks) (shares_rows (first_column (plain_in c q)) q)) tasks (query_staying c Alone q l) (touches Alone)
      shown true h = h
      shown false h = h
  by_planner Pushdown e =
      let gs : List ℕ = groups_in c (touches Alone) in
      let first : ℕ = first_group c (distributed_in c (touches Alone)) in
      let same : shares_rows (first_column (plain_in c (query_staying c Alone q l))) (query_staying c Alone q l) ≡ shares_rows (first_column (plain_in c q)) q =
      ap (λ ds. shares_rows (first_column ds) (query_staying c Alone q l)) (plain_stays c Alone q l firm) ∙ shares_stay c Alone (first_column (plain_in c q)) q l in
      (query_pushed c q l firm (block_pushes c q e loose), tasks_groups c first gs, λ i. combine_by (tasks_long c first gs i) (sym same i), reach Alone)
  by_planner Repartition e =
      (joins_of c q l firm, subs_of c q l firm, refl, ap (combine_by (length (bucket_tasks (joined_in c q).count))) (sym (shares_stay c Rights (joined_in c q).class q l)), reach Rights)

pub blocks_are_taken : BlocksAreTaken
blocks_are_taken c q k l firm loose = by_planner c q k l firm loose (planner_of c q) refl

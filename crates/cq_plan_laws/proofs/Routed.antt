-- What the router takes it takes in each part; and what reads no table has nothing to refuse.
use Rattle.std.proofs.Common.{◌≡◌, ◌≤◌, ℕ, ◌+◌, List, [], ◌∷◌, ◌++◌, map, filter, take, length, Bool, true, false, not, ◌&&◌, ◌||◌, nat_eq, nat_lt, cond, Option, None, Some, is_some, ◌⊎◌, inl, inr, refl, sym, ap, ◌∙◌, arith}
use Rattle.std.specs.List.{list_any, list_all, flat_map, AllByRecursion}
use Rattle.std.proofs.lemmas.List.Folds.{list_any-append, list_all-append}
use Rattle.std.proofs.lemmas.List.Elements.{filter-append}
use Rattle.std.proofs.lemmas.List.Concat.{flat_map-append}
use Rattle.cq_value.proofs.Truths.{and_both, and_left, and_right, both_true, left_false, right_false, or_true, same_number}
use Rattle.cq_value.specs.declared.value.Value.{Value}
use Rattle.cq_tree.specs.declared.query.FromTree.{FromTree, Table, Sub', Result, Cross', Inner', Left', end_of-FromTree, more_of-FromTree, end_of-Query, more_of-Query}
use Rattle.cq_tree.specs.declared.query.Query.{Query, Query'}
use Rattle.cq_meaning.specs.Queries.{columns_in}
use Rattle.cq_catalog.specs.Contents.{Contents, colocation_of}
use Rattle.cq_catalog.specs.Placement.{place_at}
use Rattle.cq_planning.specs.Blocks.{is_taken_whole}
use Rattle.cq_planning.specs.Classes.{first_of_class}
use Rattle.cq_planning.specs.Components.{is_loose}
use Rattle.cq_planning.specs.Conjuncts.{conjuncts, conjuncts_of, equalities}
use Rattle.cq_planning.specs.Joins.{equalities_of, relations_of, are_one_component, has_several_components, are_connected, needs_repartition, lacks_equality, has_loose_join}
use Rattle.cq_planning.specs.Narrowing.{given_to, right_sets, sets_in, distribution_in}
use Rattle.cq_planning.specs.Occurrences.{Occurrence, occurrences_in, occurrences_from}
use Rattle.cq_planning.specs.Pushable.{pushable, pushable_over, relations, distribution_by}
use Rattle.cq_planning.specs.Relations.{OuterJoin, Relation, is_distributed, is_right, is_plain, is_left_in_block, has_distributed_left, distribution_of, distributions}
use Rattle.cq_planning.specs.Routing.{distributed_of, are_of_one_colocation, groups_of_all, are_routed, fits_fast_path, fits_router, is_distributed_place}
use Rattle.cq_planning.specs.Touched.{among, in_order, groups_of, numbers}
use Rattle.cq_planning.specs.ValueSets.{ValueSet, value_set}

module _ (c : Contents) where
  -- ---- the parts of what is routed

  -- all distributed tables are of one co-location group, and touch at most one group
  abbrev pub IsRouted : List Occurrence → Type 0
  IsRouted os = (are_of_one_colocation c (distributed_of c os) ≡ true) × (nat_lt (length (groups_of_all c (distributed_of c os))) 2 ≡ true)

  abbrev of_one : Occurrence → Occurrence → Bool
  of_one o p = nat_eq (colocation_of (place_at c p.table)) (colocation_of (place_at c o.table))

  one_before : (xs ys : List Occurrence) → are_of_one_colocation c (xs ++ ys) ≡ true → are_of_one_colocation c xs ≡ true
  one_before [] ys h = refl
  one_before (o ∷ xs) ys h = and_left (list_all (of_one o) xs) (list_all (of_one o) ys) (sym (list_all-append (of_one o) xs ys) ∙ h)

  -- all like another that is like a third are like the third
  all_like : (o p : Occurrence) → of_one o p ≡ true → (xs : List Occurrence) → list_all (of_one o) xs ≡ true → list_all (of_one p) xs ≡ true
  all_like o p e [] h = refl
  all_like o p e (x ∷ xs) h =
      let own : of_one o x ≡ true = and_left (of_one o x) (list_all (of_one o) xs) h in
      let same : colocation_of (place_at c p.table) ≡ colocation_of (place_at c o.table) = same_number _ _ e in
      both_true (of_one p x) (list_all (of_one p) xs) (ap (nat_eq (colocation_of (place_at c x.table))) same ∙ own) (all_like o p e xs (and_right (of_one o x) (list_all (of_one o) xs) h))

  one_alone : (o : Occurrence) (ys : List Occurrence) → list_all (of_one o) ys ≡ true → are_of_one_colocation c ys ≡ true
  one_alone o [] h = refl
  one_alone o (y ∷ ys) h = all_like o y (and_left (of_one o y) (list_all (of_one o) ys) h) ys (and_right (of_one o y) (list_all (of_one o) ys) h)

  one_behind : (xs ys : List Occurrence) → are_of_one_colocation c (xs ++ ys) ≡ true → are_of_one_colocation c ys ≡ true
  one_behind [] ys h = h
  one_behind (o ∷ xs) ys h = one_alone o ys (and_right (list_all (of_one o) xs) (list_all (of_one o) ys) (sym (list_all-append (of_one o) xs ys) ∙ h))

  -- fewer pass a narrower test
  fewer : (p q : ℕ → Bool) → ((g : ℕ) → p g ≡ true → q g ≡ true) → (gs : List ℕ) → length (filter p gs) ≤ length (filter q gs)
  fewer p q h [] = omega arith
  fewer p q h (g ∷ gs) = by_case (p g) (q g) (h g) (fewer p q h gs)
    where
      by_case : (a b : Bool) → (a ≡ true → b ≡ true) → length (filter p gs) ≤ length (filter q gs) →
          length (cond a (g ∷ filter p gs) (filter p gs)) ≤ length (cond b (g ∷ filter q gs) (filter q gs))
      by_case true true i k = omega (arith, k)
      by_case true false i k = let e : false ≡ true = i refl in cc
      by_case false true i k = omega (arith, k)
      by_case false false i k = k

  below_two : (a b : ℕ) → a ≤ b → nat_lt b 2 ≡ true → nat_lt a 2 ≡ true
  below_two a b k h = grind (arith, h, k)

  few_by : (xs ys : List ℕ) → ((g : ℕ) → among g xs ≡ true → among g ys ≡ true) → nat_lt (length (in_order c ys)) 2 ≡ true → nat_lt (length (in_order c xs)) 2 ≡ true
  few_by xs ys h few =
      let k : length (in_order c xs) ≤ length (in_order c ys) = fewer (λ g. among g xs) (λ g. among g ys) h (numbers 0 c.groups) in
      below_two (length (in_order c xs)) (length (in_order c ys)) k few

  among_first : (g : ℕ) (xs ys : List ℕ) → among g xs ≡ true → among g (xs ++ ys) ≡ true
  among_first g xs ys h = list_any-append (nat_eq g) xs ys ∙ ap (λ (b : Bool). b || among g ys) h

  among_second : (g : ℕ) (xs ys : List ℕ) → among g ys ≡ true → among g (xs ++ ys) ≡ true
  among_second g xs ys h = list_any-append (nat_eq g) xs ys ∙ (ap (λ (b : Bool). among g xs || b) h ∙ or_true (among g xs))

  abbrev spread : List Occurrence → List ℕ
  spread os = flat_map (groups_of c) os

  split : (xs ys : List Occurrence) → distributed_of c (xs ++ ys) ≡ distributed_of c xs ++ distributed_of c ys
  split xs ys = filter-append (λ (o : Occurrence). is_distributed_place (place_at c o.table)) xs ys

  few_in : (xs ys : List Occurrence) → nat_lt (length (groups_of_all c (distributed_of c (xs ++ ys)))) 2 ≡ true → nat_lt (length (in_order c (spread (distributed_of c xs) ++ spread (distributed_of c ys)))) 2 ≡ true
  few_in xs ys h = ap (λ (gs : List ℕ). nat_lt (length (in_order c gs)) 2) (sym (ap spread (split xs ys) ∙ flat_map-append (groups_of c) (distributed_of c xs) (distributed_of c ys))) ∙ h

  pub first_routed : (xs ys : List Occurrence) → IsRouted (xs ++ ys) → IsRouted xs
  first_routed xs ys h = (
    one_before (distributed_of c xs) (distributed_of c ys) (ap (are_of_one_colocation c) (sym (split xs ys)) ∙ h.0),
    few_by (spread (distributed_of c xs)) (spread (distributed_of c xs) ++ spread (distributed_of c ys)) (λ g e. among_first g (spread (distributed_of c xs)) (spread (distributed_of c ys)) e) (few_in xs ys h.1),
  )

  pub second_routed : (xs ys : List Occurrence) → IsRouted (xs ++ ys) → IsRouted ys
  second_routed xs ys h = (
    one_behind (distributed_of c xs) (distributed_of c ys) (ap (are_of_one_colocation c) (sym (split xs ys)) ∙ h.0),
    few_by (spread (distributed_of c ys)) (spread (distributed_of c xs) ++ spread (distributed_of c ys)) (λ g e. among_second g (spread (distributed_of c xs)) (spread (distributed_of c ys)) e) (few_in xs ys h.1),
  )

  pub routed_is : (os : List Occurrence) → are_routed c os ≡ true → IsRouted os
  routed_is [] h = cc
  routed_is (o ∷ os) h = and_both (are_of_one_colocation c (distributed_of c (o ∷ os))) (nat_lt (length (groups_of_all c (distributed_of c (o ∷ os)))) 2) h

  -- ---- what reads no table

  abbrev IsBare : Relation → Type 0
  IsBare r = r.distribution ≡ None

  none_before : (xs ys : List Occurrence) → xs ++ ys ≡ [] → xs ≡ []
  none_before [] ys h = refl
  none_before (x ∷ xs) ys h = cc

  none_behind : (xs ys : List Occurrence) → xs ++ ys ≡ [] → ys ≡ []
  none_behind [] ys h = h
  none_behind (x ∷ xs) ys h = cc

  all_append : (xs ys : List Relation) → AllByRecursion IsBare xs → AllByRecursion IsBare ys → AllByRecursion IsBare (xs ++ ys)
  all_append [] ys a b = b
  all_append (x ∷ xs) ys a b = (a.0, all_append xs ys a.1 b)

  none_pass : (test : Relation → Bool) → ((r : Relation) → IsBare r → test r ≡ false) → (rels : List Relation) → AllByRecursion IsBare rels → filter test rels ≡ []
  none_pass test h [] a = refl
  none_pass test h (r ∷ rels) a = ap (λ (b : Bool). cond b (r ∷ filter test rels) (filter test rels)) (h r a.0) ∙ none_pass test h rels a.1

  bare_is : (r : Relation) → IsBare r → is_distributed r ≡ false
  bare_is r e = ap is_some e

  no_distributions : (test : Relation → Bool) → ((r : Relation) → IsBare r → test r ≡ false) → (rels : List Relation) → AllByRecursion IsBare rels → distributions test rels ≡ []
  no_distributions test h rels a = ap (map distribution_of) (none_pass test h rels a)

  no_left : (rels : List Relation) → AllByRecursion IsBare rels → distributions (is_left_in_block rels) rels ≡ []
  no_left rels a = no_distributions (is_left_in_block rels) (λ r e. left_false (is_distributed r) (not (is_right r) || has_distributed_left rels r.start r.outer) (bare_is r e)) rels a

  no_plain : (rels : List Relation) → AllByRecursion IsBare rels → distributions is_plain rels ≡ []
  no_plain rels a = no_distributions is_plain (λ r e. left_false (is_distributed r) (not (is_right r)) (bare_is r e)) rels a

  mutual
    from_bare : (sets : ℕ → ValueSet) (f : FromTree) (start : ℕ) (outer : Option OuterJoin) → occurrences_from c sets f start ≡ [] → AllByRecursion IsBare (relations c f start outer)
    from_bare sets (Table t n) start outer h = cc
    from_bare sets (Sub' p (more_of-Query q end_of-Query)) start outer h = (ap (distribution_by start) (query_bare q (given_to sets start (pushable c q)) h), tt)
    from_bare sets (Result i n) start outer h = (refl, tt)
    from_bare sets (Cross' p (more_of-FromTree a end_of-FromTree) q (more_of-FromTree b end_of-FromTree)) start outer h =
        all_append (relations c a start None) (relations c b (start + columns_in a) None)
        (from_bare sets a start None (none_before (occurrences_from c sets a start) (occurrences_from c sets b (start + columns_in a)) h))
        (from_bare sets b (start + columns_in a) None (none_behind (occurrences_from c sets a start) (occurrences_from c sets b (start + columns_in a)) h))
    from_bare sets (Inner' p (more_of-FromTree a end_of-FromTree) q (more_of-FromTree b end_of-FromTree) on) start outer h =
        all_append (relations c a start None) (relations c b (start + columns_in a) None)
        (from_bare sets a start None (none_before (occurrences_from c sets a start) (occurrences_from c sets b (start + columns_in a)) h))
        (from_bare sets b (start + columns_in a) None (none_behind (occurrences_from c sets a start) (occurrences_from c sets b (start + columns_in a)) h))
    from_bare sets (Left' p (more_of-FromTree a end_of-FromTree) q (more_of-FromTree b end_of-FromTree) on) start outer h =
        let sb : ℕ → ValueSet = right_sets sets (sets_in c sets a start) (distribution_in c b (start + columns_in a)) start (start + columns_in a) on in
        let o : Option OuterJoin = Some (record { left = start; equalities = equalities (conjuncts on) }) in
        all_append (relations c a start None) (relations c b (start + columns_in a) o)
        (from_bare sets a start None (none_before (occurrences_from c sets a start) (occurrences_from c sb b (start + columns_in a)) h))
        (from_bare sb b (start + columns_in a) o (none_behind (occurrences_from c sets a start) (occurrences_from c sb b (start + columns_in a)) h))

    query_bare : (q : Query) (outer : List (ℕ × List Value)) → occurrences_in c q outer ≡ [] → pushable c q ≡ None
    query_bare (Query' cs ctes ss subs from filter_ grouped keys aggs having items shown distinct order limit offset names) outer h =
        ap (λ ds. pushable_over (first_of_class (equalities (conjuncts_of filter_ from))) (relations c from 0 None) ds (distributions is_plain (relations c from 0 None)) grouped keys (take shown items) limit offset)
        (no_left (relations c from 0 None) (from_bare (value_set outer (conjuncts_of filter_ from)) from 0 None h))

  relations_bare : (q : Query) → occurrences_in c q [] ≡ [] → AllByRecursion IsBare (relations_of c q)
  relations_bare (Query' cs ctes ss subs from filter_ grouped keys aggs having items shown distinct order limit offset names) h = from_bare (value_set [] (conjuncts_of filter_ from)) from 0 None h

  bare_several : (q : Query) → occurrences_in c q [] ≡ [] → has_several_components c q ≡ false
  bare_several q h = ap (λ ds. not (are_one_component (first_of_class (equalities_of q)) ds)) (no_plain (relations_of c q) (relations_bare q h))

  none_loose : (first : ℕ → ℕ) (all rels : List Relation) → AllByRecursion IsBare rels → list_any (is_loose first all) rels ≡ false
  none_loose first all [] a = refl
  none_loose first all (r ∷ rels) a =
      ap (λ (b : Bool). b || list_any (is_loose first all) rels)
      (left_false (is_left_in_block all r) _ (left_false (is_distributed r) (not (is_right r) || has_distributed_left all r.start r.outer) (bare_is r a.0)))
      ∙ none_loose first all rels a.1

  pub bare_needs : (repartition : Bool) (q : Query) → occurrences_in c q [] ≡ [] → needs_repartition repartition c q ≡ false
  bare_needs repartition q h = right_false (not (is_taken_whole c q)) _ (left_false (has_several_components c q) (are_connected c q && not repartition) (bare_several q h))

  pub bare_lacks : (q : Query) → occurrences_in c q [] ≡ [] → lacks_equality c q ≡ false
  bare_lacks q h = right_false (not (is_taken_whole c q)) _ (left_false (has_several_components c q) (not (are_connected c q)) (bare_several q h))

  pub bare_loose : (q : Query) → occurrences_in c q [] ≡ [] → has_loose_join c q ≡ false
  bare_loose q h = right_false (not (is_taken_whole c q)) _ (none_loose (first_of_class (equalities_of q)) (relations_of c q) (relations_of c q) (relations_bare q h))

  -- what the router would take is taken whole, or reads no table
  pub whole_or_bare : (q : Query) (os : List Occurrence) → occurrences_in c q [] ≡ os → IsRouted os → (is_taken_whole c q ≡ true) ⊎ (occurrences_in c q [] ≡ [])
  whole_or_bare q [] e h = inr e
  whole_or_bare q (o ∷ os) e h =
      let routed : fits_router c q ≡ true = ap (are_routed c) e ∙ both_true (are_of_one_colocation c (distributed_of c (o ∷ os))) (nat_lt (length (groups_of_all c (distributed_of c (o ∷ os)))) 2) h.0 h.1 in
      inl (ap (λ (b : Bool). fits_fast_path c q || b) routed ∙ or_true (fits_fast_path c q))

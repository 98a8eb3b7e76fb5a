-- Where reference tables have groups of their own, a block's tasks cover all that its query touches.
use Rattle.std.proofs.Common.{◌≡◌, ℕ, List, [], ◌∷◌, filter, Bool, true, false, ◌||◌, nat_eq, cond, inl, inr, refl, sym, subst, ◌∙◌, arith}
use Rattle.std.specs.List.{flat_map}
use Rattle.std.proofs.lemmas.List.Folds.{list_any-append}
use Rattle.cq_value.proofs.Truths.{or_either, or_left, or_right, same_number}
use Rattle.cq_catalog.specs.Contents.{Contents}
use Rattle.cq_catalog.specs.Placement.{place_at, colocation_at, IsDistributed, HasShard}
use Rattle.cq_catalog.specs.declared.info.Place.{Place}
use Rattle.cq_catalog.specs.declared.info.Place.TheVariants.{Local, Distributed, Reference}
use Rattle.cq_planning.specs.Occurrences.{Occurrence, occurrences_in}
use Rattle.cq_planning.specs.Routing.{distributed_of, is_distributed_place}
use Rattle.cq_planning.specs.Touched.{among, groups_of, groups_at, numbers}
use Rattle.cq_planning_laws.proofs.GroupLists.{in_order_has, in_order_only, numbers_only}
use Rattle.cq_block_plans.specs.Laws.{AreGroupsApart, ReachesCover}

among_within : (p : ℕ → Bool) (xs : List ℕ) (g : ℕ) → among g (filter p xs) ≡ true → among g xs ≡ true
among_within p [] g h = cc
among_within p (x ∷ xs) g h = by_case (p x) (among_within p xs g) h
  where
    by_case : (b : Bool) → (among g (filter p xs) ≡ true → among g xs ≡ true) → among g (cond b (x ∷ filter p xs) (filter p xs)) ≡ true → (nat_eq g x || among g xs) ≡ true
    by_case true more h = elim (or_either (nat_eq g x) (among g (filter p xs)) h) [ inl y ↦ or_left (nat_eq g x) (among g xs) y | inr n ↦ or_right (nat_eq g x) (among g xs) (more n) ]
    by_case false more h = or_right (nat_eq g x) (among g xs) (more h)

module _ (c : Contents) (apart : AreGroupsApart c) (g table : ℕ) (distributed : IsDistributed (place_at c table)) (shard : HasShard (colocation_at c table) (place_at c table) g) where
  not_here : (o : Occurrence) (p : Place) → place_at c o.table ≡ p → is_distributed_place p ≡ false → among g (groups_at c o.table p o.values) ≡ true → ⊥
  not_here o Local e d h = cc
  not_here o (Distributed at colocation first_shard) e d h = cc
  not_here o (Reference group id) e d h = elim (or_either (nat_eq g group) false h) [
    | inl y ↦ apart o.table table group id e distributed (subst (HasShard (colocation_at c table) (place_at c table)) (same_number g group y) shard)
    | inr n ↦ cc
  ]

  of_distributed : (os : List Occurrence) → among g (flat_map (groups_of c) os) ≡ true → among g (flat_map (groups_of c) (distributed_of c os)) ≡ true
  of_distributed [] h = cc
  of_distributed (o ∷ os) h =
      by_case (is_distributed_place (place_at c o.table)) refl (of_distributed os) (sym (list_any-append (nat_eq g) (groups_of c o) (flat_map (groups_of c) os)) ∙ h)
    where
      by_case : (b : Bool) → is_distributed_place (place_at c o.table) ≡ b → (among g (flat_map (groups_of c) os) ≡ true → among g (flat_map (groups_of c) (distributed_of c os)) ≡ true) →
          (among g (groups_of c o) || among g (flat_map (groups_of c) os)) ≡ true → among g (flat_map (groups_of c) (cond b (o ∷ distributed_of c os) (distributed_of c os))) ≡ true
      by_case true d more h = list_any-append (nat_eq g) (groups_of c o) (flat_map (groups_of c) (distributed_of c os)) ∙ elim (or_either (among g (groups_of c o)) (among g (flat_map (groups_of c) os)) h) [
        | inl y ↦ or_left (among g (groups_of c o)) (among g (flat_map (groups_of c) (distributed_of c os))) y
        | inr n ↦ or_right (among g (groups_of c o)) (among g (flat_map (groups_of c) (distributed_of c os))) (more n)
      ]
      by_case false d more h = elim (or_either (among g (groups_of c o)) (among g (flat_map (groups_of c) os)) h) [
        | inl y ↦ absurd (not_here o (place_at c o.table) refl d y)
        | inr n ↦ more n
      ]

pub reaches_cover : ReachesCover
reaches_cover c q groups apart reach g table distributed shard h =
    let os : List Occurrence = occurrences_in c q [] in
    let below = (numbers_only 0 c.groups g (among_within (λ k. among k (flat_map (groups_of c) os)) (numbers 0 c.groups) g h)).1 in
    reach g (in_order_has c (flat_map (groups_of c) (distributed_of c os)) g (omega (arith, below)) (of_distributed c apart g table distributed shard os (in_order_only c (flat_map (groups_of c) os) g h)))

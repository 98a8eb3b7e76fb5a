-- A stable sort has one answer.
use Rattle.std.proofs.Common.{◌≡◌, suc, Bool, true, false, cond, List, [], ◌∷◌, refl, sym, ap, ◌∙◌, subst, arith, add-one}
use Rattle.std.specs.Prelude.{filter, ⊤, not, ◌&&◌}
use Rattle.std.specs.Cmp.{IsStrictWeakOrder}
use Rattle.std.specs.List.{AllByRecursion}
use Rattle.std.specs.List.Sorted.{IsSortedBy, IsStableBy, ties}
use Rattle.std.proofs.lemmas.List.Sorted.{sorted_far}
use Rattle.std.proofs.lemmas.List.Elements.{recursion_from_All}
use native.Mathlib.Numerals.{unary_clauses}
use Rattle.cq_meaning.specs.Sorting.{placed, sorted_by}

all_map : {X : Type 0} (P Q : X → Type 0) (f : (x : X) → P x → Q x) (xs : List X) → AllByRecursion P xs → AllByRecursion Q xs
all_map P Q f [] h = tt
all_map P Q f (x ∷ xs) h = (f x h.0, all_map P Q f xs h.1)

-- what a filter begins with has what all elements have
begins : {X : Type 0} (P : X → Type 0) (p : X → Bool) (ws : List X) (x : X) (k : List X) → AllByRecursion P ws → filter p ws ≡ x ∷ k → P x
begins P p [] x k h e = cc
begins P p (w ∷ ws) x k h e =
    elim (p w) as (λ b. cond b (w ∷ filter p ws) (filter p ws) ≡ x ∷ k → P x) [
      | true ↦ (λ d. let same : w ≡ x = cc in subst P same h.0)
      | false ↦ (λ d. begins P p ws x k h.1 d)
    ] e

both_cond : {X : Type 0} (b : Bool) (y : X) (us vs : List X) → cond b (y ∷ us) us ≡ cond b (y ∷ vs) vs → us ≡ vs
both_cond true y us vs e = cc
both_cond false y us vs e = e

both_not : (a b : Bool) → (not a && not b) ≡ true → (a ≡ false) × (b ≡ false)
both_not true b e = cc
both_not false true e = cc
both_not false false e = (refl, refl)

-- two that are kept or dropped, in either order, where not both are kept
exchanged : {X : Type 0} (a b : Bool) (x y : X) (us : List X) → (a ≡ true → b ≡ true → ⊥) → cond b (y ∷ cond a (x ∷ us) us) (cond a (x ∷ us) us) ≡ cond a (x ∷ cond b (y ∷ us) us) (cond b (y ∷ us) us)
exchanged true true x y us h = absurd (h refl refl)
exchanged true false x y us h = refl
exchanged false true x y us h = refl
exchanged false false x y us h = refl

true_false : (b : Bool) → b ≡ true → b ≡ false → ⊥
true_false b p q = cc

module _ {X : Type 0} (lt : X → X → Bool) (o : IsStrictWeakOrder lt) where
  -- no element of the rest is below the first, and so on
  abbrev pub Rises : List X → Type 0
  Rises [] = ⊤
  Rises (x ∷ xs) = AllByRecursion (λ y. lt y x ≡ false) xs × Rises xs

  itself : (x : X) → lt x x ≡ false
  itself x = elim (lt x x) as (λ b. lt x x ≡ b → lt x x ≡ false) [ true ↦ (λ e. o.one_way x x e) | false ↦ (λ e. e) ] refl

  ties_itself : (x : X) → ties lt x x ≡ true
  ties_itself x = rw (itself x)

  first_kept : (x : X) (xs : List X) → filter (ties lt x) (x ∷ xs) ≡ x ∷ filter (ties lt x) xs
  first_kept x xs = rw (ties_itself x)

  kept_tied : (x y : X) (xs : List X) → lt x y ≡ false → lt y x ≡ false → filter (ties lt x) (y ∷ xs) ≡ y ∷ filter (ties lt x) xs
  kept_tied x y xs p q = rw (p, q)

  pub one_answer : (ys zs : List X) → Rises ys → Rises zs → ((x : X) → filter (ties lt x) ys ≡ filter (ties lt x) zs) → ys ≡ zs
  one_answer [] [] p q h = refl
  one_answer [] (z ∷ zs) p q h = let e : [] ≡ z ∷ filter (ties lt z) zs = h z ∙ first_kept z zs in cc
  one_answer (y ∷ ys) [] p q h = let e : y ∷ filter (ties lt y) ys ≡ [] = sym (first_kept y ys) ∙ h y in cc
  one_answer (y ∷ ys) (z ∷ zs) p q h =
      let low : lt y z ≡ false = begins (λ w. lt w z ≡ false) (ties lt y) (z ∷ zs) y (filter (ties lt y) ys) (itself z, q.0) (sym (h y) ∙ first_kept y ys) in
      let high : lt z y ≡ false = begins (λ w. lt w y ≡ false) (ties lt z) (y ∷ ys) z (filter (ties lt z) zs) (itself y, p.0) (h z ∙ first_kept z zs) in
      let heads : y ∷ filter (ties lt y) ys ≡ z ∷ filter (ties lt y) zs = sym (first_kept y ys) ∙ h y ∙ kept_tied y z zs low high in
      let same : y ≡ z = cc in
      let tails : (x : X) → filter (ties lt x) ys ≡ filter (ties lt x) zs =
      λ x. both_cond (ties lt x y) y (filter (ties lt x) ys) (filter (ties lt x) zs) (h x ∙ subst (λ w. cond (ties lt x z) (z ∷ filter (ties lt x) zs) (filter (ties lt x) zs) ≡ cond (ties lt x w) (w ∷ filter (ties lt x) zs) (filter (ties lt x) zs)) (sym same) refl) in
      let rest : ys ≡ zs = one_answer ys zs p.1 q.1 tails in
      cc

  -- a list that a sort gives rises
  pub rises : (xs : List X) → IsSortedBy lt xs → Rises xs
  rises [] h = tt
  rises (x ∷ xs) h = (
    recursion_from_All (λ y. lt y x ≡ false) xs (λ k d below. sorted_far lt o (x ∷ xs) h 0 (suc k) d (omega arith) (omega arith)),
    rises xs (λ k d low below. rw add-one (simp unary_clauses at (h (suc k) d (omega arith) (omega arith)))),
  )

  placed_all : (P : X → Type 0) (x : X) (ys : List X) → P x → AllByRecursion P ys → AllByRecursion P (placed lt x ys)
  placed_all P x [] p h = (p, tt)
  placed_all P x (y ∷ ys) p h =
      elim (lt y x) as (λ b. AllByRecursion P (cond b (y ∷ placed lt x ys) (x ∷ (y ∷ ys)))) [ true ↦ (h.0, placed_all P x ys p h.1) | false ↦ (p, h) ]

  placed_rises : (x : X) (ys : List X) → Rises ys → Rises (placed lt x ys)
  placed_rises x [] h = (tt, tt)
  placed_rises x (y ∷ ys) h =
      elim (lt y x) as (λ b. lt y x ≡ b → Rises (cond b (y ∷ placed lt x ys) (x ∷ (y ∷ ys)))) [
        | true ↦ (λ e. (placed_all (λ w. lt w y ≡ false) x ys (o.one_way y x e) h.0, placed_rises x ys h.1))
        | false ↦ (λ e. ((e, all_map (λ w. lt w y ≡ false) (λ w. lt w x ≡ false) (λ w below. o.chain w y x below e) ys h.0), h))
      ] refl

  pub sorted_rises : (xs : List X) → Rises (sorted_by lt xs)
  sorted_rises [] = tt
  sorted_rises (x ∷ xs) = placed_rises x (sorted_by lt xs) (sorted_rises xs)

  -- two that tie with one tie with each other
  pub tied : (t x y : X) → ties lt t x ≡ true → ties lt t y ≡ true → lt y x ≡ false
  tied t x y p q = o.chain y t x (both_not (lt t y) (lt y t) q).1 (both_not (lt t x) (lt x t) p).0

  pub placed_stable : (t x : X) (ys : List X) → filter (ties lt t) (placed lt x ys) ≡ filter (ties lt t) (x ∷ ys)
  placed_stable t x [] = refl
  placed_stable t x (y ∷ ys) =
      elim (lt y x) as (λ b. lt y x ≡ b → filter (ties lt t) (cond b (y ∷ placed lt x ys) (x ∷ (y ∷ ys))) ≡ filter (ties lt t) (x ∷ (y ∷ ys))) [
        | true ↦ (λ e. ap (λ us. cond (ties lt t y) (y ∷ us) us) (placed_stable t x ys)
            ∙ exchanged (ties lt t x) (ties lt t y) x y (filter (ties lt t) ys) (λ p q. true_false (lt y x) e (tied t x y p q)))
        | false ↦ (λ e. refl)
      ] refl

  pub sorted_stable : (t : X) (xs : List X) → filter (ties lt t) (sorted_by lt xs) ≡ filter (ties lt t) xs
  sorted_stable t [] = refl
  sorted_stable t (x ∷ xs) = placed_stable t x (sorted_by lt xs) ∙ ap (λ ys. cond (ties lt t x) (x ∷ ys) ys) (sorted_stable t xs)

  pub sort_is : (xs ys : List X) → IsSortedBy lt ys → IsStableBy lt xs ys → ys ≡ sorted_by lt xs
  sort_is xs ys up same = one_answer ys (sorted_by lt xs) (rises ys up) (sorted_rises xs) (λ x. same x ∙ sym (sorted_stable x xs))

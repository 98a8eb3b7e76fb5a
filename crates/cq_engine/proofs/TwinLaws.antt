-- Of elements in order, two that are the same stand side by side.
use Rattle.std.proofs.Common.{◌≡◌, ℕ, ◌+◌, ◌≤◌, Bool, true, false, cond, ◌||◌, List, [], ◌∷◌, map, refl, sym, ap, ◌∙◌, subst, arith, Ordering, Less, Equal, Greater}
use Rattle.std.specs.Prelude.{count_by, zip, drop}
use Rattle.std.specs.List.{list_any, AllByRecursion}
use Rattle.std.specs.List.Sorted.{IsPermutation, IsSortedBy}
use Rattle.std.specs.Ordering.{is_lt, is_eq, eq_by_cmp, ordering_reverse}
use Rattle.std.specs.Cmp.{IsTotalOrder, IsEquivalence}
use Rattle.std.proofs.lemmas.List.Recursion.{is_count_by}
use Rattle.std.proofs.lemmas.List.Sorted.{ranks_by, sum_by-IsPermutation}
use Rattle.cq_value.proofs.Truths.{or_neither}
use Rattle.cq_meaning.proofs.StableSort.{Rises, rises}
use Rattle.cq_engine.specs.Keys.{has_twins}

-- whether an element is the same as the next
abbrev pub has_twin_neighbours : {X : Type 0} → (X → X → Bool) → List X → Bool
has_twin_neighbours same [] = false
has_twin_neighbours same (x ∷ []) = false
has_twin_neighbours same (x ∷ (y ∷ ys)) = same x y || has_twin_neighbours same (y ∷ ys)

pub neighbours_zip : {X : Type 0} (same : X → X → Bool) (xs : List X) → list_any (λ p. same p.0 p.1) (zip xs (drop 1 xs)) ≡ has_twin_neighbours same xs
neighbours_zip same [] = refl
neighbours_zip same (x ∷ []) = refl
neighbours_zip same (x ∷ (y ∷ ys)) = ap (λ b. same x y || b) (neighbours_zip same (y ∷ ys))

-- two tests that fail together are one
alike : (a b : Bool) → (a ≡ false → b ≡ false) → (b ≡ false → a ≡ false) → a ≡ b
alike true true p q = refl
alike true false p q = q refl
alike false true p q = sym (p refl)
alike false false p q = refl

count : {X : Type 0} → (X → Bool) → List X → ℕ
count p [] = 0
count p (x ∷ xs) = cond (p x) (1 + count p xs) (count p xs)

module _ {X : Type 0} (same : X → X → Bool) (laws : IsEquivalence same) where
  -- no more than one of the elements is the same as x
  abbrev IsOnce : List X → Type 0
  IsOnce xs = (x : X) → count (same x) xs ≤ 1

  none_counted : (p : X → Bool) (xs : List X) → list_any p xs ≡ false → count p xs ≡ 0
  unfolding count
  none_counted p [] e = refl
  none_counted p (x ∷ xs) e = let h = or_neither (p x) (list_any p xs) e in rw h.0 (none_counted p xs h.1)

  counted_none : (p : X → Bool) (xs : List X) → count p xs ≡ 0 → list_any p xs ≡ false
  unfolding count
  counted_none p [] e = refl
  counted_none p (x ∷ xs) e =
      elim (p x) as (λ b. cond b (1 + count p xs) (count p xs) ≡ 0 → (b || list_any p xs) ≡ false) [
        | true ↦ (λ e. absurd (omega (arith, e)))
        | false ↦ (λ e. counted_none p xs e)
      ] e

  one_count : (x y : X) (xs : List X) → same x y ≡ true → count (same x) xs ≡ count (same y) xs
  unfolding count
  one_count x y [] e = refl
  one_count x y (z ∷ xs) e = rw (laws.congr x y z e, one_count x y xs e)

  once : (xs : List X) → has_twins same xs ≡ false → IsOnce xs
  unfolding count
  once [] e = λ x. omega arith
  once (y ∷ ys) e = λ x.
      let h = or_neither (list_any (same y) ys) (has_twins same ys) e in
      elim (same x y) as (λ b. same x y ≡ b → cond b (1 + count (same x) ys) (count (same x) ys) ≤ 1) [
        | true ↦ (λ k. let none : count (same x) ys ≡ 0 = one_count x y ys k ∙ none_counted (same y) ys h.0 in omega (arith, none))
        | false ↦ (λ k. once ys h.1 x)
      ] refl

  apart : (xs : List X) → IsOnce xs → has_twins same xs ≡ false
  unfolding count
  apart [] h = refl
  apart (y ∷ ys) h =
      let first : cond (same y y) (1 + count (same y) ys) (count (same y) ys) ≤ 1 = h y in
      let more : 1 + count (same y) ys ≤ 1 = subst (λ b. cond b (1 + count (same y) ys) (count (same y) ys) ≤ 1) (laws.refl y) first in
      let none : count (same y) ys ≡ 0 = omega (arith, more) in
      let rest : IsOnce ys = λ x. elim (same x y) as (λ b. cond b (1 + count (same x) ys) (count (same x) ys) ≤ 1 → count (same x) ys ≤ 1) [
        | true ↦ (λ k. omega (arith, k))
        | false ↦ (λ k. k)
      ] (h x) in
      rw (counted_none (same y) ys none) (apart ys rest)

  counted : (p : X → Bool) (xs : List X) → count p xs ≡ count_by p xs
  unfolding count
  counted p xs = is_count_by (count p) p refl (λ x xs. refl) xs

  moved_count : (p : X → Bool) (xs ys : List X) → IsPermutation xs ys → count p ys ≡ count p xs
  moved_count p xs ys h = counted p ys ∙ sum_by-IsPermutation (λ x. cond (p x) 1 0) xs ys h ∙ sym (counted p xs)

  -- in any order of the elements
  pub twins_moved : (xs ys : List X) → IsPermutation xs ys → has_twins same ys ≡ has_twins same xs
  twins_moved xs ys h = alike (has_twins same ys) (has_twins same xs)
      (λ e. apart xs (λ x. subst (λ n. n ≤ 1) (moved_count (same x) xs ys h) (once ys e x)))
      (λ e. apart ys (λ x. subst (λ n. n ≤ 1) (sym (moved_count (same x) xs ys h)) (once xs e x)))

any-map : {X : Type 0} {Y : Type 0} (p : Y → Bool) (f : X → Y) (xs : List X) → list_any p (map f xs) ≡ list_any (λ x. p (f x)) xs
any-map p f [] = refl
any-map p f (x ∷ xs) = ap (λ b. p (f x) || b) (any-map p f xs)

pub twins-map : {X Y : Type 0} (same : Y → Y → Bool) (f : X → Y) (xs : List X) → has_twins same (map f xs) ≡ has_twins (λ x y. same (f x) (f y)) xs
twins-map same f [] = refl
twins-map same f (x ∷ xs) = ap (λ b. list_any (same (f x)) (map f xs) || b) (twins-map same f xs) ∙ ap (λ b. b || has_twins (λ x y. same (f x) (f y)) xs) (any-map (same (f x)) f xs)

module _ {X : Type 0} (R : X → X → Ordering) (o : IsTotalOrder R) where
  lt : X → X → Bool
  lt x y = is_lt (R x y)

  -- what is not above y is not the same as an x below y
  above : (x y z : X) → R x y ≡ Less → is_lt (R z y) ≡ false → is_eq (R x z) ≡ false
  above x y z below up = elim (R x z) as (λ r. R x z ≡ r → is_eq r ≡ false) [
    | Less ↦ (λ e. refl)
    | Equal ↦ (λ e. absurd (let same : R x y ≡ R z y = o.congr x z y e in let low : R z y ≡ Less = sym same ∙ below in let no : true ≡ false = subst (λ r. is_lt r ≡ false) low up in cc))
    | Greater ↦ (λ e. refl)
  ] refl

  none_above : (x y : X) (zs : List X) → R x y ≡ Less → AllByRecursion (λ z. is_lt (R z y) ≡ false) zs → list_any (λ z. is_eq (R x z)) zs ≡ false
  none_above x y [] below up = refl
  none_above x y (z ∷ zs) below up = rw (above x y z below up.0) (none_above x y zs below up.1)

  at_first : (x y : X) (zs : List X) (rest : Bool) → is_lt (R y x) ≡ false → AllByRecursion (λ z. is_lt (R z y) ≡ false) zs →
      ((is_eq (R x y) || list_any (λ z. is_eq (R x z)) zs) || rest) ≡ (is_eq (R x y) || rest)
  at_first x y zs rest low up =
      elim (R x y) as (λ r. R x y ≡ r → ((is_eq r || list_any (λ z. is_eq (R x z)) zs) || rest) ≡ (is_eq r || rest)) [
        | Less ↦ (λ e. rw (none_above x y zs e up) refl)
        | Equal ↦ (λ e. refl)
        | Greater ↦ (λ e. absurd (higher x y e low))
      ] refl
    where
      higher : (x y : X) → R x y ≡ Greater → is_lt (R y x) ≡ false → ⊥
      higher x y e low = elim (R y x) as (λ r. R x y ≡ ordering_reverse r → is_lt r ≡ false → ⊥) [
        | Less ↦ (λ turned no. cc)
        | Equal ↦ (λ turned no. let apart : Greater ≡ Equal = sym e ∙ turned in cc)
        | Greater ↦ (λ turned no. let apart : Greater ≡ Less = sym e ∙ turned in cc)
      ] (o.antisymm x y) low

  side_by_side : (xs : List X) → Rises (λ x y. is_lt (R x y)) (ranks_by o (λ x. x)) xs → has_twins (eq_by_cmp R) xs ≡ has_twin_neighbours (eq_by_cmp R) xs
  side_by_side [] h = refl
  side_by_side (x ∷ []) h = refl
  side_by_side (x ∷ (y ∷ ys)) h =
      at_first x y ys (has_twins (eq_by_cmp R) (y ∷ ys)) h.0.0 h.1.0 ∙ ap (λ b. is_eq (R x y) || b) (side_by_side (y ∷ ys) h.1)

  -- in order, two that are the same stand side by side
  pub twins_are_neighbours : (xs : List X) → IsSortedBy (λ x y. is_lt (R x y)) xs → has_twin_neighbours (eq_by_cmp R) xs ≡ has_twins (eq_by_cmp R) xs
  twins_are_neighbours xs up = sym (side_by_side xs (rises (λ x y. is_lt (R x y)) (ranks_by o (λ x. x)) xs up))

-- Lists with the same elements in another order, by rules.
use Rattle.std.proofs.Common.{◌≡◌, ℕ, Bool, true, false, cond, List, [], ◌∷◌, ◌++◌, map, refl, sym, ap, subst, ◌∙◌, append_assoc, append-nil}
use Rattle.std.specs.Prelude.{filter, replicate, fold}
use Rattle.std.specs.Cmp.{IsStrictWeakOrder}
use Rattle.cq_value.specs.declared.value.Value.TheVariants.{Null}
use Rattle.std.specs.List.Sorted.{IsPermutation}
use Rattle.std.specs.List.Sorted.{ties}
use Rattle.cq_meaning.proofs.StableSort.{one_answer, sorted_rises, sorted_stable, tied}
use Rattle.std.proofs.lemmas.List.Sorted.{IsPermutation-refl, IsPermutation-cons, IsPermutation-middle, IsPermutation-trans}
use Rattle.cq_meaning.specs.Values.{Row}
use Rattle.cq_meaning.specs.Joins.{product, left_join, or_else}
use Rattle.cq_meaning.specs.Sorting.{sorted_by, placed}

pub data Reordered {X : Type 0} : List X → List X → Type 0 where
  none : Reordered [] []
  kept : {x : X} {xs ys : List X} → Reordered xs ys → Reordered (x ∷ xs) (x ∷ ys)
  turned : {x y : X} {xs : List X} → Reordered (x ∷ (y ∷ xs)) (y ∷ (x ∷ xs))
  then : {xs ys zs : List X} → Reordered xs ys → Reordered ys zs → Reordered xs zs

module _ {X : Type 0} where
  pub same : (xs : List X) → Reordered xs xs
  same [] = none
  same (x ∷ xs) = kept (same xs)

  pub permuted : {xs ys : List X} → Reordered xs ys → IsPermutation xs ys
  permuted none = IsPermutation-refl []
  permuted (kept {x} {xs} {ys} r) = IsPermutation-cons x xs ys (permuted r)
  permuted (turned {x} {y} {xs}) = IsPermutation-middle (x ∷ []) y xs
  permuted (then {xs} {ys} {zs} r s) = IsPermutation-trans xs ys zs (permuted r) (permuted s)

  pub filtered : (p : X → Bool) {xs ys : List X} → Reordered xs ys → Reordered (filter p xs) (filter p ys)
  filtered p none = none
  filtered p (kept {x} {xs} {ys} r) = elim (p x) as (λ b. Reordered (cond b (x ∷ filter p xs) (filter p xs)) (cond b (x ∷ filter p ys) (filter p ys))) [ true ↦ kept (filtered p r) | false ↦ filtered p r ]
  filtered p (turned {x} {y} {xs}) = both (p x) (p y) x y (filter p xs)
    where
      both : (a b : Bool) (x y : X) (us : List X) → Reordered (cond a (x ∷ cond b (y ∷ us) us) (cond b (y ∷ us) us)) (cond b (y ∷ cond a (x ∷ us) us) (cond a (x ∷ us) us))
      both true true x y us = turned
      both true false x y us = same (x ∷ us)
      both false true x y us = same (y ∷ us)
      both false false x y us = same us
  filtered p (then r s) = then (filtered p r) (filtered p s)

  pub behind : (zs : List X) {xs ys : List X} → Reordered xs ys → Reordered (zs ++ xs) (zs ++ ys)
  behind [] r = r
  behind (z ∷ zs) r = kept (behind zs r)

  pub before : (zs : List X) {xs ys : List X} → Reordered xs ys → Reordered (xs ++ zs) (ys ++ zs)
  before zs none = same zs
  before zs (kept r) = kept (before zs r)
  before zs turned = turned
  before zs (then r s) = then (before zs r) (before zs s)

  moved : (x : X) (xs ys : List X) → Reordered (x ∷ (xs ++ ys)) (xs ++ x ∷ ys)
  moved x [] ys = same (x ∷ ys)
  moved x (z ∷ xs) ys = then turned (kept (moved x xs ys))

  pub swapped : (xs ys : List X) → Reordered (xs ++ ys) (ys ++ xs)
  swapped [] ys = subst (λ us. Reordered ys us) (sym (append-nil ys)) (same ys)
  swapped (x ∷ xs) ys = then (kept (swapped xs ys)) (moved x ys xs)

pub mapped : {X Y : Type 0} (f : X → Y) {xs ys : List X} → Reordered xs ys → Reordered (map f xs) (map f ys)
mapped f none = none
mapped f (kept r) = kept (mapped f r)
mapped f turned = turned
mapped f (then r s) = then (mapped f r) (mapped f s)

pub product_left : (rs : List Row) {ls ms : List Row} → Reordered ls ms → Reordered (product ls rs) (product ms rs)
product_left rs none = none
product_left rs (kept {x = l} r) = behind (map (λ x. l ++ x) rs) (product_left rs r)
product_left rs (turned {x = l} {y = m} {xs = ls}) =
    let a : List Row = map (λ x. l ++ x) rs in
    let b : List Row = map (λ x. m ++ x) rs in
    subst (λ us. Reordered us (b ++ (a ++ product ls rs))) (append_assoc a b (product ls rs))
    (subst (λ us. Reordered ((a ++ b) ++ product ls rs) us) (append_assoc b a (product ls rs)) (before (product ls rs) (swapped a b)))
product_left rs (then r s) = then (product_left rs r) (product_left rs s)

pub product_right : (ls : List Row) {rs ss : List Row} → Reordered rs ss → Reordered (product ls rs) (product ls ss)
product_right [] r = none
product_right (l ∷ ls) {rs} {ss} r = then (before (product ls rs) (mapped (λ x. l ++ x) r)) (behind (map (λ x. l ++ x) ss) (product_right ls r))

pub left_left : (on : Row → Bool) (width : ℕ) (rs : List Row) {ls ms : List Row} → Reordered ls ms → Reordered (left_join on width ls rs) (left_join on width ms rs)
left_left on width rs none = none
left_left on width rs (kept {x = l} r) = behind (or_else (l ++ replicate width Null) (filter on (map (λ r. l ++ r) rs))) (left_left on width rs r)
left_left on width rs (turned {x = l} {y = m} {xs = ls}) =
    let a : List Row = or_else (l ++ replicate width Null) (filter on (map (λ r. l ++ r) rs)) in
    let b : List Row = or_else (m ++ replicate width Null) (filter on (map (λ r. m ++ r) rs)) in
    let rest : List Row = left_join on width ls rs in
    subst (λ us. Reordered us (b ++ (a ++ rest))) (append_assoc a b rest)
    (subst (λ us. Reordered ((a ++ b) ++ rest) us) (append_assoc b a rest) (before rest (swapped a b)))
left_left on width rs (then r s) = then (left_left on width rs r) (left_left on width rs s)

both_kept : {X : Type 0} (a b : Bool) (x y : X) (us : List X) → (a ≡ true → b ≡ true → x ≡ y) →
    cond a (x ∷ cond b (y ∷ us) us) (cond b (y ∷ us) us) ≡ cond b (y ∷ cond a (x ∷ us) us) (cond a (x ∷ us) us)
both_kept true true x y us h = let e : x ≡ y = h refl refl in cc
both_kept true false x y us h = refl
both_kept false true x y us h = refl
both_kept false false x y us h = refl

-- a sorted list is one list, where the order ties no two elements
pub sorted_once : {X : Type 0} (lt : X → X → Bool) (o : IsStrictWeakOrder lt) → ((x y : X) → lt x y ≡ false → lt y x ≡ false → x ≡ y) →
    {xs ys : List X} → Reordered xs ys → sorted_by lt xs ≡ sorted_by lt ys
sorted_once lt o differs none = refl
sorted_once lt o differs (kept {x = x} r) = ap (λ us. placed lt x us) (sorted_once lt o differs r)
sorted_once lt o differs (turned {x = x} {y = y} {xs = xs}) =
    one_answer lt o (sorted_by lt (x ∷ (y ∷ xs))) (sorted_by lt (y ∷ (x ∷ xs))) (sorted_rises lt o (x ∷ (y ∷ xs))) (sorted_rises lt o (y ∷ (x ∷ xs)))
    (λ t. sorted_stable lt o t (x ∷ (y ∷ xs))
    ∙ (both_kept (ties lt t x) (ties lt t y) x y (filter (ties lt t) xs) (λ p q. differs x y (tied lt o t y x q p) (tied lt o t x y p q))
    ∙ sym (sorted_stable lt o t (y ∷ (x ∷ xs)))))
sorted_once lt o differs (then r s) = sorted_once lt o differs r ∙ sorted_once lt o differs s

-- what steps that may change places make of a list is the same for any order of it
pub folded : {X Y : Type 0} (f : Y → X → Y) → ((a : Y) (x y : X) → f (f a x) y ≡ f (f a y) x) → {xs ys : List X} → Reordered xs ys → (a : Y) → fold f a xs ≡ fold f a ys
folded f free none a = refl
folded f free (kept {x = x} r) a = folded f free r (f a x)
folded f free (turned {x = x} {y = y} {xs = xs}) a = ap (λ b. fold f b xs) (free a x y)
folded f free (then r s) a = folded f free r a ∙ folded f free s a

-- Lists with some items of others, in their order, and how those of several numbers are put together.
use Rattle.std.proofs.Common.{◌≡◌, ◌≢◌, ◌⊎◌, inl, inr, ℕ, false, List, [], ◌∷◌, ◌++◌, map, refl, sym, ◌∙◌, ap, subst, append_assoc, ne_eqb}
use Rattle.std.specs.Prelude.{nat_eq, not}
use Rattle.std.specs.List.{AllByRecursion, flat_map}
use Rattle.std.specs.List.Sorted.{IsPermutation}
use Rattle.std.proofs.lemmas.Bool.{eqb-true}
use Rattle.std.proofs.lemmas.List.Sorted.{IsPermutation-refl, IsPermutation-trans, IsPermutation-append_right, IsPermutation-append_comm}
use Rattle.cq_value.proofs.Truths.{two_ways}
use Rattle.cq_cell.specs.Lists.{NotIn, Distinct, keep, own}

module _ {A : Type 0} where
  -- some items of a list, in their order
  abbrev pub IsPart : List A → List A → Type 0
  IsPart xs [] = xs ≡ []
  IsPart xs (y ∷ ys) = IsPart xs ys ⊎ ((more : List A) × (xs ≡ y ∷ more) × IsPart more ys)

  pub part_none : (ys : List A) → IsPart [] ys
  part_none [] = refl
  part_none (y ∷ ys) = inl (part_none ys)

  pub part_all : (ys : List A) → IsPart ys ys
  part_all [] = refl
  part_all (y ∷ ys) = inr (ys, refl, part_all ys)

  pub part_more : (xs us ys vs : List A) → IsPart xs us → IsPart ys vs → IsPart (xs ++ ys) (us ++ vs)
  part_more xs [] ys vs p q = subst (λ v. IsPart (v ++ ys) vs) (sym p) q
  part_more xs (u ∷ us) ys vs (inl p) q = inl (part_more xs us ys vs p q)
  part_more xs (u ∷ us) ys vs (inr p) q = inr (p.0 ++ ys, ap (λ v. v ++ ys) p.1, part_more p.0 us ys vs p.2 q)

  -- of two lists there are some of each
  pub part_split : (xs us vs : List A) → IsPart xs (us ++ vs) → (a : List A) × (b : List A) × (xs ≡ a ++ b) × IsPart a us × IsPart b vs
  part_split xs [] vs p = ([], xs, refl, refl, p)
  part_split xs (u ∷ us) vs (inl p) = (let h = part_split xs us vs p in (h.0, h.1, h.2, inl h.3, h.4))
  part_split xs (u ∷ us) vs (inr p) = (let h = part_split p.0 us vs p.2 in (u ∷ h.0, h.1, p.1 ∙ ap (λ v. u ∷ v) h.2, inr (h.0, refl, h.3), h.4))

  pub part_of_none : (xs ys : List A) → IsPart xs ys → ys ≡ [] → xs ≡ []
  part_of_none xs [] p e = p
  part_of_none xs (y ∷ ys) p e = cc

-- ---- the notes of several numbers

module _ {N M : Type 0} (who : N → ℕ) (f : N → List M) where
  -- the notes of other numbers
  abbrev others : ℕ → List N → List N
  others n [] = []
  others n (x ∷ xs) = keep (not (nat_eq (who x) n)) x (others n xs)

  own_others : (n m : ℕ) (xs : List N) → m ≢ n → own who m (others n xs) ≡ own who m xs
  own_others n m [] apart = refl
  own_others n m (x ∷ xs) apart = elim (two_ways (nat_eq (who x) n)) [
    | inl y ↦
        let no : nat_eq (who x) m ≡ false = ne_eqb (who x) m (λ e. apart (sym e ∙ eqb-true (who x) n y)) in
        rw (y, no) (own_others n m xs apart)
    | inr z ↦ rw z (ap (keep (nat_eq (who x) m) x) (own_others n m xs apart))
  ]

  -- some items of a list that begins so, and others
  front : (us a b vs ws : List M) → IsPart a (us ++ vs) → ((c : List M) → IsPart c vs → (d : List M) × IsPart d ws × IsPermutation (c ++ b) d) → (d : List M) × IsPart d (us ++ ws) × IsPermutation (a ++ b) d
  front us a b vs ws p more =
      let h = part_split a us vs p in
      let k = more h.1 h.4 in
      let turned : IsPermutation (h.0 ++ (h.1 ++ b)) (h.0 ++ k.0) = IsPermutation-append_right h.0 (h.1 ++ b) k.0 k.2 in (
        h.0 ++ k.0,
        part_more h.0 us k.0 ws h.3 k.1,
        subst (λ v. IsPermutation v (h.0 ++ k.0)) (sym (ap (λ v. v ++ b) h.2 ∙ append_assoc h.0 h.1 b)) turned,
      )

  -- some items of a number's notes and some of the others' are some of all, in one order
  join : (n : ℕ) (xs : List N) (a b : List M) → IsPart a (flat_map f (own who n xs)) → IsPart b (flat_map f (others n xs)) → (c : List M) × IsPart c (flat_map f xs) × IsPermutation (a ++ b) c
  join n [] a b p q = ([], refl, rw (p, q) (IsPermutation-refl []))
  join n (x ∷ xs) a b p q = elim (two_ways (nat_eq (who x) n)) [
    | inl y ↦ front (f x) a b (flat_map f (own who n xs)) (flat_map f xs) (rw y at p) (λ c r. join n xs c b r (rw y at q))
    | inr z ↦
        let h = front (f x) b a (flat_map f (others n xs)) (flat_map f xs) (rw z at q) (λ c r. (let k = join n xs a c (rw z at p) r in (k.0, k.1, IsPermutation-trans (c ++ a) (a ++ c) k.0 (IsPermutation-append_comm c a) k.2))) in
        (h.0, h.1, IsPermutation-trans (a ++ b) (b ++ a) h.0 (IsPermutation-append_comm a b) h.2)
  ]

  module _ {S : Type 0} (number : S → ℕ) (g : S → List M) where
    abbrev AreParts : List N → List S → Type 0
    AreParts xs ss = AllByRecursion (λ s. IsPart (g s) (flat_map f (own who (number s) xs))) ss

    without : (n : ℕ) (xs : List N) (ss : List S) → NotIn n (map number ss) → AreParts xs ss → AreParts (others n xs) ss
    without n xs [] out all = tt
    without n xs (s ∷ ss) out all = (subst (λ v. IsPart (g s) (flat_map f v)) (sym (own_others n (number s) xs out.0)) all.0, without n xs ss out.1 all.1)

    -- so are some items of the notes of several numbers
    pub join_all : (ss : List S) (xs : List N) → Distinct (map number ss) → AreParts xs ss → (c : List M) × IsPart c (flat_map f xs) × IsPermutation (flat_map g ss) c
    join_all [] xs apart all = ([], part_none (flat_map f xs), IsPermutation-refl [])
    join_all (s ∷ ss) xs apart all =
        let rest = join_all ss (others (number s) xs) apart.1 (without (number s) xs ss apart.0 all.1) in
        let both = join (number s) xs (g s) rest.0 all.0 rest.1 in
        (both.0, both.1, IsPermutation-trans (g s ++ flat_map g ss) (g s ++ rest.0) both.0 (IsPermutation-append_right (g s) (flat_map g ss) rest.0 rest.2) both.2)

-- Facts about lists.
use Rattle.std.proofs.Common.{suc, zero, ◌≡◌, ◌<◌, ◌⊎◌, inl, inr, ℕ, Bool, true, false, List, [], ◌∷◌, ◌++◌, length, filter, refl, arith, Some, slice_get, eq-eqb}
use Rattle.std.specs.Prelude.{nat_eq}
use Rattle.std.specs.List.{AllByRecursion}
use Rattle.std.proofs.lemmas.Bool.Decides.{eqb_tells}
use Rattle.cq_value.proofs.Truths.{two_ways}
use Rattle.cq_planning.specs.Touched.{among}

-- ---- lists of groups

pub among_here : (g : ℕ) (gs : List ℕ) → among g (g ∷ gs) ≡ true
among_here g gs = rw (eq-eqb g g refl) refl

pub among_more : (g t : ℕ) (gs : List ℕ) → among g gs ≡ true → among g (t ∷ gs) ≡ true
among_more g t gs h = elim (two_ways (nat_eq g t)) [ inl y ↦ rw y refl | inr n ↦ rw n h ]

pub among_only : (g t : ℕ) → among g (t ∷ []) ≡ true → g ≡ t
among_only g t h = elim (eqb_tells g t) [ inl y ↦ y.1 | inr n ↦ (let bad : false ≡ true = rw n.0 at h in cc) ]

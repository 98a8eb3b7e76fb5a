-- Groups in ascending order.
use Rattle.std.proofs.Common.{◌≡◌, ◌⊎◌, inl, inr, ℕ, zero, suc, ◌+◌, ◌<◌, ◌≤◌, Bool, true, false, cond, List, [], ◌∷◌, filter, refl, sym, ◌∙◌, arith, nat_eq, eq-eqb}
use Rattle.cq_value.proofs.Truths.{two_ways, same_number}
use Rattle.cq_planning.specs.Touched.{numbers}

pub other_number : (a b : ℕ) → ((a ≡ b) → ⊥) → nat_eq a b ≡ false
other_number a b h = elim (two_ways (nat_eq a b)) [ inl y ↦ absurd (h (same_number a b y)) | inr n ↦ n ]

pub turned : (a b : ℕ) → nat_eq a b ≡ nat_eq b a
turned a b = elim (two_ways (nat_eq a b)) [
  | inl y ↦ y ∙ sym (eq-eqb b a (sym (same_number a b y)))
  | inr n ↦ elim (two_ways (nat_eq b a)) [ inl y ↦ eq-eqb a b (sym (same_number b a y)) ∙ sym y | inr m ↦ n ∙ sym m ]
]

-- tests that agree on these numbers
pub filter_same : (p q : ℕ → Bool) (s n : ℕ) → ((g : ℕ) → s ≤ g → g < s + n → p g ≡ q g) → filter p (numbers s n) ≡ filter q (numbers s n)
filter_same p q s zero h = refl
filter_same p q s (suc n) h =
    let first : p s ≡ q s = h s (omega arith) (omega arith) in
    let rest : filter p (numbers (s + 1) n) ≡ filter q (numbers (s + 1) n) = filter_same p q (s + 1) n (λ g a b. h g (omega arith) (omega arith)) in
    λ i. cond (first i) (s ∷ rest i) (rest i)

pub filter_none : (gs : List ℕ) → filter (λ (g : ℕ). false) gs ≡ []
filter_none [] = refl
filter_none (g ∷ gs) = filter_none gs

-- none of these numbers is one below them
filter_above : (s n g : ℕ) → g < s → filter (λ h. nat_eq h g) (numbers s n) ≡ []
filter_above s zero g h = refl
filter_above s (suc n) g h = rw (other_number s g (λ e. omega arith)) (filter_above (s + 1) n g (omega arith))

pub filter_one : (s n g : ℕ) → s ≤ g → g < s + n → filter (λ h. nat_eq h g) (numbers s n) ≡ g ∷ []
filter_one s zero g a b = absurd (omega arith)
filter_one s (suc n) g a b = elim (two_ways (nat_eq s g)) [
  | inl y ↦ (let e : s ≡ g = same_number s g y in rw y (λ i. e i ∷ filter_above (s + 1) n g (omega arith) i))
  | inr m ↦ (let d : s ≡ g → ⊥ = λ e. (let bad : true ≡ false = sym (eq-eqb s g e) ∙ m in cc) in rw m (filter_one (s + 1) n g (omega arith) (omega arith)))
]

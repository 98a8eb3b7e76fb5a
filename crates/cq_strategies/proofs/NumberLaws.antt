-- Numbers one after another, and lists of numbers.
use Rattle.std.proofs.Common.{◌≡◌, ◌⊎◌, inl, inr, ◌<◌, ◌≤◌, ℕ, suc, ◌+◌, ◌-◌, Bool, true, false, ◌||◌, List, [], ◌∷◌, ◌++◌, refl, sym, ap, ◌∙◌, arith, append_assoc, append-nil, nat_eq}
use Rattle.cq_value.proofs.Truths.{or_false, or_apart}
use Rattle.cq_planning.specs.Touched.{numbers, among}

-- ---- one after another

from_next : (k n : ℕ) → k < n → numbers k (n - k) ≡ k ∷ numbers (k + 1) (n - (k + 1))
from_next k n h = let e : n - k ≡ suc (n - (k + 1)) = omega arith in rw e refl

from_end : (k n : ℕ) → n ≤ k → numbers k (n - k) ≡ []
from_end k n h = let e : n - k ≡ 0 = omega arith in rw e refl

pub one_put : (k n : ℕ) (list more whole : List ℕ) → k < n → more ≡ list ++ k ∷ [] → list ++ numbers k (n - k) ≡ whole → more ++ numbers (k + 1) (n - (k + 1)) ≡ whole
one_put k n list more whole h is so =
    ap (λ (us : List ℕ). us ++ numbers (k + 1) (n - (k + 1))) is ∙ (append_assoc list (k ∷ []) (numbers (k + 1) (n - (k + 1)))
    ∙ (ap (λ (us : List ℕ). list ++ us) (sym (from_next k n h)) ∙ so))

pub all_put : (k n : ℕ) (list whole : List ℕ) → n ≤ k → list ++ numbers k (n - k) ≡ whole → list ≡ whole
all_put k n list whole h so = sym (append-nil list) ∙ (ap (λ (us : List ℕ). list ++ us) (sym (from_end k n h)) ∙ so)

-- ---- one more among others

pub among_last : (k : ℕ) (xs : List ℕ) (x : ℕ) → among k (xs ++ x ∷ []) ≡ (among k xs || nat_eq k x)
among_last k [] x = or_false (nat_eq k x)
among_last k (y ∷ ys) x = ap (λ b. nat_eq k y || b) (among_last k ys x) ∙ sym (or_apart (nat_eq k y) (among k ys) (nat_eq k x))

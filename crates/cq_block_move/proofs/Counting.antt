-- How many numbers below another are such.
use Rattle.std.proofs.Common.{◌≡◌, ℕ, zero, suc, ◌+◌, Bool, true, false, List, [], ◌∷◌, ◌++◌, length, length-append, filter, refl, ◌∙◌, ap, arith, add-one, if◌then◌else◌}
use Rattle.std.proofs.lemmas.List.Elements.{filter-append}
use Rattle.cq_planning.specs.Touched.{numbers}

next_number : (n k : ℕ) → numbers n (suc k) ≡ numbers n k ++ (n + k) ∷ []
next_number n zero = let e : n ≡ n + 0 = omega arith in ap (λ (m : ℕ). m ∷ []) e
next_number n (suc k) = let e : (n + 1) + k ≡ n + suc k = omega arith in ap (λ (us : List ℕ). n ∷ us) (next_number (n + 1) k ∙ ap (λ (m : ℕ). numbers (n + 1) k ++ m ∷ []) e)

from_zero : (k : ℕ) → numbers 0 (k + 1) ≡ numbers 0 k ++ k ∷ []
from_zero k = let e : 0 + k ≡ k = omega arith in rw add-one (next_number 0 k ∙ ap (λ (m : ℕ). numbers 0 k ++ m ∷ []) e)

-- one number more
pub count_more : (p : ℕ → Bool) (k : ℕ) → length (filter p (numbers 0 (k + 1))) ≡ length (filter p (numbers 0 k)) + (if p k then 1 else 0)
count_more p k =
    ap (λ (l : List ℕ). length (filter p l)) (from_zero k)
    ∙ (ap (λ (l : List ℕ). length l) (filter-append p (numbers 0 k) (k ∷ [])) ∙ (length-append (filter p (numbers 0 k)) (filter p (k ∷ [])) ∙ ap (λ n. length (filter p (numbers 0 k)) + n) (last (p k) refl)))
  where
    last : (b : Bool) → p k ≡ b → length (filter p (k ∷ [])) ≡ (if p k then 1 else 0)
    last true e = rw e refl
    last false e = rw e refl

pub counts : (p : ℕ → Bool) (k n : ℕ) → n ≡ length (filter p (numbers 0 k)) → p k ≡ true → n + 1 ≡ length (filter p (numbers 0 (k + 1)))
counts p k n e t = let m = count_more p k ∙ ap (λ b. length (filter p (numbers 0 k)) + (if b then 1 else 0)) t in omega (arith, m, e)

pub skips : (p : ℕ → Bool) (k n : ℕ) → n ≡ length (filter p (numbers 0 k)) → p k ≡ false → n ≡ length (filter p (numbers 0 (k + 1)))
skips p k n e f = let m = count_more p k ∙ ap (λ b. length (filter p (numbers 0 k)) + (if b then 1 else 0)) f in omega (arith, m, e)

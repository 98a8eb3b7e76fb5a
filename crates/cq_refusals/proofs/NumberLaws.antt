-- Loops over numbers, one after another: what is still to come.
use Rattle.std.proofs.Common.{◌≡◌, ◌<◌, ◌≤◌, ℕ, suc, ◌+◌, ◌-◌, Bool, true, false, List, [], ◌∷◌, ◌++◌, map, refl, sym, ap, ◌∙◌, ◌&&◌, arith, append_assoc, append-nil}
use Rattle.std.specs.List.{list_all}
use Rattle.cq_planning.specs.Touched.{numbers}

from_next : (k n : ℕ) → k < n → numbers k (n - k) ≡ k ∷ numbers (k + 1) (n - (k + 1))
from_next k n h = let e : n - k ≡ suc (n - (k + 1)) = omega arith in rw e refl

from_end : (k n : ℕ) → n ≤ k → numbers k (n - k) ≡ []
from_end k n h = let e : n - k ≡ 0 = omega arith in rw e refl

module _ (column : ℕ) where
  abbrev pub pairs_from : ℕ → ℕ → List (ℕ × ℕ)
  pairs_from k n = map (λ x. (column, x)) (numbers k (n - k))

  pub one_put : (k n : ℕ) (pairs more whole : List (ℕ × ℕ)) → k < n → more ≡ pairs ++ (column, k) ∷ [] → pairs ++ pairs_from k n ≡ whole → more ++ pairs_from (k + 1) n ≡ whole
  one_put k n pairs more whole h is so =
      ap (λ (ps : List (ℕ × ℕ)). ps ++ pairs_from (k + 1) n) is ∙ (append_assoc pairs ((column, k) ∷ []) (pairs_from (k + 1) n)
      ∙ (ap (λ (us : List ℕ). pairs ++ map (λ x. (column, x)) us) (sym (from_next k n h)) ∙ so))

  pub all_put : (k n : ℕ) (pairs whole : List (ℕ × ℕ)) → n ≤ k → pairs ++ pairs_from k n ≡ whole → pairs ≡ whole
  all_put k n pairs whole h so = sym (append-nil pairs) ∙ (ap (λ (us : List ℕ). pairs ++ map (λ x. (column, x)) us) (sym (from_end k n h)) ∙ so)

module _ (p : ℕ → Bool) where
  pub not_all : (k n : ℕ) (whole : Bool) → k < n → p k ≡ false → list_all p (numbers k (n - k)) ≡ whole → false ≡ whole
  not_all k n whole h fails so = ap (λ (b : Bool). b && list_all p (numbers (k + 1) (n - (k + 1)))) (sym fails) ∙ (ap (list_all p) (sym (from_next k n h)) ∙ so)

  pub more_of_all : (k n : ℕ) (whole : Bool) → k < n → p k ≡ true → list_all p (numbers k (n - k)) ≡ whole → list_all p (numbers (k + 1) (n - (k + 1))) ≡ whole
  more_of_all k n whole h passes so = ap (λ (b : Bool). b && list_all p (numbers (k + 1) (n - (k + 1)))) (sym passes) ∙ (ap (list_all p) (sym (from_next k n h)) ∙ so)

  pub all_of_them : (k n : ℕ) (whole : Bool) → n ≤ k → list_all p (numbers k (n - k)) ≡ whole → true ≡ whole
  all_of_them k n whole h so = ap (list_all p) (sym (from_end k n h)) ∙ so

-- Lists of numbers, one after another.
use Rattle.std.proofs.Common.{◌≡◌, ℕ, zero, suc, ◌+◌, Bool, true, false, cond, List, [], ◌∷◌, ◌++◌, filter, refl, sym, ap, ◌∙◌, arith, add-one, if◌then◌else◌}
use Rattle.cq_planning.specs.Touched.{numbers, among}

next_number : (n k : ℕ) → numbers n (suc k) ≡ numbers n k ++ (n + k) ∷ []
next_number n zero = let e : n + 0 ≡ n = omega arith in rw e refl
next_number n (suc k) = let e : (n + 1) + k ≡ n + suc k = omega arith in ap (λ (us : List ℕ). n ∷ us) (next_number (n + 1) k ∙ ap (λ m. numbers (n + 1) k ++ m ∷ []) e)

pub numbers_push : (n k : ℕ) → numbers n (k + 1) ≡ numbers n k ++ (n + k) ∷ []
numbers_push n k = rw add-one (next_number n k)

pub filter_push : (p : ℕ → Bool) (xs : List ℕ) (x : ℕ) → filter p (xs ++ x ∷ []) ≡ (if p x then filter p xs ++ x ∷ [] else filter p xs)
filter_push p [] x = refl
filter_push p (y ∷ ys) x = simp (filter_push p ys x) (both (p y) (p x) y (filter p ys) (x ∷ []))
  where
    both : (a b : Bool) (y : ℕ) (us vs : List ℕ) → cond a (y ∷ cond b (us ++ vs) us) (cond b (us ++ vs) us) ≡ cond b (cond a (y ∷ us) us ++ vs) (cond a (y ∷ us) us)
    both true true y us vs = refl
    both true false y us vs = refl
    both false true y us vs = refl
    both false false y us vs = refl

from_zero : (k : ℕ) → numbers 0 (k + 1) ≡ numbers 0 k ++ k ∷ []
from_zero k = let e : 0 + k ≡ k = omega arith in rw e at (numbers_push 0 k)

pub among_push : (groups : List ℕ) (k : ℕ) → filter (λ g. among g groups) (numbers 0 (k + 1)) ≡ (if among k groups then filter (λ g. among g groups) (numbers 0 k) ++ k ∷ [] else filter (λ g. among g groups) (numbers 0 k))
among_push groups k = ap (filter (λ g. among g groups)) (from_zero k) ∙ filter_push (λ g. among g groups) (numbers 0 k) k

pub kept_group : (groups list : List ℕ) (k : ℕ) → among k groups ≡ true → list ≡ filter (λ g. among g groups) (numbers 0 k) → list ++ k ∷ [] ≡ filter (λ g. among g groups) (numbers 0 (k + 1))
kept_group groups list k e l = ap (λ (us : List ℕ). us ++ k ∷ []) l ∙ sym (among_push groups k ∙ ap (λ b. cond b (filter (λ g. among g groups) (numbers 0 k) ++ k ∷ []) (filter (λ g. among g groups) (numbers 0 k))) e)

pub left_group : (groups list : List ℕ) (k : ℕ) → among k groups ≡ false → list ≡ filter (λ g. among g groups) (numbers 0 k) → list ≡ filter (λ g. among g groups) (numbers 0 (k + 1))
left_group groups list k e l = l ∙ sym (among_push groups k ∙ ap (λ b. cond b (filter (λ g. among g groups) (numbers 0 k) ++ k ∷ []) (filter (λ g. among g groups) (numbers 0 k))) e)

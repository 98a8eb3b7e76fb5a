-- A permutation is a reordering.
use Rattle.std.proofs.Common.{ℕ, zero, suc, ◌<◌, List, [], ◌∷◌, length, get_or, set, subst, arith}
use Rattle.std.specs.List.{swap}
use Rattle.std.specs.List.Sorted.{IsPermutation}
use Rattle.std.proofs.lemmas.List.Sorted.{IsPermutation-keeps}
use Rattle.std.proofs.lemmas.List.Edits.{swap_is}
use Rattle.cq_meaning.proofs.Reorder.{Reordered, none, kept, turned, then, same}

module _ {X : Type 0} where
  put_out : (x : X) (ys : List X) (j : ℕ) (d : X) → j < length ys → Reordered (x ∷ ys) (get_or ys j d ∷ set ys j x)
  put_out x [] j d l = absurd (omega arith)
  put_out x (y ∷ ys) zero d l = turned
  put_out x (y ∷ ys) (suc j) d l = then turned (then (kept (put_out x ys j d (omega arith))) turned)

  two_set : (xs : List X) (i j : ℕ) (d : X) → i < length xs → j < length xs → Reordered xs (set (set xs i (get_or xs j d)) j (get_or xs i d))
  two_set [] i j d l m = absurd (omega arith)
  two_set (x ∷ xs) zero zero d l m = same (x ∷ xs)
  two_set (x ∷ xs) zero (suc j) d l m = put_out x xs j d (omega arith)
  two_set (x ∷ xs) (suc i) zero d l m = put_out x xs i d (omega arith)
  two_set (x ∷ xs) (suc i) (suc j) d l m = kept (two_set xs i j d (omega arith) (omega arith))

  swap_moved : (xs : List X) (i j : ℕ) → i < length xs → j < length xs → Reordered xs (swap xs i j)
  swap_moved [] i j l m = none
  swap_moved (x ∷ xs) i j l m = subst (λ us. Reordered (x ∷ xs) us) (swap_is (x ∷ xs) i j x l m) (two_set (x ∷ xs) i j x l m)

  pub reordered : (xs ys : List X) → IsPermutation xs ys → Reordered xs ys
  reordered xs ys p = IsPermutation-keeps xs (λ l. Reordered xs l) (same xs) (λ l i j a b r. then r (swap_moved l i j a b)) ys p

-- The rows in the stable order are an answer.
use Rattle.std.proofs.Common.{◌≡◌, ℕ, zero, suc, ◌<◌, Bool, true, false, cond, List, [], ◌∷◌, length, get_or, refl, arith, add-one}
use Rattle.std.specs.Prelude.{Result, Ok, Err, IfOk}
use Rattle.std.specs.Ordering.{is_lt}
use Rattle.std.specs.Cmp.{IsStrictWeakOrder}
use Rattle.std.specs.List.Sorted.{IsPermutation, IsSortedBy}
use Rattle.std.proofs.lemmas.List.Sorted.{IsPermutation-refl, IsPermutation-cons, IsPermutation-middle, IsPermutation-trans}
use Rattle.cq_tree.specs.declared.query.Query.{Query, Query'}
use Rattle.cq_meaning.specs.Values.{Row, Tables}
use Rattle.cq_meaning.specs.Groups.{distinct_if}
use Rattle.cq_meaning.specs.Sorting.{sorted, sorted_by, placed, keys_cmp}
use Rattle.cq_meaning.specs.Queries.{from_rows, meaning, AnswersWith, item_rows}
use Rattle.cq_meaning.proofs.StableSort.{Rises, sorted_rises}
use Rattle.cq_meaning.proofs.KeyLaws.{keys_weak}

module _ {X : Type 0} (lt : X → X → Bool) where
  placed_moves : (x : X) (ys : List X) → IsPermutation (x ∷ ys) (placed lt x ys)
  placed_moves x [] = IsPermutation-refl (x ∷ [])
  placed_moves x (y ∷ ys) = elim (lt y x) as (λ b. IsPermutation (x ∷ (y ∷ ys)) (cond b (y ∷ placed lt x ys) (x ∷ (y ∷ ys)))) [
    | true ↦ IsPermutation-trans (x ∷ (y ∷ ys)) (y ∷ (x ∷ ys)) (y ∷ placed lt x ys) (IsPermutation-middle (x ∷ []) y ys) (IsPermutation-cons y (x ∷ ys) (placed lt x ys) (placed_moves x ys))
    | false ↦ IsPermutation-refl (x ∷ (y ∷ ys))
  ]

  pub sorted_moves : (xs : List X) → IsPermutation xs (sorted_by lt xs)
  sorted_moves [] = IsPermutation-refl []
  sorted_moves (x ∷ xs) = IsPermutation-trans (x ∷ xs) (x ∷ sorted_by lt xs) (placed lt x (sorted_by lt xs)) (IsPermutation-cons x xs (sorted_by lt xs) (sorted_moves xs)) (placed_moves x (sorted_by lt xs))

  risen : (o : IsStrictWeakOrder lt) (xs : List X) → Rises lt o xs → (k : ℕ) (d : X) → suc k < length xs → lt (get_or xs (suc k) d) (get_or xs k d) ≡ false
  risen o [] h k d below = absurd (omega arith)
  risen o (x ∷ []) h k d below = absurd (omega arith)
  risen o (x ∷ y ∷ xs) h zero d below = h.0.0
  risen o (x ∷ y ∷ xs) h (suc k) d below = risen o (y ∷ xs) h.1 k d (omega arith)

  pub sorted_up : (o : IsStrictWeakOrder lt) (xs : List X) → IsSortedBy lt (sorted_by lt xs)
  sorted_up o xs k d low below = rw add-one (risen o (sorted_by lt xs) (sorted_rises lt o xs) k d (omega arith))

pub mean_answers : (q : Query) (db : Tables) (rs : List (List Row)) → AnswersWith q db rs (meaning q db rs)
mean_answers (Query' cs ctes ss subs from filter_ grouped keys aggs having items shown distinct order limit offset names) db rs =
    let full : List Row = distinct_if distinct (item_rows filter_ grouped keys aggs having items rs (from_rows from 0 db rs)) in
    let lt : Row → Row → Bool = λ x y. is_lt (keys_cmp order x y) in
    (sorted (keys_cmp order) full, sorted_moves lt full, sorted_up lt (keys_weak order) full, refl)

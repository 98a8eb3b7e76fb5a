-- What a binary search finds.
use Rattle.std.proofs.Common.{◌≡◌, ℕ, ◌<◌, Bool, true, false, List, filter, length, get_or, sym, ap, ◌∙◌, arith, Ordering, Less, Equal, Greater}
use Rattle.std.specs.List.{list_any, HoldsAt}
use Rattle.std.specs.List.Sorted.{IsPermutation, IsSortedBy, IsNonDecreasingBy, IsPartitionPoint}
use Rattle.std.specs.Ordering.{is_lt, is_eq, ordering_reverse, ordering_index}
use Rattle.std.proofs.lemmas.List.Folds.{list_any_at, list_any_none}
use Rattle.std.proofs.lemmas.List.Sorted.{searchable_from_sorted, list_any-IsPermutation}
use native.Mathlib.Decide.{dec_lt}
use Rattle.cq_value.specs.declared.value.Value.{Value}
use Rattle.cq_value.specs.Order.{value_cmp}
use Rattle.cq_value.proofs.OrderLaws.{value_cmp_total}
use Rattle.cq_meaning.specs.Values.{same_value}

same_turned : (v y : Value) (o : Ordering) → value_cmp y v ≡ o → same_value v y ≡ is_eq (ordering_reverse o)
same_turned v y o e = ap is_eq (value_cmp_total.antisymm v y ∙ ap ordering_reverse e)

pub found_among : (xs : List Value) (v : Value) (i : ℕ) → i < length xs → HoldsAt (λ y. value_cmp y v ≡ Equal) xs i → true ≡ list_any (same_value v) xs
found_among xs v i h at = sym (list_any_at (same_value v) xs i v h (same_turned v (get_or xs i v) Equal (at v)))

pub none_among : (xs : List Value) (v : Value) (i : ℕ) → IsSortedBy (λ x y. is_lt (value_cmp x y)) xs →
    (IsNonDecreasingBy (λ y. ordering_index (value_cmp y v)) xs → IsPartitionPoint (λ y. value_cmp y v ≡ Less) (λ y. value_cmp y v ≡ Greater) xs i) → false ≡ list_any (same_value v) xs
none_among xs v i up f = sym (list_any_none (same_value v) xs (λ k d h. at k d h (dec_lt k i)))
  where
    parts : IsPartitionPoint (λ y. value_cmp y v ≡ Less) (λ y. value_cmp y v ≡ Greater) xs i
    parts = f (searchable_from_sorted value_cmp_total (λ y. y) xs v up)

    at : (k : ℕ) (d : Value) → k < length xs → Dec (k < i) → same_value v (get_or xs k d) ≡ false
    at k d h (yes l) = same_turned v (get_or xs k d) Less (parts.0 k d (omega arith) l)
    at k d h (no l) = same_turned v (get_or xs k d) Greater (parts.1 k d (omega arith) h)

one_test : (xs ys : List Value) → IsPermutation xs ys → (v : Value) → list_any (same_value v) ys ≡ list_any (same_value v) xs
one_test xs ys p v = sym (list_any-IsPermutation (same_value v) xs ys p)

tests : (xs ys : List Value) → IsPermutation xs ys → ◌≡◌ {A = Value → Bool} (λ v. list_any (same_value v) ys) (λ v. list_any (same_value v) xs)
tests xs ys p = λ i v. one_test xs ys p v i

-- values are among others in any order of these
pub among_permuted : (xs ys : List Value) → IsPermutation xs ys → (values : List Value) → filter (λ v. list_any (same_value v) ys) values ≡ filter (λ v. list_any (same_value v) xs) values
among_permuted xs ys p values = ap (λ (test : Value → Bool). filter test values) (tests xs ys p)

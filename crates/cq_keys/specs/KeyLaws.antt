-- The order of rows is total, and finds equal only what is one row.
use Rattle.std.proofs.Common.{◌≡◌, ℕ, ℤ, pos, Bool, true, false, List, [], ◌∷◌, refl, ap, subst, ◌∙◌, Ordering, Less, Equal, Greater, nat_cmp, int_cmp}
use Rattle.std.specs.Prelude.{⊤}
use Rattle.std.specs.Ordering.{is_eq, ordering_then, then_cmp, on}
use Rattle.std.specs.Cmp.{IsTotalOrder}
use Rattle.std.specs.Cmp.Lexicographic.{slice_cmp}
use Rattle.std.proofs.lemmas.Cmp.{on_total, then_total, nat_cmp_total, int_cmp_total, nat_list_cmp_total, lists_total}
use Rattle.std.proofs.lemmas.Map.Lookups.{exact_signed, exact_bytes}
use Rattle.cq_value.specs.declared.value.Value.{Value}
use Rattle.cq_value.specs.declared.value.Value.TheVariants.{Null, Int, Text}
use Rattle.cq_value.specs.Order.{value_cmp}
use Rattle.cq_meaning.specs.Values.{Row, row_cmp, same_value, same_row}

abbrev IsFalse : Bool → Type 0
IsFalse false = ⊤
IsFalse true = ⊥

-- numbers, texts, NULL
abbrev class : Value → ℕ
class (Int n) = 0
class (Text t) = 1
class Null = 2

abbrev number : Value → ℤ
number (Int n) = n
number (Text t) = pos 0
number Null = pos 0

abbrev bytes : Value → List ℕ
bytes (Int n) = []
bytes (Text t) = t
bytes Null = []

abbrev by_parts : Value → Value → Ordering
by_parts = then_cmp (on class nat_cmp) (then_cmp (on number int_cmp) (on bytes (slice_cmp nat_cmp)))

then-Equal : (o : Ordering) → ordering_then o Equal ≡ o
then-Equal Less = refl
then-Equal Equal = refl
then-Equal Greater = refl

is_by_parts : (x y : Value) → by_parts x y ≡ value_cmp x y
is_by_parts (Int m) (Int n) = then-Equal (int_cmp m n)
is_by_parts (Int m) (Text t) = refl
is_by_parts (Int m) Null = refl
is_by_parts (Text s) (Int n) = refl
is_by_parts (Text s) (Text t) = refl
is_by_parts (Text s) Null = refl
is_by_parts Null (Int n) = refl
is_by_parts Null (Text t) = refl
is_by_parts Null Null = refl

pub value_cmp_total : IsTotalOrder value_cmp
value_cmp_total = subst IsTotalOrder (λ i x y. is_by_parts x y i) (then_total (on_total class nat_cmp_total) (then_total (on_total number int_cmp_total) (on_total bytes nat_list_cmp_total)))

pub row_cmp_total : IsTotalOrder row_cmp
row_cmp_total = lists_total value_cmp_total

apart : false ≡ true → ⊥
apart e = subst IsFalse e tt

equal_value : (a b : Value) → value_cmp a b ≡ Equal → a ≡ b
equal_value (Int m) (Int n) e = ap (λ k. Int k) (exact_signed m n e)
equal_value (Int m) (Text t) e = absurd (apart (ap is_eq e))
equal_value (Int m) Null e = absurd (apart (ap is_eq e))
equal_value (Text s) (Int n) e = absurd (apart (ap is_eq e))
equal_value (Text s) (Text t) e = ap (λ k. Text k) (exact_bytes s t e)
equal_value (Text s) Null e = absurd (apart (ap is_eq e))
equal_value Null (Int n) e = absurd (apart (ap is_eq e))
equal_value Null (Text t) e = absurd (apart (ap is_eq e))
equal_value Null Null e = refl

first_tie : (o p : Ordering) → is_eq (ordering_then o p) ≡ true → o ≡ Equal
first_tie Less p e = absurd (apart e)
first_tie Equal p e = refl
first_tie Greater p e = absurd (apart e)

second_tie : (o p : Ordering) → is_eq (ordering_then o p) ≡ true → is_eq p ≡ true
second_tie Less p e = absurd (apart e)
second_tie Equal p e = e
second_tie Greater p e = absurd (apart e)

pub one_value : (a b : Value) → same_value a b ≡ true → a ≡ b
one_value a b e = equal_value a b (first_tie (value_cmp a b) Equal (ap is_eq (then-Equal (value_cmp a b)) ∙ e))

pub one_row : (a b : Row) → same_row a b ≡ true → a ≡ b
one_row [] [] e = refl
one_row [] (y ∷ ys) e = absurd (apart e)
one_row (x ∷ xs) [] e = absurd (apart e)
one_row (x ∷ xs) (y ∷ ys) e =
    let h : x ≡ y = equal_value x y (first_tie (value_cmp x y) (row_cmp xs ys) e) in
    let t : xs ≡ ys = one_row xs ys (second_tie (value_cmp x y) (row_cmp xs ys) e) in
    λ i. h i ∷ t i

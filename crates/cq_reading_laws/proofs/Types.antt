-- Values of one type of numbers are numbers, each of a width of at least 1.
use Rattle.std.proofs.Common.{◌≡◌, ℕ, ◌≤◌, true, List, [], ◌∷◌, refl, sym, subst, arith, Option, None, Some}
use Rattle.std.specs.Prelude.{⊤}
use Rattle.std.specs.List.{AllByRecursion}
use Rattle.cq_reading.specs.declared.bound.Bound.{Bound}
use Rattle.cq_reading.specs.declared.bound.Bound.TheVariants.{Value, Truth}
use Rattle.cq_reading.specs.declared.bound.Type.TheVariants as type
use Rattle.cq_reading.specs.Widths.{ValueType, is_number, is_number_type, common, common_from, common_of, greatest_width}
use Rattle.cq_reading_laws.specs.Bounds.{Stands}
use Rattle.cq_reading_laws.proofs.Standing.{no_truth}

abbrev IfNumbers : Option ValueType → Type 0 → Type 0
IfNumbers None A = ⊤
IfNumbers (Some t) A = is_number_type t ≡ true → A

-- of a common type of numbers, both are numbers
common_numbers : (t u : ValueType) → IfNumbers (common t u) ((is_number_type t ≡ true) × (is_number_type u ≡ true))
common_numbers type.Null type.Null = λ h. (refl, refl)
common_numbers type.Null type.Number = λ h. (refl, refl)
common_numbers type.Null type.Text = λ h. absurd (no_truth h)
common_numbers type.Number type.Null = λ h. (refl, refl)
common_numbers type.Number type.Number = λ h. (refl, refl)
common_numbers type.Number type.Text = tt
common_numbers type.Text type.Null = λ h. absurd (no_truth h)
common_numbers type.Text type.Number = tt
common_numbers type.Text type.Text = λ h. absurd (no_truth h)

no_common : (bs : List Bound) → common_from None bs ≡ None
no_common [] = refl
no_common (b ∷ bs) = no_common bs

-- of all of these from a first type on
abbrev AreNumbers : ValueType → List Bound → Type 0
AreNumbers t bs = (is_number_type t ≡ true) × AllByRecursion (λ b. is_number b ≡ true) bs

one_more : (o : Option ValueType) (b : Bound) (bs : List Bound) (A : Type 0) → ((t : ValueType) → o ≡ Some t → IfNumbers (common_from (Some t) bs) A) → IfNumbers (common_from o bs) A
one_more None b bs A h = subst (λ o. IfNumbers o A) (sym (no_common bs)) tt
one_more (Some t) b bs A h = h t refl

if_numbers : (o : Option ValueType) (A B : Type 0) → (A → B) → IfNumbers o A → IfNumbers o B
if_numbers None A B f h = tt
if_numbers (Some t) A B f h = λ e. f (h e)

numbers_from : (t : ValueType) (bs : List Bound) → IfNumbers (common_from (Some t) bs) (AreNumbers t bs)
numbers_from t [] = λ h. (h, tt)
numbers_from t (Truth c ∷ bs) = subst (λ o. IfNumbers o (AreNumbers t (Truth c ∷ bs))) (sym (no_common bs)) tt
numbers_from t (Value e u w ∷ bs) = one_more (common t u) (Value e u w) bs (AreNumbers t (Value e u w ∷ bs)) (λ v is.
    if_numbers (common_from (Some v) bs) (AreNumbers v bs) (AreNumbers t (Value e u w ∷ bs)) (λ h.
    let both = subst (λ o. IfNumbers o ((is_number_type t ≡ true) × (is_number_type u ≡ true))) is (common_numbers t u) h.0 in
    (both.0, (both.1, h.1))) (numbers_from v bs))

pub numbers_of : (bs : List Bound) → IfNumbers (common_of bs) (AllByRecursion (λ b. is_number b ≡ true) bs)
numbers_of bs = if_numbers (common_of bs) (AreNumbers type.Null bs) (AllByRecursion (λ b. is_number b ≡ true) bs) (λ h. h.1) (numbers_from type.Null bs)

-- the greatest width of numbers
pub some_width : (ks : List ℕ) (n : ℕ) (t : ValueType) (b : Bound) (bs : List Bound) → AllByRecursion (Stands ks n) (b ∷ bs) → common_of (b ∷ bs) ≡ Some t → is_number_type t ≡ true → 1 ≤ greatest_width (b ∷ bs)
some_width ks n t b bs h is e =
    let all = subst (λ o. IfNumbers o (AllByRecursion (λ b. is_number b ≡ true) (b ∷ bs))) is (numbers_of (b ∷ bs)) e in
    omega (arith, h.0.some all.0)

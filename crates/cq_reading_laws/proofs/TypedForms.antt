-- Types that are alike, and the common type of several values.
use Rattle.std.proofs.Common.{◌≡◌, true, List, [], ◌∷◌, refl, sym, subst, Option, None, Some}
use Rattle.std.specs.Prelude.{⊤}
use Rattle.std.specs.List.{AllByRecursion}
use Rattle.cq_reading.specs.declared.bound.Bound.{Bound}
use Rattle.cq_reading.specs.declared.bound.Bound.TheVariants.{Value, Truth}
use Rattle.cq_reading.specs.declared.bound.Type.TheVariants as type
use Rattle.cq_reading.specs.Widths.{ValueType, expr_of, type_of, is_number, common, common_from, common_of, agree, is_some, are_alike}
use Rattle.cq_reading_laws.proofs.Standing.{no_truth}
use Rattle.cq_reading_laws.specs.Typing.{AreAlike, IsNumber, Fits, either, type_over}

-- the type of a bound expression stands where the reading says its own
abbrev pub OfType : List ValueType → Bound → Type 0
OfType ts b = Fits (type_over ts (expr_of b)) (type_of b)

pub fits_same : (t : ValueType) → Fits t t
fits_same type.Null = refl
fits_same type.Number = refl
fits_same type.Text = refl

pub fits_then : (t u v : ValueType) → Fits t u → Fits u v → Fits t v
fits_then type.Null u v h k = refl
fits_then type.Number u v h k = subst (λ x. Fits x v) (sym h) k
fits_then type.Text u v h k = subst (λ x. Fits x v) (sym h) k

pub fits_either : (t s u : ValueType) → Fits t u → Fits s u → Fits (either t s) u
fits_either type.Null s u h k = k
fits_either type.Number s u h k = h
fits_either type.Text s u h k = h

pub number_below : (t u : ValueType) → Fits t u → IsNumber u → IsNumber t
number_below type.Null u h k = refl
number_below type.Number u h k = refl
number_below type.Text u h k = subst IsNumber (sym h) k

-- two that stand where one type is said
pub alike_both : (t s u : ValueType) → Fits t u → Fits s u → AreAlike t s
alike_both type.Null s u h k = refl
alike_both type.Number type.Null u h k = refl
alike_both type.Number type.Number u h k = refl
alike_both type.Number type.Text u h k = subst (λ x. AreAlike x type.Text) (sym h) (subst (λ x. AreAlike u x) (sym k) (alike_same u))
  where
    alike_same : (u : ValueType) → AreAlike u u
    alike_same type.Null = refl
    alike_same type.Number = refl
    alike_same type.Text = refl
alike_both type.Text type.Null u h k = refl
alike_both type.Text type.Number u h k = subst (λ x. AreAlike x type.Number) (sym h) (subst (λ x. AreAlike u x) (sym k) (alike_same u))
  where
    alike_same : (u : ValueType) → AreAlike u u
    alike_same type.Null = refl
    alike_same type.Number = refl
    alike_same type.Text = refl
alike_both type.Text type.Text u h k = refl

-- two that stand where types that are alike are said
pub alike_below : (t u v w : ValueType) → Fits t v → Fits u w → AreAlike v w → AreAlike t u
alike_below type.Null u v w h k a = refl
alike_below type.Number type.Null v w h k a = refl
alike_below type.Number type.Number v w h k a = refl
alike_below type.Number type.Text v w h k a = subst (λ x. AreAlike x type.Text) (sym h) (subst (λ x. AreAlike v x) (sym k) a)
alike_below type.Text type.Null v w h k a = refl
alike_below type.Text type.Number v w h k a = subst (λ x. AreAlike x type.Number) (sym h) (subst (λ x. AreAlike v x) (sym k) a)
alike_below type.Text type.Text v w h k a = refl

pub number_of : (ts : List ValueType) (b : Bound) → OfType ts b → is_number b ≡ true → IsNumber (type_over ts (expr_of b))
number_of ts (Value e t w) of h = number_below (type_over ts e) t of h
number_of ts (Truth c) of h = absurd (no_truth h)

pub alike_of : (ts : List ValueType) (a b : Bound) → OfType ts a → OfType ts b → are_alike a b ≡ true → AreAlike (type_over ts (expr_of a)) (type_over ts (expr_of b))
alike_of ts (Value e t w) (Value f u v) oa ob h = alike_below (type_over ts e) (type_over ts f) t u oa ob h
alike_of ts (Value e t w) (Truth c) oa ob h = absurd (no_truth h)
alike_of ts (Truth c) (Value f u v) oa ob h = absurd (no_truth h)
alike_of ts (Truth c) (Truth d) oa ob h = absurd (no_truth h)

-- ---- the common type of several

abbrev Common : ValueType → ValueType → Option ValueType → Type 0
Common t u None = ⊤
Common t u (Some v) = Fits t v × Fits u v

common_is : (t u : ValueType) → Common t u (common t u)
common_is type.Null type.Null = (refl, refl)
common_is type.Null type.Number = (refl, refl)
common_is type.Null type.Text = (refl, refl)
common_is type.Number type.Null = (refl, refl)
common_is type.Number type.Number = (refl, refl)
common_is type.Number type.Text = tt
common_is type.Text type.Null = (refl, refl)
common_is type.Text type.Number = tt
common_is type.Text type.Text = (refl, refl)

-- each stands where this type is said
abbrev pub BoundsFit : ValueType → List Bound → Type 0
BoundsFit t bs = AllByRecursion (λ b. Fits (type_of b) t) bs

abbrev Whole : ValueType → List Bound → Option ValueType → Type 0
Whole t bs None = ⊤
Whole t bs (Some u) = Fits t u × BoundsFit u bs

no_common : (bs : List Bound) → common_from None bs ≡ None
no_common [] = refl
no_common (b ∷ bs) = no_common bs

of_none : (t : ValueType) (bs cs : List Bound) → Whole t bs (common_from None cs)
of_none t bs cs = subst (λ o. Whole t bs o) (sym (no_common cs)) tt

one_more : (t : ValueType) (b : Bound) (bs : List Bound) (v : ValueType) (o : Option ValueType) → Fits t v × Fits (type_of b) v → Whole v bs o → Whole t (b ∷ bs) o
one_more t b bs v None h k = tt
one_more t b bs v (Some x) h k = (fits_then t v x h.0 k.0, (fits_then (type_of b) v x h.1 k.0, k.1))

by_common : (t : ValueType) (b : Bound) (bs : List Bound) (o : Option ValueType) → Common t (type_of b) o → ((v : ValueType) → Whole v bs (common_from (Some v) bs)) → Whole t (b ∷ bs) (common_from o bs)
by_common t b bs None h k = of_none t (b ∷ bs) bs
by_common t b bs (Some v) h k = one_more t b bs v (common_from (Some v) bs) h (k v)

whole_from : (t : ValueType) (bs : List Bound) → Whole t bs (common_from (Some t) bs)
whole_from t [] = (fits_same t, tt)
whole_from t (Truth c ∷ bs) = of_none t (Truth c ∷ bs) bs
whole_from t (Value e u w ∷ bs) = by_common t (Value e u w) bs (common t u) (common_is t u) (λ v. whole_from v bs)

-- each stands where their common type is said
pub whole_of : (bs : List Bound) (u : ValueType) → common_of bs ≡ Some u → BoundsFit u bs
whole_of bs u is = (subst (λ o. Whole type.Null bs o) is (whole_from type.Null bs)).1

-- those that can all be compared with each other have a common type
pub agree_fit : (bs : List Bound) → agree bs ≡ true → (t : ValueType) × BoundsFit t bs
agree_fit bs h = by_type (common_of bs) refl h
  where
    by_type : (o : Option ValueType) → common_of bs ≡ o → is_some o ≡ true → (t : ValueType) × BoundsFit t bs
    by_type None e h = absurd (no_truth h)
    by_type (Some t) e h = (t, whole_of bs t e)

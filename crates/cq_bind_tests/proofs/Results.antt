-- The type and the width of several results, of which one more comes last.
use Rattle.std.proofs.Common.{◌≡◌, ℕ, ◌+◌, ◌<◌, max, List, [], ◌∷◌, ◌++◌, map, take, length, get_or, Option, Some, refl, ap, ◌∙◌, arith}
use Rattle.std.proofs.lemmas.List.{take_more, map_more}
use Rattle.cq_reading.specs.declared.bound.Bound.{Bound}
use Rattle.cq_reading.specs.declared.bound.Type.TheVariants as type
use Rattle.cq_reading.specs.Widths.{ValueType, common_with, common_from, common_of, greatest_width, width_of}
use Rattle.cq_reading.specs.Rules.{Pair}

common_push : (t : Option ValueType) (bs : List Bound) (b : Bound) → common_from t (bs ++ b ∷ []) ≡ common_with (common_from t bs) b
common_push t [] b = refl
common_push t (a ∷ bs) b = common_push (common_with t a) bs b

pub common_last : (bs : List Bound) (b : Bound) → common_of (bs ++ b ∷ []) ≡ common_with (common_of bs) b
common_last bs b = common_push (Some type.Null) bs b

pub greatest_last : (bs : List Bound) (b : Bound) → greatest_width (bs ++ b ∷ []) ≡ max (greatest_width bs) (width_of b)
greatest_last [] b = omega arith
greatest_last (a ∷ bs) b = omega (arith, greatest_last bs b)

pub common_more : (t : Option ValueType) (bs : List Bound) (i : ℕ) (d : Bound) → i < length bs → common_from t (take (i + 1) bs) ≡ common_with (common_from t (take i bs)) (get_or bs i d)
common_more t bs i d h = ap (common_from t) (take_more bs i d h) ∙ common_push t (take i bs) (get_or bs i d)

pub greatest_more : (bs : List Bound) (i : ℕ) (d : Bound) → i < length bs → greatest_width (take (i + 1) bs) ≡ max (greatest_width (take i bs)) (width_of (get_or bs i d))
greatest_more bs i d h = ap greatest_width (take_more bs i d h) ∙ greatest_last (take i bs) (get_or bs i d)

pub common_more_in : (ps : List Pair) (i : ℕ) (d : Pair) → i < length ps → common_of (map (λ p. p.1) (take (i + 1) ps)) ≡ common_with (common_of (map (λ p. p.1) (take i ps))) (get_or ps i d).1
common_more_in ps i d h = ap common_of (map_more (λ (p : Pair). p.1) ps i d h) ∙ common_last (map (λ p. p.1) (take i ps)) (get_or ps i d).1

pub greatest_more_in : (ps : List Pair) (i : ℕ) (d : Pair) → i < length ps → greatest_width (map (λ p. p.1) (take (i + 1) ps)) ≡ max (greatest_width (map (λ p. p.1) (take i ps))) (width_of (get_or ps i d).1)
greatest_more_in ps i d h = ap greatest_width (map_more (λ (p : Pair). p.1) ps i d h) ∙ greatest_last (map (λ p. p.1) (take i ps)) (get_or ps i d).1

-- What a set of values finds, and what it tells of IN.
use Rattle.std.proofs.Common.{◌≡◌, ℕ, ℤ, Bool, true, false, List, [], ◌∷◌, ◌++◌, length, refl, sym, ap, ◌∙◌, arith, Ordering, Less, Equal, Greater}
use Rattle.std.specs.Prelude.{◌||◌, ◌&&◌, not, nat_lt}
use Rattle.std.specs.List.{list_any, list_all}
use Rattle.std.specs.Ordering.{is_eq}
use Rattle.std.proofs.lemmas.Bool.{lt-ltb}
use Rattle.std.proofs.lemmas.Cmp.{eq_by_cmp_equiv}
use Rattle.cq_value.specs.declared.value.Value.{Value}
use Rattle.cq_value.specs.declared.value.Value.TheVariants.{Null, Int, Text}
use Rattle.cq_value.specs.declared.value.Truth.{Truth}
use Rattle.cq_value.specs.declared.value.Truth.TheVariants.{Yes, No, Unknown}
use Rattle.cq_tree.specs.declared.expression.Op.TheVariants.{Eq}
use Rattle.cq_value.specs.Order.{value_cmp}
use Rattle.cq_value.proofs.OrderLaws.{value_cmp_total}
use Rattle.cq_meaning.specs.Logic.{or_of, equals, meets, is_yes, null_test, among}
use Rattle.cq_meaning.specs.Values.{Row, column, same_value}
use Rattle.cq_queries.specs.Members.{first_column, among_values, is_number, is_text, is_unknown, are_found, are_unsure, verdict}

-- ---- a set of values

same_turned : (x y : Value) → same_value x y ≡ same_value y x
same_turned = (eq_by_cmp_equiv value_cmp_total).symm

pub one_member : (q v : Value) (values : List Value) → (same_value v q || list_any (same_value q) values) ≡ list_any (same_value q) (values ++ v ∷ [])
one_member q v [] = ap (λ b. b || false) (same_turned v q)
one_member q v (w ∷ values) =
    elim (same_value q w) as (λ b. (same_value v q || (b || list_any (same_value q) values)) ≡ (b || list_any (same_value q) (values ++ v ∷ []))) [
      | true ↦ (elim (same_value v q) as (λ c. (c || true) ≡ true) [ true ↦ refl | false ↦ refl ])
      | false ↦ one_member q v values
    ]

-- ---- IN

one_more : (t : Truth) (found unsure : Bool) → or_of t (verdict found unsure) ≡ verdict (is_yes t || found) (is_unknown t || unsure)
one_more Yes found unsure = refl
one_more No found unsure = refl
one_more Unknown true unsure = refl
one_more Unknown false true = refl
one_more Unknown false false = refl

-- it is true where it is of one of the values, and else unknown where it is of one of them
pub among_is : (x : Value) (ys : List Value) → among_values x ys ≡ verdict (are_found x ys) (are_unsure x ys)
among_is x [] = refl
among_is x (y ∷ ys) = ap (or_of (equals x y)) (among_is x ys) ∙ one_more (equals x y) (are_found x ys) (are_unsure x ys)

pub among_rows : (x : Value) (rows : List Row) → among x rows ≡ among_values x (first_column rows)
among_rows x [] = refl
among_rows x (r ∷ rows) = ap (or_of (equals x (column r 0))) (among_rows x rows)

-- ---- what is found

equal_met : (o : Ordering) → is_yes (meets Eq o) ≡ is_eq o
equal_met Less = refl
equal_met Equal = refl
equal_met Greater = refl

met_same : (x y : Value) → null_test x ≡ No → is_yes (equals x y) ≡ same_value x y
met_same Null y h = cc
met_same (Int n) Null h = refl
met_same (Int n) (Int m) h = equal_met (value_cmp (Int n) (Int m))
met_same (Int n) (Text t) h = refl
met_same (Text s) Null h = refl
met_same (Text s) (Int m) h = refl
met_same (Text s) (Text t) h = equal_met (value_cmp (Text s) (Text t))

any_alike : (p q : Value → Bool) → ((y : Value) → p y ≡ q y) → (ys : List Value) → list_any p ys ≡ list_any q ys
any_alike p q h [] = refl
any_alike p q h (y ∷ ys) = let a : p y ≡ q y = h y in let b : list_any p ys ≡ list_any q ys = any_alike p q h ys in λ i. a i || b i

pub found_null : (ys : List Value) → false ≡ are_found Null ys
found_null [] = refl
found_null (y ∷ ys) = found_null ys

pub found_same : (x : Value) (ys : List Value) → null_test x ≡ No → list_any (same_value x) ys ≡ are_found x ys
found_same x ys h = sym (any_alike (λ y. is_yes (equals x y)) (same_value x) (λ y. met_same x y h) ys)

-- ---- where it is unknown

not_all : (p q : Value → Bool) → ((y : Value) → p y ≡ not (q y)) → (ys : List Value) → list_any p ys ≡ not (list_all q ys)
not_all p q h [] = refl
not_all p q h (y ∷ ys) = (λ i. h y i || not_all p q h ys i) ∙ both (q y) (list_all q ys)
  where
    both : (a b : Bool) → (not a || not b) ≡ not (a && b)
    both true b = refl
    both false b = refl

meets_known : (o : Ordering) → is_unknown (meets Eq o) ≡ false
meets_known Less = refl
meets_known Equal = refl
meets_known Greater = refl

pub unsure_number : (n : ℤ) (ys : List Value) → not (list_all is_number ys) ≡ are_unsure (Int n) ys
unsure_number n ys = sym (not_all (λ y. is_unknown (equals (Int n) y)) is_number each ys)
  where
    each : (y : Value) → is_unknown (equals (Int n) y) ≡ not (is_number y)
    each Null = refl
    each (Int m) = meets_known (value_cmp (Int n) (Int m))
    each (Text t) = refl

pub unsure_text : (s : List ℕ) (ys : List Value) → not (list_all is_text ys) ≡ are_unsure (Text s) ys
unsure_text s ys = sym (not_all (λ y. is_unknown (equals (Text s) y)) is_text each ys)
  where
    each : (y : Value) → is_unknown (equals (Text s) y) ≡ not (is_text y)
    each Null = refl
    each (Int m) = refl
    each (Text t) = meets_known (value_cmp (Text s) (Text t))

pub unsure_null : (rows : List Row) → nat_lt 0 (length rows) ≡ are_unsure Null (first_column rows)
unsure_null [] = refl
unsure_null (r ∷ rows) = lt-ltb 0 (length (r ∷ rows)) (omega arith) ∙ sym (ap (λ t. is_unknown t || are_unsure Null (first_column rows)) (known_null (column r 0)))
  where
    known_null : (y : Value) → equals Null y ≡ Unknown
    known_null Null = refl
    known_null (Int m) = refl
    known_null (Text t) = refl

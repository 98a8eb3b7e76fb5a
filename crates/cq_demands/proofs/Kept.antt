-- A row that WHERE keeps has what WHERE demands, so WHERE keeps the same of those that have it as of all rows.
use Rattle.std.proofs.Common.{◌≡◌, ◌⊎◌, inl, inr, ℕ, Bool, true, false, List, [], ◌∷◌, ◌++◌, filter, refl, sym, ◌∙◌, ap, Ordering, Less, Equal, Greater}
use Rattle.std.specs.Ordering.{is_eq}
use Rattle.std.proofs.lemmas.Map.Lookups.{exact_signed, exact_bytes}
use Rattle.cq_value.proofs.Truths.{two_ways}
use Rattle.cq_value.specs.declared.value.Value.{Value}
use Rattle.cq_value.specs.declared.value.Value.TheVariants.{Null, Int, Text}
use Rattle.cq_value.specs.declared.value.Truth.{Truth}
use Rattle.cq_value.specs.declared.value.Truth.TheVariants.{Yes, No, Unknown}
use Rattle.cq_value.specs.Order.{compared}
use Rattle.cq_value.specs.Tables.{Pair}
use Rattle.cq_value.proofs.OrderLaws.{value_cmp_same}
use Rattle.cq_tree.specs.declared.expression.Expr.{Literal, Column}
use Rattle.cq_tree.specs.declared.expression.Cond.{Cond, Compare, And', end_of-Cond, more_of-Cond}
use Rattle.cq_tree.specs.declared.expression.Op.TheVariants.{Eq}
use Rattle.cq_meaning.specs.Values.{Row, column, same_value}
use Rattle.cq_meaning.specs.Logic.{is_yes, and_of, met, meets}
use Rattle.cq_meaning.specs.Expressions.{truth_of, keeps}
use Rattle.cq_meaning.specs.Effects.{is_kept}
use Rattle.cq_demands.specs.Demands.{demand_of, demands, has_all, rows_with, pairs_with, KeptHasDemands}

-- ---- values

met_equal : (o : Ordering) → is_yes (meets Eq o) ≡ true → o ≡ Equal
met_equal Less h = cc
met_equal Equal h = refl
met_equal Greater h = cc

-- where `x = y` is true, x and y are one value
pub equal_is : (x y : Value) → is_yes (met Eq (compared x y)) ≡ true → x ≡ y
equal_is (Int m) (Int n) h = ap Int (exact_signed m n (met_equal _ h))
equal_is (Int m) (Text t) h = cc
equal_is (Int m) Null h = cc
equal_is (Text s) (Int n) h = cc
equal_is (Text s) (Text t) h = ap Text (exact_bytes s t (met_equal _ h))
equal_is (Text s) Null h = cc
equal_is Null (Int n) h = cc
equal_is Null (Text t) h = cc
equal_is Null Null h = cc

pub same_itself : (v w : Value) → v ≡ w → same_value v w ≡ true
same_itself v w e = ap is_eq ((value_cmp_same v w).1 e)

pub yes_both : (a b : Truth) → is_yes (and_of a b) ≡ true → (is_yes a ≡ true) × (is_yes b ≡ true)
yes_both Yes b h = (refl, h)
yes_both No b h = cc
yes_both Unknown Yes h = cc
yes_both Unknown No h = cc
yes_both Unknown Unknown h = cc

-- ---- what is kept has what is demanded

has_both : (ps qs : List (ℕ × Value)) (row : Row) → has_all ps row ≡ true → has_all qs row ≡ true → has_all (ps ++ qs) row ≡ true
has_both [] qs row a b = b
has_both (p ∷ ps) qs row a b = elim (two_ways (same_value (column row p.0) p.1)) [
  | inl t ↦ rw t (has_both ps qs row (rw t at a) b)
  | inr u ↦ (let none : false ≡ true = rw u at a in cc)
]

has_one : (row : Row) (i : ℕ) (v : Value) → column row i ≡ v → has_all ((i, v) ∷ []) row ≡ true
has_one row i v e = rw (same_itself (column row i) v e) refl

has_demand : (c : Cond) (row : Row) → keeps c [] row ≡ true → has_all (demand_of c) row ≡ true
has_demand (Compare Eq (Column i) (Literal v)) row k = has_one row i v (equal_is (column row i) v k)
has_demand (Compare Eq (Literal v) (Column i)) row k = has_one row i v (sym (equal_is v (column row i) k))
has_demand c row k = refl

pub kept_has_demands : KeptHasDemands
kept_has_demands (And' p (more_of-Cond a end_of-Cond) q (more_of-Cond b end_of-Cond)) row k =
    let both = yes_both (truth_of a row []) (truth_of b row []) k in
    has_both (demands a) (demands b) row (kept_has_demands a row both.0) (kept_has_demands b row both.1)
kept_has_demands c row k = has_demand c row k

-- what passes a test is the same of all and of those that pass a weaker one
pub passing_alike : {X : Type 0} (p q : X → Bool) → ((x : X) → p x ≡ true → q x ≡ true) → (xs : List X) → filter p (filter q xs) ≡ filter p xs
passing_alike p q weaker [] = refl
passing_alike p q weaker (x ∷ xs) =
    let more : filter p (filter q xs) ≡ filter p xs = passing_alike p q weaker xs in
    elim (two_ways (q x)) [
      | inl t ↦ rw t (elim (two_ways (p x)) [ inl k ↦ rw k (ap (λ ys. x ∷ ys) more) | inr k ↦ rw k more ])
      | inr u ↦ rw u (elim (two_ways (p x)) [ inl k ↦ (let both : true ≡ false = sym (weaker x k) ∙ u in cc) | inr k ↦ rw k more ])
    ]

-- so WHERE keeps the same of the rows that have its demands as of all rows
pub kept_of_demands : (f : Cond) (rows : List Row) → filter (keeps f []) (rows_with (demands f) rows) ≡ filter (keeps f []) rows
kept_of_demands f rows = passing_alike (keeps f []) (has_all (demands f)) (kept_has_demands f) rows

pub kept_of_pairs : (f : Cond) (pairs : List Pair) → filter (is_kept f) (pairs_with (demands f) pairs) ≡ filter (is_kept f) pairs
kept_of_pairs f pairs = passing_alike (is_kept f) (λ (p : Pair). has_all (demands f) p.1) (λ p. kept_has_demands f p.1) pairs

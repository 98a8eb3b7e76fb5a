-- The orders of rows by a key, and by a number that their key makes: what they tie has one key, and stands side by side.
use Rattle.std.proofs.Common.{◌≡◌, ℕ, List, [], ◌∷◌, fold, refl, sym, ap, ◌∙◌, subst, Bool, true, false, ◌&&◌, Ordering, Less, Equal, Greater, nat_cmp}
use Rattle.std.specs.Prelude.{zip, drop}
use Rattle.std.specs.List.{list_any}
use Rattle.std.specs.List.Sorted.{IsSortedBy}
use Rattle.std.specs.Ordering.{is_lt, is_eq, ordering_then}
use Rattle.std.specs.Cmp.{IsTotalOrder, IsEquivalence, IsStrictWeakOrder}
use Rattle.std.proofs.lemmas.Cmp.{on_total, then_total, nat_cmp_total, tied_itself, eq_by_cmp_equiv}
use Rattle.std.proofs.lemmas.List.Sorted.{ranks_by}
use Rattle.cq_value.specs.Order.{value_cmp}
use Rattle.cq_value.proofs.OrderLaws.{value_cmp_total, value_cmp_same}
use Rattle.cq_value.proofs.Truths.{and_both}
use Rattle.cq_meaning.specs.Values.{Row, column}
use Rattle.cq_meaning.specs.Effects.{same_key}
use Rattle.cq_engine.specs.Keys.{key_order, mixed, key_number, Numbered, numbered, number_order, are_tied, has_twins}
use Rattle.cq_engine.proofs.TwinLaws.{neighbours_zip, twins_are_neighbours}

tied : IsTotalOrder (λ (x y : Row). Equal)
tied = record { antisymm = λ x y. refl; trans = λ x y z p q. p; congr = λ x y z p. refl }

-- the order of rows by a key is total
key_order_total : (key : List ℕ) → IsTotalOrder (key_order key)
key_order_total [] = tied
key_order_total (place ∷ key) = then_total (on_total (λ row. column row place) value_cmp_total) (key_order_total key)

by_first : (o p : Ordering) → is_eq (ordering_then o p) ≡ (is_eq o && is_eq p)
by_first Less p = refl
by_first Equal p = refl
by_first Greater p = refl

-- it ties those that have one key
key_order_same : (key : List ℕ) (x y : Row) → is_eq (key_order key x y) ≡ same_key key x y
key_order_same [] x y = refl
key_order_same (place ∷ key) x y =
    by_first (value_cmp (column x place) (column y place)) (key_order key x y)
    ∙ ap (λ b. is_eq (value_cmp (column x place) (column y place)) && b) (key_order_same key x y)

pub same_key_laws : (key : List ℕ) → IsEquivalence (same_key key)
same_key_laws key = subst IsEquivalence (λ i x y. key_order_same key x y i) (eq_by_cmp_equiv (key_order_total key))

-- the order by numbers is total

number_order_total : (key : List ℕ) → IsTotalOrder (number_order key)
number_order_total key = then_total (on_total (λ (x : Numbered). x.0) nat_cmp_total) (on_total (λ (x : Numbered). x.1) (key_order_total key))

pub number_order_weak : (key : List ℕ) → IsStrictWeakOrder (λ (x y : Numbered). is_lt (number_order key x y))
number_order_weak key = ranks_by (number_order_total key) (λ (x : Numbered). x)

pub are_tied_laws : (key : List ℕ) → IsEquivalence (are_tied key)
are_tied_laws key = eq_by_cmp_equiv (number_order_total key)

-- rows of one key have one number

equal : (o : Ordering) → is_eq o ≡ true → o ≡ Equal
equal Less e = cc
equal Equal e = refl
equal Greater e = cc

one_number : (key : List ℕ) (x y : Row) (n : ℕ) → same_key key x y ≡ true →
    fold (λ number place. mixed number (column x place)) n key ≡ fold (λ number place. mixed number (column y place)) n key
one_number [] x y n e = refl
one_number (place ∷ key) x y n e =
    let both = and_both (is_eq (value_cmp (column x place) (column y place))) (same_key key x y) e in
    let value = (value_cmp_same (column x place) (column y place)).0 (equal (value_cmp (column x place) (column y place)) both.0) in
    ap (λ v. fold (λ number place. mixed number (column x place)) (mixed n v) key) value
    ∙ one_number key x y (mixed n (column y place)) both.1

implied : (a b : Bool) → (b ≡ true → a ≡ true) → (a && b) ≡ b
implied a true h = rw (h refl) refl
implied true false h = refl
implied false false h = refl

-- so their numbers tie just those that have one key
pub tied_same : (key : List ℕ) (x y : Row) → are_tied key (numbered key x) (numbered key y) ≡ same_key key x y
tied_same key x y =
    by_first (nat_cmp (key_number key x) (key_number key y)) (key_order key x y)
    ∙ ap (λ b. is_eq (nat_cmp (key_number key x) (key_number key y)) && b) (key_order_same key x y)
    ∙ implied (is_eq (nat_cmp (key_number key x) (key_number key y))) (same_key key x y) (λ e.
    ap (λ n. is_eq (nat_cmp (key_number key x) n)) (sym (one_number key x y 0 e)) ∙ ap (λ o. is_eq o) (tied_itself nat_cmp_total (key_number key x)))

-- in the order of their numbers, two rows of one key stand side by side
pub twins_side_by_side : (key : List ℕ) (sorted : List Numbered) → IsSortedBy (λ x y. is_lt (number_order key x y)) sorted →
    list_any (λ p. are_tied key p.0 p.1) (zip sorted (drop 1 sorted)) ≡ has_twins (are_tied key) sorted
twins_side_by_side key sorted up = neighbours_zip (are_tied key) sorted ∙ twins_are_neighbours (number_order key) (number_order_total key) sorted up

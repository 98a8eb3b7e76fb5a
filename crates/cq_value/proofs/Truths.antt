-- Laws on truths and on tests of numbers, which all crates share.
use Rattle.std.proofs.Common.{◌≡◌, ◌≤◌, ◌<◌, ℕ, Bool, true, false, not, ◌&&◌, ◌||◌, nat_eq, nat_le, nat_lt, ◌⊎◌, inl, inr, refl, ap, arith}

-- ---- one truth

pub two_ways : (b : Bool) → (b ≡ true) ⊎ (b ≡ false)
two_ways true = inl refl
two_ways false = inr refl

pub not_true : (b : Bool) → not b ≡ true → b ≡ false
not_true true h = cc
not_true false h = refl

-- ---- both of two

pub and_both : (a b : Bool) → (a && b) ≡ true → (a ≡ true) × (b ≡ true)
and_both true b h = (refl, h)
and_both false b h = cc

pub and_left : (a b : Bool) → (a && b) ≡ true → a ≡ true
and_left a b h = (and_both a b h).0

pub and_right : (a b : Bool) → (a && b) ≡ true → b ≡ true
and_right a b h = (and_both a b h).1

pub both_true : (a b : Bool) → a ≡ true → b ≡ true → (a && b) ≡ true
both_true a b e f = rw e f

pub left_false : (a b : Bool) → a ≡ false → (a && b) ≡ false
left_false a b e = rw e

pub right_false : (a b : Bool) → b ≡ false → (a && b) ≡ false
right_false true b h = h
right_false false b h = refl

-- ---- one of two

pub or_left : (a b : Bool) → a ≡ true → (a || b) ≡ true
or_left a b e = ap (λ (c : Bool). c || b) e

pub or_right : (a b : Bool) → b ≡ true → (a || b) ≡ true
or_right true b h = refl
or_right false b h = h

pub or_either : (a b : Bool) → (a || b) ≡ true → (a ≡ true) ⊎ (b ≡ true)
or_either true b h = inl refl
or_either false b h = inr h

pub or_neither : (a b : Bool) → (a || b) ≡ false → (a ≡ false) × (b ≡ false)
or_neither true b e = cc
or_neither false b e = (refl, e)

pub or_true : (b : Bool) → (b || true) ≡ true
or_true true = refl
or_true false = refl

pub or_false : (a : Bool) → (a || false) ≡ a
or_false true = refl
or_false false = refl

pub or_apart : (a b d : Bool) → ((a || b) || d) ≡ (a || (b || d))
or_apart true b d = refl
or_apart false b d = refl

-- ---- numbers

pub same_number : (a b : ℕ) → nat_eq a b ≡ true → a ≡ b
same_number a b h = grind (arith, h)

pub nat_eq_itself : (n : ℕ) → nat_eq n n ≡ true
nat_eq_itself n = grind arith

pub is_below : (m n : ℕ) → nat_lt m n ≡ true → m < n
is_below m n h = grind arith

pub is_at_most : (m n : ℕ) → nat_le m n ≡ true → m ≤ n
is_at_most m n h = grind (arith, h)

pub below_or_not : (x m : ℕ) → ((nat_lt x m ≡ true) × (x < m)) ⊎ ((nat_lt x m ≡ false) × (m ≤ x))
below_or_not x m = elim (two_ways (nat_lt x m)) [ inl y ↦ inl (y, grind arith) | inr n ↦ inr (n, grind arith) ]

-- Literals are within their widths.
use Rattle.std.proofs.Common.{◌≡◌, ℕ, pos, zero, suc, ◌+◌, ◌-◌, ◌/◌, ◌^◌, ◌<◌, ◌≤◌, true, false, cond, List, refl, sym, ap, subst, arith, add-one}
use Rattle.std.specs.Prelude.{nat_eq, unsigned_abs, neg_ℤ}
use Rattle.std.proofs.lemmas.Nat.{pow-add}
use Rattle.cq_grammar.specs.declared.expr.AddOperator.{AddOperator}
use Rattle.cq_grammar.specs.declared.expr.AddOperator.TheVariants as add
use Rattle.cq_meaning.specs.Widths.{digits_in}
use Rattle.cq_reading.specs.Widths.{literal_width}
use Rattle.cq_reading.specs.Rules.{number, signed_number, quoted}
use Rattle.cq_reading_laws.specs.Bounds.{Stands}

twice : (d : ℕ) → 2 ^ suc d ≡ 2 ^ d + 2 ^ d
twice d = subst (λ k. 2 ^ k ≡ 2 ^ d + 2 ^ d) (add-one d) (omega (arith, pow-add 2 d 1))

half_above : (n d : ℕ) → n / 2 < 2 ^ d → n < 2 ^ suc d
half_above n d h = omega (arith, h, twice d)

half_below : (n d : ℕ) → n < 2 ^ suc d → n / 2 < 2 ^ d
half_below n d h = omega (arith, h, twice d)

digits_above : (most n : ℕ) → n < 2 ^ most → n < 2 ^ digits_in most n
digits_above zero n h = h
digits_above (suc most) n h =
    elim (nat_eq n 0) as (λ b. nat_eq n 0 ≡ b → n < 2 ^ cond b 0 (suc (digits_in most (n / 2)))) [
      | true ↦ (λ e. grind (arith, e))
      | false ↦ (λ e. half_above n (digits_in most (n / 2)) (digits_above most (n / 2) (half_below n most h)))
    ] refl

-- no more than are asked for
digits_few : (most n : ℕ) → digits_in most n ≤ most
digits_few zero n = omega arith
digits_few (suc most) n = elim (nat_eq n 0) as (λ b. cond b 0 (suc (digits_in most (n / 2))) ≤ suc most) [
  | true ↦ omega arith
  | false ↦ omega (arith, digits_few most (n / 2))
]

-- no more are found where more are asked for
digits_same : (big most n : ℕ) → most ≤ big → n < 2 ^ most → digits_in big n ≡ digits_in most n
digits_same zero zero n l h = refl
digits_same zero (suc most) n l h = absurd (omega (arith, l))
digits_same (suc big) zero n l h = elim (nat_eq n 0) as (λ b. nat_eq n 0 ≡ b → cond b 0 (suc (digits_in big (n / 2))) ≡ 0) [
  | true ↦ (λ e. refl)
  | false ↦ (λ e. absurd (grind (arith, e, h)))
] refl
digits_same (suc big) (suc most) n l h = elim (nat_eq n 0) as (λ b. cond b 0 (suc (digits_in big (n / 2))) ≡ cond b 0 (suc (digits_in most (n / 2)))) [
  | true ↦ refl
  | false ↦ ap suc (digits_same big most (n / 2) (omega (arith, l)) (half_below n most h))
]

below : (n : ℕ) → n < 2 ^ 64 → n ≤ 2 ^ digits_in 128 n
below n h = let k = digits_above 64 n h in let e = digits_same 128 64 n (omega arith) h in subst (λ d. n ≤ 2 ^ d) (sym e) (omega (arith, k))

within : (n : ℕ) → n < 2 ^ 64 → digits_in 128 n ≤ literal_width n - 1
within n h = let e = digits_same 128 64 n (omega arith) h in omega (arith, e)

narrow : (n : ℕ) → literal_width n ≤ 127
narrow n = let k = digits_few 64 n in omega (arith, k)

pub stands_number : (ks : List ℕ) (m n : ℕ) → n < 2 ^ 64 → Stands ks m (number n)
stands_number ks m n h = record { expression = below n h; condition = tt; within = within n h; fits = narrow n; some = λ e. omega arith }

abs_negative : (n : ℕ) → unsigned_abs (neg_ℤ (pos n)) ≡ n
abs_negative n = grind arith

pub stands_signed : (ks : List ℕ) (m n : ℕ) (sign : AddOperator) → n < 2 ^ 64 → Stands ks m (signed_number sign n)
stands_signed ks m n add.Plus h = stands_number ks m n h
stands_signed ks m n add.Minus h = record {
  expression = subst (λ k. k ≤ 2 ^ digits_in 128 k) (sym (abs_negative n)) (below n h);
  condition = tt;
  within = subst (λ k. digits_in 128 k ≤ literal_width n - 1) (sym (abs_negative n)) (within n h);
  fits = narrow n;
  some = λ e. omega arith;
}

pub stands_quoted : (ks : List ℕ) (m : ℕ) (text : List ℕ) → Stands ks m (quoted text)
stands_quoted ks m text = record { expression = tt; condition = tt; within = omega arith; fits = omega arith; some = λ e. absurd (grind (arith, e)) }

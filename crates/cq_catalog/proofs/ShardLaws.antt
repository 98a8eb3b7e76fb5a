-- The range that holds a token is that of the shard which its height, divided by the length of a range, gives.
use Rattle.std.proofs.Common.{◌≡◌, ℕ, zero, suc, ◌+◌, ◌*◌, ◌/◌, ◌<◌, ◌≤◌, ◌^◌, ℤ, pos, negsuc, ◌-ℤ◌, ◌+ℤ◌, ◌≤ℤ◌, length, slice_index_or, FitsSigned, refl, sym, ap, subst, ◌∙◌, arith}
use Rattle.std.specs.Int.{w32}
use Rattle.std.proofs.lemmas.Int.{ints}
use native.Mathlib.Decide.{dec_lt}
use Rattle.cq_value.specs.Placement.{height, shard_index}
use Rattle.cq_catalog.specs.Ranges.{end_of, ends_from, ends, index_in, first_above, Holds}
use Rattle.cq_catalog.proofs.RangeLaws.{is_part, wide, only, last_end, other_end}

pub ends_from_length : (count i n : ℕ) → length (ends_from count i n) ≡ n
ends_from_length count i zero = refl
ends_from_length count i (suc n) = ap suc (ends_from_length count (i + 1) n)

end_at : (count j n i : ℕ) → i < n → slice_index_or (ends_from count j n) i (pos 0) ≡ end_of count (j + i)
end_at count j zero i h = absurd (omega arith)
end_at count j (suc n) zero h = ap (end_of count) (omega arith)
end_at count j (suc n) (suc i) h = end_at count (j + 1) n i (omega arith) ∙ ap (end_of count) (omega arith)

first_after : (low : ℤ) (count j n i : ℕ) → i + 1 < n → first_above low (ends_from count j n) (suc i) ≡ end_of count (j + i) +ℤ pos 1
first_after low count j zero i h = absurd (omega arith)
first_after low count j (suc zero) i h = absurd (omega arith)
first_after low count j (suc (suc n)) zero h = ap (λ k. end_of count k +ℤ pos 1) (omega arith)
first_after low count j (suc (suc n)) (suc i) h = first_after (end_of count j) count (j + 1) (suc n) i (omega arith) ∙ ap (λ k. end_of count k +ℤ pos 1) (omega arith)

from_height : (t : ℤ) → FitsSigned w32 t → t ≡ pos (height t) -ℤ pos 2147483648
from_height (pos n) f = omega (arith, ints)
from_height (negsuc n) f = omega (arith, ints)

height_below : (t : ℤ) → FitsSigned w32 t → height t < 2 ^ 32
height_below (pos n) f = omega (arith, ints)
height_below (negsuc n) f = omega (arith, ints)

low_side : (count i : ℕ) (t : ℤ) → FitsSigned w32 t → i < count → 2 ^ 32 / count * i ≤ height t → first_above (negsuc 2147483648) (ends count) i ≤ℤ t
low_side count zero t f h le = by count h
  where
    by : (n : ℕ) → zero < n → first_above (negsuc 2147483648) (ends n) zero ≤ℤ t
    by zero h = absurd (omega arith)
    by (suc n) h = omega (arith, ints)
low_side count (suc i) t f h le =
    let e : first_above (negsuc 2147483648) (ends count) (suc i) ≡ end_of count i +ℤ pos 1 = first_after (negsuc 2147483648) count 0 count i (omega arith) ∙ ap (λ k. end_of count k +ℤ pos 1) (omega arith) in
    let g : end_of count i ≡ pos (2 ^ 32 / count * (i + 1)) -ℤ pos 2147483649 = other_end count i (omega arith) in
    let s : t ≡ pos (height t) -ℤ pos 2147483648 = from_height t f in
    let l : 2 ^ 32 / count * (i + 1) ≤ height t = subst (λ k. 2 ^ 32 / count * k ≤ height t) (omega arith) le in
    rw (e, g) (omega (arith, ints))

quotient_low : (h w : ℕ) → w * (h / w) ≤ h
quotient_low h w = grind arith

quotient_high : (h w : ℕ) → 0 < w → h < w * (h / w + 1)
quotient_high h w some = grind arith

less_product : (w a b : ℕ) → a ≤ b → w * a ≤ w * b
less_product w a b h = grind arith

holds_at : (count : ℕ) (t : ℤ) → 0 < count → count ≤ 2 ^ 32 → FitsSigned w32 t → Holds (ends count) (shard_index count t) t
holds_at count t some few f =
    let w : 0 < 2 ^ 32 / count = wide count some few in
    let i : shard_index count t < count = omega arith in
    let l : 2 ^ 32 / count * shard_index count t ≤ 2 ^ 32 / count * (height t / (2 ^ 32 / count)) = less_product (2 ^ 32 / count) (shard_index count t) (height t / (2 ^ 32 / count)) (omega arith) in
    let q : 2 ^ 32 / count * (height t / (2 ^ 32 / count)) ≤ height t = quotient_low (height t) (2 ^ 32 / count) in
    let e : slice_index_or (ends count) (shard_index count t) (pos 0) ≡ end_of count (shard_index count t) = end_at count 0 count (shard_index count t) i ∙ ap (end_of count) (omega arith) in (
      subst (λ n. shard_index count t < n) (sym (ends_from_length count 0 count)) i,
      low_side count (shard_index count t) t f i (omega arith),
      rw e (high_side (dec_lt (shard_index count t + 1) count) w i),
    )
  where
    high_side : Dec (shard_index count t + 1 < count) → 0 < 2 ^ 32 / count → shard_index count t < count → t ≤ℤ end_of count (shard_index count t)
    high_side (yes k) w i =
        let e : shard_index count t ≡ height t / (2 ^ 32 / count) = omega arith in
        let h : height t < 2 ^ 32 / count * (shard_index count t + 1) = subst (λ n. height t < 2 ^ 32 / count * (n + 1)) (sym e) (quotient_high (height t) (2 ^ 32 / count) w) in
        let s : t ≡ pos (height t) -ℤ pos 2147483648 = from_height t f in
        let g : end_of count (shard_index count t) ≡ pos (2 ^ 32 / count * (shard_index count t + 1)) -ℤ pos 2147483649 = other_end count (shard_index count t) k in
        rw g (omega (arith, ints))
    high_side (no k) w i = rw (last_end count (shard_index count t) (omega arith)) (omega (arith, ints))

-- the range that holds a token has this index
pub index_is : (count : ℕ) (t : ℤ) → 0 < count → count ≤ 2 ^ 32 → FitsSigned w32 t → index_in (ends count) t ≡ shard_index count t
index_is count t some few f = sym (only (negsuc 2147483648) (ends count) t (shard_index count t) (is_part count some few) (holds_at count t some few f))

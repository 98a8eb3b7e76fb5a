-- The ranges of the shards part all tokens.
use Rattle.std.proofs.Common.{◌≡◌, ℕ, zero, suc, ◌+◌, ◌*◌, ◌/◌, ◌<◌, ◌≤◌, ◌^◌, ℤ, pos, negsuc, ◌-ℤ◌, ◌≤ℤ◌, ◌<ℤ◌, int_lt, List, [], ◌∷◌, ◌++◌, length, get_or, Bool, true, false, cond, FitsSigned, refl, sym, ap, ◌∙◌, arith, add-zero}
use Rattle.std.specs.Int.{w32}
use Rattle.std.specs.List.Sorted.{IsPartitionPoint, IsPartitionedBy}
use Rattle.std.proofs.lemmas.Int.{ints}
use Rattle.std.proofs.Math.Nat.{mul-le-mul_left}
use native.Mathlib.Decide.{dec_lt}
use Rattle.std.proofs.Math.Numerals.{one-add}
use Rattle.cq_catalog.specs.Ranges.{end_of, ends_from, ends, index_in, IsPartAbove, IsPart, first_above, HoldsAbove, PartTokens}

-- the first tokens past shards are at most 2 ^ 32
pub fits : (n count index : ℕ) → 0 < count → index < count → n / count * (index + 1) ≤ n
fits n count index some within =
    let m : n / count * (index + 1) ≤ n / count * count = mul-le-mul_left (n / count) (omega arith) in
    grind arith

pub last_end : (count index : ℕ) → index + 1 ≡ count → end_of count index ≡ pos 2147483647
last_end count index e = grind arith

pub other_end : (count index : ℕ) → index + 1 < count → end_of count index ≡ pos (2 ^ 32 / count * (index + 1)) -ℤ pos 2147483649
other_end count index h = grind arith

pub from_push : (count i n : ℕ) → ends_from count i (suc n) ≡ ends_from count i n ++ end_of count (i + n) ∷ []
from_push count i zero = ap (λ k. end_of count k ∷ []) (sym (add-zero i))
from_push count i (suc n) = ap (λ es. end_of count i ∷ es) (from_push count (i + 1) n ∙ ap (λ k. ends_from count (i + 1) n ++ end_of count k ∷ []) (omega arith))

-- the law

rises : (w i : ℕ) → 0 < w → (pos (w * (i + 1)) -ℤ pos 2147483649) <ℤ (pos (w * (i + 1 + 1)) -ℤ pos 2147483649)
rises w i some =
    let e : w * (i + 1 + 1) ≡ w * (i + 1) + w = grind arith in
    omega (arith, ints)

past_low : (w i n : ℕ) → 0 < w → w * (i + 1) ≤ n → pos (w * i) <ℤ pos n
past_low w i n some h =
    let e : w * (i + 1) ≡ w * i + w = grind arith in
    omega (arith, ints)

pub wide : (count : ℕ) → 0 < count → count ≤ 2 ^ 32 → 0 < 2 ^ 32 / count
wide count some few = grind arith

next_end : (count i : ℕ) → 0 < 2 ^ 32 / count → i + 1 < count → end_of count i <ℤ end_of count (i + 1)
next_end count i some h = rw (other_end count i h) (next_case (dec_lt (i + 1 + 1) count))
  where
    next_case : Dec (i + 1 + 1 < count) → (pos (2 ^ 32 / count * (i + 1)) -ℤ pos 2147483649) <ℤ end_of count (i + 1)
    next_case (yes k) = rw (other_end count (i + 1) k) (rises (2 ^ 32 / count) i some)
    next_case (no k) =
        let f : 2 ^ 32 / count * (i + 1 + 1) ≤ 2 ^ 32 = fits (2 ^ 32) count (i + 1) (omega arith) (omega arith) in
        let p : pos (2 ^ 32 / count * (i + 1)) <ℤ pos (2 ^ 32) = past_low (2 ^ 32 / count) (i + 1) (2 ^ 32) some f in
        rw (last_end count (i + 1) (omega arith)) (omega (arith, ints))

part_from : (count i n : ℕ) → 0 < 2 ^ 32 / count → i + 1 + n ≡ count → IsPartAbove (end_of count i) (ends_from count (i + 1) n)
part_from count i zero some e = last_end count i (omega arith)
part_from count i (suc n) some e = (next_end count i some (omega arith), part_from count (i + 1) n some (omega arith))

first_end : (count : ℕ) → 0 < count → 0 < 2 ^ 32 / count → negsuc 2147483648 <ℤ end_of count 0
first_end count h some = first_case (dec_lt (0 + 1) count)
  where
    first_case : Dec (0 + 1 < count) → negsuc 2147483648 <ℤ end_of count 0
    first_case (yes k) = rw (other_end count 0 k) (omega (arith, ints))
    first_case (no k) = rw (last_end count 0 (omega arith)) (omega (arith, ints))

-- the ranges of any number of shards part all tokens
pub is_part : (count : ℕ) → 0 < count → count ≤ 2 ^ 32 → IsPart (ends count)
is_part zero h few = absurd (omega arith)
is_part (suc n) h few = let some : 0 < 2 ^ 32 / suc n = wide (suc n) h few in (first_end (suc n) h some, part_from (suc n) 0 n some (omega arith))

pub index_from_partition : (t : ℤ) (es : List ℤ) (i : ℕ) → i ≤ length es → IsPartitionPoint (λ e. int_lt e t ≡ true) (λ e. int_lt e t ≡ false) es i → i ≡ index_in es t
index_from_partition t [] i le h = omega arith
index_from_partition t (e ∷ es) zero le h = rw (h.1 0 e (omega arith) (omega arith))
index_from_partition t (e ∷ es) (suc i) le h =
    let rest : i ≡ index_in es t = index_from_partition t es i (omega arith)
    ((λ k d lo hi. h.0 (suc k) d (omega arith) (omega arith)), (λ k d lo hi. h.1 (suc k) d (omega arith) (omega arith))) in
    rw (h.0 0 e (omega arith) (omega arith)) (omega arith)

above : (low : ℤ) (es : List ℤ) → IsPartAbove low es → (j : ℕ) (d : ℤ) → j < length es → low <ℤ get_or es j d
above low [] p j d h = absurd (omega arith)
above low (e ∷ es) p zero d h = p.0
above low (e ∷ es) p (suc j) d h = let a : e <ℤ get_or es j d = above e es p.1 j d (omega arith) in let b : low <ℤ e = p.0 in omega (arith, ints)

ascends : (low : ℤ) (es : List ℤ) → IsPartAbove low es → (i j : ℕ) (d : ℤ) → i ≤ j → j < length es → get_or es i d ≤ℤ get_or es j d
ascends low [] p i j d le h = absurd (omega arith)
ascends low (e ∷ es) p zero zero d le h = omega (arith, ints)
ascends low (e ∷ es) p zero (suc j) d le h = let a : e <ℤ get_or es j d = above e es p.1 j d (omega arith) in omega (arith, ints)
ascends low (e ∷ es) p (suc i) zero d le h = absurd (omega arith)
ascends low (e ∷ es) p (suc i) (suc j) d le h = ascends e es p.1 i j d (omega arith) (omega arith)

lower : (a b t : ℤ) → a ≤ℤ b → int_lt b t ≡ true → int_lt a t ≡ true
lower a b t le lt = grind (arith, ints)

pub part_partitioned : (t : ℤ) (es : List ℤ) → IsPart es → IsPartitionedBy (λ e. int_lt e t) es
part_partitioned t es h i j d le within lt = lower (get_or es i d) (get_or es j d) t (ascends _ es h i j d le within) lt

passes : (a b : ℤ) → a <ℤ b → int_lt a b ≡ true
passes a b h = grind (arith, ints)

fails : (a b : ℤ) → b ≤ℤ a → int_lt a b ≡ false
fails a b h = grind (arith, ints)

passed : (a b : ℤ) → int_lt a b ≡ true → a <ℤ b
passed a b h = grind (arith, ints)

failed : (a b : ℤ) → int_lt a b ≡ false → b ≤ℤ a
failed a b h = grind (arith, ints)

-- the range at the index holds the token, and no other does
pub holds : (low : ℤ) (es : List ℤ) (t : ℤ) → IsPartAbove low es → low <ℤ t → t ≤ℤ pos 2147483647 → HoldsAbove low es (index_in es t) t
holds low [] t p lo hi = let q : low ≡ pos 2147483647 = p in absurd (omega (arith, ints))
holds low (e ∷ es) t p lo hi = at_end (λ more. holds e es t p.1 more hi) (int_lt e t) refl
  where
    at_end : (e <ℤ t → HoldsAbove e es (index_in es t) t) → (b : Bool) → int_lt e t ≡ b → HoldsAbove low (e ∷ es) (cond b (1 + index_in es t) 0) t
    at_end rest true is = let r : HoldsAbove e es (index_in es t) t = rest (passed e t is) in rw one-add (omega arith, r.1, r.2)
    at_end rest false is = (omega arith, omega (arith, ints), failed e t is)

first_high : (low : ℤ) (es : List ℤ) (i : ℕ) → IsPartAbove low es → i < length es → low <ℤ first_above low es i
first_high low [] i p h = absurd (omega arith)
first_high low (e ∷ es) zero p h = omega (arith, ints)
first_high low (e ∷ es) (suc i) p h = let a : e <ℤ first_above e es i = first_high e es i p.1 (omega arith) in let b : low <ℤ e = p.0 in omega (arith, ints)

pub only : (low : ℤ) (es : List ℤ) (t : ℤ) (i : ℕ) → IsPartAbove low es → HoldsAbove low es i t → i ≡ index_in es t
only low [] t i p h = absurd (omega arith)
only low (e ∷ es) t zero p h = rw (fails e t h.2)
only low (e ∷ es) t (suc i) p h =
    let f : e <ℤ first_above e es i = first_high e es i p.1 (omega arith) in
    let g : first_above e es i ≤ℤ t = h.1 in
    let r : i ≡ index_in es t = only e es t i p.1 (omega arith, h.1, h.2) in
    rw (passes e t (omega (arith, ints))) (omega arith)

pub index_below : (t : ℤ) (es : List ℤ) → IsPart es → FitsSigned w32 t → index_in es t < length es
index_below t es p f = (holds (negsuc 2147483648) es t p (omega (arith, ints)) (omega (arith, ints))).0

-- the index of a token among some shards is that of one of them
pub index_within : (count : ℕ) (t : ℤ) → 0 < count → count ≤ 2 ^ 32 → FitsSigned w32 t → index_in (ends count) t < length (ends count)
index_within count t some few f = (holds (negsuc 2147483648) (ends count) t (is_part count some few) (omega (arith, ints)) (omega (arith, ints))).0

pub parts : (es : List ℤ) → IsPart es → PartTokens es
parts es p t f = (index_in es t, holds (negsuc 2147483648) es t p (omega (arith, ints)) (omega (arith, ints)), λ j h. only (negsuc 2147483648) es t j p h)

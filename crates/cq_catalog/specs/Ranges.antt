-- The ranges of tokens of a table's shards, by their last tokens. A token is from -2 ^ 31 to 2 ^ 31 - 1.
use Rattle.std.specs.Prelude.{◌≡◌, ℕ, zero, suc, ◌+◌, ◌*◌, ◌/◌, ◌<◌, ◌^◌, ℤ, pos, negsuc, ◌-ℤ◌, ◌+ℤ◌, ◌≤ℤ◌, ◌<ℤ◌, int_lt, List, [], ◌∷◌, length, slice_index_or, if◌then◌else◌, nat_eq, FitsSigned}
use Rattle.std.specs.Int.{w32}
use Rattle.std.specs.List.{prefix_len}

-- the last token of a shard among `count`: each range is 2 ^ 32 / count tokens long, and the last goes on to the greatest token
abbrev pub end_of : ℕ → ℕ → ℤ
end_of count index = if nat_eq (index + 1) count then pos 2147483647 else pos (2 ^ 32 / count * (index + 1)) -ℤ pos 2147483649

abbrev pub ends_from : ℕ → ℕ → ℕ → List ℤ
ends_from count index zero = []
ends_from count index (suc n) = end_of count index ∷ ends_from count (index + 1) n

-- the last token of each of `count` shards
abbrev pub ends : ℕ → List ℤ
ends count = ends_from count 0 count

-- how many shards end before the token
abbrev pub index_in : List ℤ → ℤ → ℕ
index_in es token = prefix_len (λ e. int_lt e token) es

-- ends that ascend from above a bound up to the last token
abbrev pub IsPartAbove : ℤ → List ℤ → Type 0
IsPartAbove low [] = low ≡ pos 2147483647
IsPartAbove low (e ∷ es) = (low <ℤ e) × IsPartAbove e es

-- the ranges with these ends part all tokens: they ascend, leave no gap, and end with the greatest token
abbrev pub IsPart : List ℤ → Type 0
IsPart es = IsPartAbove (negsuc 2147483648) es

-- the first token of a shard, where the first shard begins above `low`
abbrev pub first_above : ℤ → List ℤ → ℕ → ℤ
first_above low [] i = low +ℤ pos 1
first_above low (e ∷ es) zero = low +ℤ pos 1
first_above low (e ∷ es) (suc i) = first_above e es i

abbrev pub HoldsAbove : ℤ → List ℤ → ℕ → ℤ → Type 0
HoldsAbove low es i token = (i < length es) × (first_above low es i ≤ℤ token) × (token ≤ℤ slice_index_or es i (pos 0))

-- the range of the shard holds the token
abbrev pub Holds : List ℤ → ℕ → ℤ → Type 0
Holds es i token = HoldsAbove (negsuc 2147483648) es i token

-- each token is in exactly one of the ranges
abbrev pub PartTokens : List ℤ → Type 0
PartTokens es = (token : ℤ) → FitsSigned w32 token → (i : ℕ) × Holds es i token × ((j : ℕ) → Holds es j token → j ≡ i)

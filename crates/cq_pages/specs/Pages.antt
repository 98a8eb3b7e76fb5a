-- The rows of a table in pages, in order of ids.
use Rattle.std.specs.Prelude.{◌≡◌, ◌<◌, ◌≤◌, ◌+◌, ℕ, Bool, List, [], ◌∷◌, ◌++◌, filter, length, take, drop, nat_eq, slice_index_or}
use Rattle.std.specs.List.{AllByRecursion, flat_map}
use Rattle.cq_value.specs.declared.value.Value.{Value}
use Rattle.cq_value.specs.Changes.{has_id}
use Rattle.cq_value.specs.Tables.{Pair, IsAscending, with_new_row, without_row}

-- the pages' pairs, one page after the other
abbrev pub pairs_of : List (List Pair) → List Pair
pairs_of pages = flat_map (λ page. page) pages

-- a page is not empty, and has at most 128 rows
abbrev pub IsPage : List Pair → Type 0
IsPage page = (0 < length page) × (length page ≤ 128)

-- ids ascend
pub record Ascends (pairs : List Pair) : Type 0 where
  pub next : ℕ
  pub up : IsAscending pairs next

-- the ids of all pages ascend, and each page is one
pub record AreLaid (pages : List (List Pair)) : Type 0 where
  pub ids : Ascends (pairs_of pages)
  pub full : AllByRecursion IsPage pages

-- an id stands in the page at a place, if it is there: the ids of the pages before are below it, and those of the pages behind above it
pub record Stands (pages : List (List Pair)) (id place : ℕ) : Type 0 where
  pub below : AllByRecursion (λ p. p.0 < id) (pairs_of (take place pages))
  pub above : AllByRecursion (λ p. id < p.0) (pairs_of (drop (place + 1) pages))

-- where the ids below one end
pub record Splits (pairs : List Pair) (id : ℕ) (place : ℕ) : Type 0 where
  pub within : place ≤ length pairs
  pub below : (k : ℕ) (d : Pair) → k < place → (slice_index_or pairs k d).0 < id
  pub above : (k : ℕ) (d : Pair) → place ≤ k → k < length pairs → id ≤ (slice_index_or pairs k d).0

-- the rows with an id
abbrev pub named : ℕ → List Pair → List Pair
named id pairs = filter (λ (p : Pair). nat_eq p.0 id) pairs

-- whether an id is there
abbrev pub has : List Pair → ℕ → Bool
has pairs id = has_id (record { next = 0; pairs = pairs }) id

-- the pairs with another row in the place of an id's
abbrev pub with_new : List Pair → ℕ → List Value → List Pair
with_new pairs id row = (with_new_row (record { next = 0; pairs = pairs }) id row).pairs

-- the pairs without an id's
abbrev pub without : List Pair → ℕ → List Pair
without pairs id = (without_row (record { next = 0; pairs = pairs }) id).pairs

-- pairs end with others, and the ids of those before are below one
pub record EndsWith (pairs : List Pair) (id : ℕ) (rest : List Pair) : Type 0 where
  pub before : List Pair
  pub whole : pairs ≡ before ++ rest
  pub below : AllByRecursion (λ p. p.0 < id) before

-- this pair stands at a place, from 0
abbrev pub StandsAt : List Pair → ℕ → Pair → Type 0
StandsAt pairs place p = (place < length pairs) × ((d : Pair) → slice_index_or pairs place d ≡ p)

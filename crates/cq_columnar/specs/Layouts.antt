-- How rows lie in chunks, and what changes make of them.
use Rattle.std.specs.Prelude.{◌+◌, ℕ, List, [], ◌∷◌, ◌++◌, filter, length, map, nat_lt, if◌then◌else◌}
use Rattle.std.specs.List.{AllByRecursion}
use Rattle.cq_value.specs.declared.change.Change.{Change}
use Rattle.cq_value.specs.declared.change.Change.TheVariants.{Add, Put, Drop}
use Rattle.cq_value.specs.declared.value.Value.{Value}
use Rattle.cq_value.specs.Tables.{Pair, Table, IsAscending}
use Rattle.cq_pages.specs.Pages.{pairs_of, with_new, without}
use Rattle.cq_columnar.specs.Columns.{IsFull}

-- ids ascend over all chunks, and each has its rows
pub record AreLaid (next : ℕ) (chunks : List (List Pair)) : Type 0 where
  pub up : IsAscending (pairs_of chunks) next
  pub full : AllByRecursion IsFull chunks

-- the table of a next id and of chunks
abbrev pub table_at : ℕ → List (List Pair) → Table
table_at next chunks = record { next = next; pairs = pairs_of chunks }

-- a next id, and rows chunk by chunk
pub record Layout : Type 0 where
  pub next : ℕ
  pub chunks : List (List Pair)

abbrev pub layout_at : ℕ → List (List Pair) → Layout
layout_at next chunks = record { next = next; chunks = chunks }

-- the table of a layout
abbrev pub table_of : Layout → Table
table_of l = table_at l.next l.chunks

abbrev pub empty_layout : Layout
empty_layout = layout_at 0 []

-- a row that is added comes into the last chunk, or into a new one where that has 1,000 rows
abbrev pub added : List (List Pair) → Pair → List (List Pair)
added [] p = (p ∷ []) ∷ []
added (chunk ∷ []) p = if nat_lt (length chunk) 1000 then (chunk ++ p ∷ []) ∷ [] else chunk ∷ (p ∷ []) ∷ []
added (chunk ∷ next ∷ chunks) p = chunk ∷ added (next ∷ chunks) p

-- a row that is put stays in its chunk
abbrev pub put_in : List (List Pair) → ℕ → List Value → List (List Pair)
put_in chunks id row = map (λ chunk. with_new chunk id row) chunks

-- a chunk goes with its last row
abbrev pub dropped : List (List Pair) → ℕ → List (List Pair)
dropped chunks id = filter (λ chunk. nat_lt 0 (length chunk)) (map (λ chunk. without chunk id) chunks)

-- the layout after one change
abbrev pub relaid : Layout → Change → Layout
relaid l (Add id row) = layout_at (id + 1) (added l.chunks (id, row))
relaid l (Put id row) = layout_at l.next (put_in l.chunks id row)
relaid l (Drop id) = layout_at l.next (dropped l.chunks id)

-- the layout after all of them
abbrev pub laid_after : Layout → List Change → Layout
laid_after l [] = l
laid_after l (c ∷ cs) = laid_after (relaid l c) cs

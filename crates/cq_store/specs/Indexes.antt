-- An index of rows by their values in chosen columns: ids in buckets, each row's in the bucket of a number that its values make.
use Rattle.std.specs.Prelude.{◌≡◌, ◌<◌, ◌+◌, ◌*◌, ◌%◌, ◌^◌, ⊤, ℕ, Bool, true, List, [], ◌∷◌, ◌++◌, fold, length, map, nat_eq, slice_index_or, slice_set}
use Rattle.std.specs.List.{All, AllByRecursion, list_any}
use Rattle.std.specs.Int.{w32, cast_unsigned}
use Rattle.cq_value.specs.declared.value.Value.{Value}
use Rattle.cq_value.specs.declared.value.Value.TheVariants.{Null}
use Rattle.cq_value.specs.Placement.{token_of}
use Rattle.cq_value.specs.declared.change.Change.{Change}
use Rattle.cq_value.specs.Changes.{applied}
use Rattle.cq_value.specs.Tables.{Pair, Table, IsAscending}
use Rattle.cq_store.specs.declared.index.Index.{Index}
use Rattle.cq_store.specs.declared.indexes.Indexes.{Indexes}

-- the number of the values up to one, from the number of those before it
abbrev pub mixed : ℕ → Value → ℕ
mixed number value = (1000003 * number + cast_unsigned w32 (token_of value)) % 2 ^ 32

-- the number that a row's values in the columns make, NULL past the row's end
abbrev pub row_number : List ℕ → List Value → ℕ
row_number columns row = fold (λ number column. mixed number (slice_index_or row column Null)) 0 columns

-- the number that values which are looked for make
abbrev pub wanted_number : List (ℕ × Value) → ℕ
wanted_number wanted = fold (λ number (p : ℕ × Value). mixed number p.1) 0 wanted

-- the ids in the bucket of a number
abbrev pub bucket : List (List ℕ) → ℕ → List ℕ
bucket buckets number = slice_index_or buckets (number % length buckets) []

abbrev pub is_in : List ℕ → ℕ → Bool
is_in ids id = list_any (λ n. nat_eq n id) ids

-- ids ascend, and all are below a bound
abbrev pub Rises : List ℕ → ℕ → Type 0
Rises [] upto = ⊤
Rises (id ∷ ids) upto = (id < upto) × AllByRecursion (λ n. id < n) ids × Rises ids upto

-- each row whose id is below the index's bound stands in the bucket of its values; ids of rows that are gone may stand there too
pub record Holds (index : Index) (pairs : List Pair) : Type 0 where
  pub named : All (λ (p : Pair). p.0 < index.upto → is_in (bucket index.buckets (row_number index.columns p.1)) p.0 ≡ true) pairs
  pub rises : All (λ ids. Rises ids index.upto) index.buckets

-- the index is one of the columns that the wanted values have, and its bound is above each row's id
pub record Covers (index : Index) (wanted : List (ℕ × Value)) (pairs : List Pair) : Type 0 where
  pub columns : index.columns ≡ map (λ (p : ℕ × Value). p.0) wanted
  pub some : 0 < length index.buckets
  pub all : All (λ (p : Pair). p.0 < index.upto) pairs

-- the index with one more id, in the bucket of the id's row
abbrev pub with_id : Index → ℕ → List Value → Index
with_id index id row = let place = row_number index.columns row % length index.buckets in
    record index { upto = id + 1; buckets = slice_set index.buckets place (slice_index_or index.buckets place [] ++ id ∷ []) }

-- what holds of one index before changes holds of another after them
abbrev pub Notes : Index → Index → List Change → Type 0
Notes before after changes = (t : Table) → Holds before t.pairs → Holds after (applied t changes).pairs

-- each of the indexes holds of the rows
pub record HoldAll (indexes : Indexes) (pairs : List Pair) : Type 0 where
  pub first : Holds indexes.first pairs
  pub second : Holds indexes.second pairs
  pub third : Holds indexes.third pairs

-- what all hold of before changes they hold of after them
abbrev pub NoteAll : Indexes → Indexes → List Change → Type 0
NoteAll before after changes = (t : Table) → HoldAll before t.pairs → HoldAll after (applied t changes).pairs

-- a page among all pairs, whose ids ascend and before which all ids are below a bound
pub record StandsIn (page : List Pair) (upto : ℕ) (before after : List Pair) : Type 0 where
  pub next : ℕ
  pub up : IsAscending (before ++ page ++ after) next
  pub below : AllByRecursion (λ (p : Pair). p.0 < upto) before

-- what held of all pairs before a page was gone through holds after it
abbrev pub GoesOn : Index → Index → List Pair → Type 0
GoesOn old new page = (before after : List Pair) → StandsIn page old.upto before after → Holds old (before ++ page ++ after) → Holds new (before ++ page ++ after)

-- the bound is then above the ids before the page and above those of its first rows
abbrev pub AllBelow : Index → Index → List Pair → List Pair → Type 0
AllBelow old new page done = (before after : List Pair) → StandsIn page old.upto before after → AllByRecursion (λ (p : Pair). p.0 < new.upto) (before ++ done)

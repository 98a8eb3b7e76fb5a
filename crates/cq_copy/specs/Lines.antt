-- Data in CSV without quotes: what the records are, said of its lines.
use Rattle.std.specs.Prelude.{ℕ, Bool, false, not, ◌&&◌, ◌||◌, ◌==◌, List, [], ◌∷◌}
use Rattle.std.specs.List.{slice_split}
use Rattle.cq_copy.specs.Texts.{fields_by}
use Rattle.cq_copy.specs.Records.{Record}

-- a byte that isn't a quote, 34
abbrev pub is_unquoted : ℕ → Bool
is_unquoted b = not (b == 34)

-- whether a byte order mark is in front
abbrev pub is_marked : List ℕ → Bool
is_marked [] = false
is_marked (a ∷ []) = false
is_marked (a ∷ b ∷ []) = false
is_marked (a ∷ b ∷ c ∷ bs) = (a == 0xEF && b == 0xBB) && c == 0xBF

-- a carriage return, 13, or a newline, 10, ends a line
abbrev pub ends : ℕ → Bool
ends b = b == 13 || b == 10

abbrev pub lines : List ℕ → List (List ℕ)
lines bytes = slice_split ends bytes

-- a line that isn't empty is a record, with commas, 44, between its fields
unfoldable pub records_in : List (List ℕ) → List Record
records_in [] = []
records_in ([] ∷ ls) = records_in ls
records_in ((b ∷ bs) ∷ ls) = fields_by 44 (b ∷ bs) ∷ records_in ls

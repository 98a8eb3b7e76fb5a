-- Rows in chunks, counted between two numbers.
use Rattle.std.specs.Prelude.{◌+◌, ◌-◌, ◌%◌, ℕ, zero, suc, ℤ, pos, negsuc, List, [], ◌∷◌, map, filter, length, sum_by, count_by, nat_lt, slice_index_or, if◌then◌else◌}
use Rattle.cq_value.specs.declared.change.Change.{Change}
use Rattle.cq_value.specs.declared.change.Change.TheVariants.{Add}
use Rattle.cq_value.specs.declared.value.Value.{Value}
use Rattle.cq_value.specs.declared.value.Value.TheVariants.{Null, Int}
use Rattle.cq_pages.specs.Pages.{pairs_of}
use Rattle.cq_columnar.specs.declared.counting.Counted.{Counted}
use Rattle.cq_columnar.specs.Columns.{lies, is_read}
use Rattle.cq_columnar.specs.Layouts.{Layout, empty_layout, laid_after}

-- the row of a number: it, and its last digit
abbrev pub row_of : ℕ → List Value
row_of i = Int (pos i) ∷ Int (pos (i % 10)) ∷ []

-- the rows of so many numbers behind this one
abbrev pub rows_behind : ℕ → ℕ → List Change
rows_behind i zero = []
rows_behind i (suc count) = Add i (row_of (i + 1)) ∷ rows_behind (i + 1) count

-- how the rows of 1, 2 and so on lie in chunks
abbrev pub layout_to : ℕ → Layout
layout_to count = laid_after empty_layout (rows_behind 0 count)

-- those whose number lies between two
abbrev pub rows_between : ℕ → ℕ → ℕ → List (List Value)
rows_between count least greatest = map (λ p. p.1) (filter (λ p. lies 0 (Int (pos least)) (Int (pos greatest)) p.1) (pairs_of (layout_to count).chunks))

-- the digit that a number is
abbrev pub digit_in : ℤ → ℕ
digit_in (pos d) = if nat_lt d 10 then d else 0
digit_in (negsuc d) = 0

abbrev pub digit_of : Value → ℕ
digit_of (Int number) = digit_in number
digit_of value = 0

-- the digit in a row's second column
abbrev pub digit : List Value → ℕ
digit row = digit_of (slice_index_or row 1 Null)

-- how many rows there are, the sum of their digits, and how many chunks may have such a row by their least and greatest number, and how many can't
unfoldable pub counted : ℕ → ℕ → ℕ → Counted
counted count least greatest =
    let chunks = (layout_to count).chunks in
    let read = count_by (is_read 0 (Int (pos least)) (Int (pos greatest))) chunks in
    record {
      rows = length (rows_between count least greatest);
      sum = sum_by digit (rows_between count least greatest);
      read = read;
      removed = length chunks - read;
    }

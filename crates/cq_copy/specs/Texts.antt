-- Data in the text format: its lines, the fields of a line, and the text for which a field stands (PostgreSQL, COPY, "Text Format").
use Rattle.std.specs.Prelude.{ℕ, Bool, not, ◌&&◌, ◌||◌, ◌==◌, if◌then◌else◌, List, [], ◌∷◌, Option, Some, None, option_map}
use Rattle.std.specs.List.{onto_first, slice_split}
use Rattle.std.specs.Char.{is_ascii, is_ascii_digit}
use Rattle.cq_copy.specs.declared.format.Format.{Format}
use Rattle.cq_copy.specs.declared.format.Format.TheVariants as format

abbrev pub is_newline : ℕ → Bool
is_newline b = b == 10

abbrev pub is_tab : ℕ → Bool
is_tab b = b == 9

-- a line ends with a newline; the last may end with the data
unfoldable pub lines : List ℕ → List (List ℕ)
lines [] = []
lines (b ∷ bs) = if is_newline b then [] ∷ lines bs else onto_first b (lines bs)

-- tabs part the fields of a line
abbrev pub fields : List ℕ → List (List ℕ)
fields line = slice_split is_tab line

-- the fields of a line with this byte between them
abbrev pub fields_by : ℕ → List ℕ → List (List ℕ)
fields_by separator line = slice_split (λ b. b == separator) line

-- those behind a field, where there are some
abbrev pub fields_left : ℕ → Option (List ℕ) → List (List ℕ)
fields_left separator None = []
fields_left separator (Some line) = fields_by separator line

-- the byte between the fields of a simple line: a tab, 9, or a comma, 44
abbrev pub separator : Format → ℕ
separator format.Text = 9
separator format.Csv = 44

-- what a backslash and this byte stand for: backspace, form feed, newline, carriage return, tab and vertical tab for b, f, n, r, t and v;
-- nothing for a digit and x; the byte for another
abbrev pub escaped : ℕ → Option ℕ
escaped b =
    if b == 98 then Some 8
    else (if b == 102 then Some 12
    else (if b == 110 then Some 10
    else (if b == 114 then Some 13
    else (if b == 116 then Some 9
    else (if b == 118 then Some 11
    else (if is_ascii_digit b || b == 120 then None
    else Some b))))))

-- a carriage return, 13, and a backslash, 92, don't stand for themselves
abbrev pub plain : ℕ → Option ℕ
plain b = if b == 13 || b == 92 then None else Some b

-- any other byte does
abbrev pub stands : ℕ → Bool
stands b = not (b == 13) && not (b == 92)

-- a byte in ASCII that stands for itself
abbrev pub is_simple : ℕ → Bool
is_simple b = (is_ascii b && not (b == 13)) && not (b == 92)

-- the byte in front of the text, where there are both
abbrev pub before : Option ℕ → Option (List ℕ) → Option (List ℕ)
before None text = None
before (Some b) text = option_map (λ bs. b ∷ bs) text

-- the text for which a field stands, if it is written well
unfoldable pub text_of : List ℕ → Option (List ℕ)
text_of [] = Some []
text_of (b ∷ []) = before (plain b) (Some [])
text_of (b ∷ c ∷ bs) = if b == 92 then before (escaped c) (text_of bs) else before (plain b) (text_of (c ∷ bs))

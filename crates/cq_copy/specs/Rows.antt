-- The rows of data in the columns of a table, or why they are refused.
use Rattle.std.specs.Prelude.{◌≡◌, ◌≢◌, ℕ, ◌<◌, get_or, ◌+◌, ◌-◌, ◌^◌, min, Bool, false, not, ◌&&◌, ◌==◌, if◌then◌else◌, List, [], ◌∷◌, length, map, filter, fold, slice_get, slice_set, Option, Some, None, Result, Ok, Err}
use Rattle.std.specs.List.{list_any}
use Rattle.std.specs.Str.{is_utf8}
use Rattle.cq_value.specs.declared.value.Value.{Value}
use Rattle.cq_value.specs.declared.value.Value.TheVariants.{Null, Int, Text}
use Rattle.cq_value.specs.declared.schema.Kind.{Kind}
use Rattle.cq_value.specs.declared.schema.Kind.TheVariants as kind
use Rattle.cq_value.specs.declared.schema.Column.{Column}
use Rattle.cq_catalog.specs.declared.info.Place.{Place}
use Rattle.cq_catalog.specs.declared.info.Place.TheVariants.{Local, Distributed, Reference}
use Rattle.cq_catalog.specs.declared.info.TableInfo.{TableInfo}
use Rattle.cq_copy.specs.declared.error.CopyError.{CopyError}
use Rattle.cq_copy.specs.declared.error.CopyError.TheVariants.{Columns, BadValue, Encoding, Memory}
use Rattle.cq_copy.specs.declared.format.Format.{Format}
use Rattle.cq_copy.specs.declared.format.Format.TheVariants as format
use Rattle.cq_copy.specs.Texts.{lines, fields, text_of}
use Rattle.cq_copy.specs.Values.{value_in}

-- a list of values, which is a row
abbrev pub Row : Type 0
Row = List Value

-- ---- values

abbrev pub value_of_text : Kind → Option (List ℕ) → Option Value
value_of_text k None = None
value_of_text k (Some text) = value_in k text

-- \N, 92 and 78
abbrev pub is_null : List ℕ → Bool
is_null [] = false
is_null (b ∷ []) = false
is_null (b ∷ c ∷ []) = b == 92 && c == 78
is_null (b ∷ c ∷ d ∷ bs) = false

-- the value of a field in a column of this type, if it has one: in the text format \N is NULL, in CSV an empty field
unfoldable pub value_of_field : Format → Kind → List ℕ → Option Value
value_of_field format.Text k field = if is_null field then Some Null else value_of_text k (text_of field)
value_of_field format.Csv k field = if length field == 0 then Some Null else value_in k field

-- ---- columns, by their places from 0

abbrev pub kind_of : Option Column → Kind
kind_of None = kind.Text
kind_of (Some column) = column.kind

abbrev pub kind_at : TableInfo → ℕ → Kind
kind_at t c = kind_of (slice_get t.columns c)

abbrev pub is_distribution : Place → ℕ → Bool
is_distribution Local c = false
is_distribution (Distributed column colocation first_shard) c = column == c
is_distribution (Reference group shard) c = false

-- whether a column may not be NULL: one of the primary key that isn't the distribution column
abbrev pub needs_value : TableInfo → ℕ → Bool
needs_value t c = list_any (λ k. k == c) t.key && not (is_distribution t.place c)

-- whether a column isn't listed and may not be NULL
abbrev pub is_missing : TableInfo → List ℕ → ℕ → Bool
is_missing t listed c = needs_value t c && not (list_any (λ k. k == c) listed)

abbrev pub lower : Option ℕ → ℕ → Option ℕ
lower None c = Some c
lower (Some d) c = Some (min d c)

-- the first of these columns
unfoldable pub missing : TableInfo → List ℕ → Option ℕ
missing t listed = fold lower None (filter (is_missing t listed) t.key)

-- every column is listed, in order
abbrev pub InOrder : TableInfo → List ℕ → Type 0
InOrder t listed = (length listed ≡ length t.columns) × ((i : ℕ) → i < length listed → get_or listed i 0 ≡ i)

-- ---- rows, by their numbers from 1

-- the refusal of a value; columns count from 1 there
abbrev pub bad_value : {A : Type 0} → ℕ → ℕ → Result A CopyError
bad_value row c = Err (BadValue row (min (c + 1) (2 ^ 32 - 1)))

abbrev pub after : {A B : Type 0} → Result A CopyError → (A → Result B CopyError) → Result B CopyError
after (Ok x) f = f x
after (Err e) f = Err e

-- a column's value
abbrev pub checked : TableInfo → ℕ → ℕ → Option Value → Result Value CopyError
checked t row c None = bad_value row c
checked t row c (Some Null) = if needs_value t c then bad_value row c else Ok Null
checked t row c (Some (Int n)) = Ok (Int n)
checked t row c (Some (Text text)) = Ok (Text text)

abbrev pub value_at : Format → TableInfo → ℕ → ℕ → List ℕ → Result Value CopyError
value_at f t row c field = checked t row c (value_of_field f (kind_at t c) field)

-- the row with each field's value in its column, from left to right
unfoldable pub filled : Format → TableInfo → ℕ → List ℕ → List (List ℕ) → Row → Result Row CopyError
filled f t row [] fields values = Ok values
filled f t row (c ∷ cs) [] values = Ok values
filled f t row (c ∷ cs) (field ∷ fields) values = after (value_at f t row c field) (λ v. filled f t row cs fields (slice_set values c v))

-- the row, if no column is missing
abbrev pub complete : ℕ → Option ℕ → Row → Result Row CopyError
complete row None values = Ok values
complete row (Some c) values = bad_value row c

-- a row of NULLs
abbrev pub blank : TableInfo → Row
blank t = map (λ c. Null) t.columns

-- the row of these fields, one for each listed column; the other columns are NULL
unfoldable pub row_of_fields : Format → TableInfo → List ℕ → ℕ → List (List ℕ) → Result Row CopyError
row_of_fields f t listed row fields =
    if length fields == length listed then after (filled f t row listed fields (blank t)) (complete row (missing t listed))
    else Err (Columns row (length fields))

-- the row of a line of text data
unfoldable pub row_of_line : TableInfo → List ℕ → ℕ → List ℕ → Result Row CopyError
row_of_line t listed row line = if is_utf8 line then row_of_fields format.Text t listed row (fields line) else Err (Encoding row)

-- the rows of lines or records, of which the first has this number, or the first refusal
unfoldable pub rows_from : {X : Type 0} → (ℕ → X → Result Row CopyError) → ℕ → List X → Result (List Row) CopyError
rows_from row_of n [] = Ok []
rows_from row_of n (x ∷ xs) = after (row_of n x) (λ row. after (rows_from row_of (n + 1) xs) (λ rows. Ok (row ∷ rows)))

-- the rows of text data
abbrev pub rows_of_text : List ℕ → TableInfo → List ℕ → Result (List Row) CopyError
rows_of_text bytes t listed = rows_from (row_of_line t listed) 1 (lines bytes)

-- ---- what is answered

-- the definition's answer, unless memory fails
abbrev pub Gives : {A : Type 0} → Result A CopyError → Result A CopyError → Type 0
Gives (Ok x) defined = defined ≡ Ok x
Gives (Err e) defined = e ≢ Memory → defined ≡ Err e

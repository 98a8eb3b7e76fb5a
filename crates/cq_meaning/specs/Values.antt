-- Rows and tables, the values in their columns, and when they are the same.
use Rattle.std.specs.Prelude.{ℕ, List, [], ◌∷◌, slice_index_or, Bool, nat_eq, if◌then◌else◌}
use Rattle.std.specs.declared.cmp.Ordering.{Ordering}
use Rattle.std.specs.Ordering.{is_eq}
use Rattle.std.specs.Cmp.Lexicographic.{slice_cmp}
use Rattle.cq_value.specs.Order.{value_cmp}
use Rattle.cq_value.specs.declared.value.Value.{Value}
use Rattle.cq_value.specs.declared.value.Value.TheVariants.{Null}

abbrev pub Row : Type 0
Row = List Value

-- the rows of intermediate results, by number
abbrev pub Results : Type 0
Results = List (List Row)

-- the rows of tables, each with the table's number
abbrev pub Tables : Type 0
Tables = List (ℕ × List Row)

-- the value in a column, and NULL past the end
abbrev pub column : Row → ℕ → Value
column row place = slice_index_or row place Null

-- the rows of a result, and none past the end
abbrev pub result_at : Results → ℕ → List Row
result_at results i = slice_index_or results i []

-- the rows of a table, and none where it isn't listed
abbrev pub table_rows : Tables → ℕ → List Row
table_rows [] t = []
table_rows (p ∷ ps) t = if nat_eq p.0 t then p.1 else table_rows ps t

-- whether two values are one value, NULL being itself
abbrev pub same_value : Value → Value → Bool
same_value x y = is_eq (value_cmp x y)

-- rows by their first column, then by their second, and so on
abbrev pub row_cmp : Row → Row → Ordering
row_cmp = slice_cmp value_cmp

-- whether two rows are one row, NULLs being equal
abbrev pub same_row : Row → Row → Bool
same_row x y = is_eq (row_cmp x y)

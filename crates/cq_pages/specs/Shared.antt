-- Rows in parts: of their own, or those of a numbered table.
use Rattle.std.specs.Prelude.{List, ◌++◌}
use Rattle.std.specs.List.{flat_map}
use Rattle.cq_value.specs.declared.value.Value.{Value}
use Rattle.cq_value.specs.Tables.{rows_of}
use Rattle.cq_pages.specs.declared.shared.LentRow.{LentRow}
use Rattle.cq_pages.specs.declared.shared.Part.{Part}
use Rattle.cq_pages.specs.declared.shared.Part.TheVariants.{Own, Pages}

abbrev pub row_lent : LentRow → List Value
row_lent lent = lent.row.now

abbrev pub rows_of_part : Part → List (List Value)
rows_of_part (Own rows) = rows
rows_of_part (Pages table) = rows_of table

abbrev pub rows_of_parts : List Part → List (List Value)
rows_of_parts parts = flat_map rows_of_part parts

use Rattle.std.proofs.Common.{◌≡◌, ◌++◌, take}
use Rattle.std.specs.List.{AllByRecursion, flat_map}
use Rattle.cq_columnar.specs.Chunks.{value_bytes, column, IsValue}
use Rattle.cq_columnar.proofs.writing.push_values.Given as goal

abbrev pub invariant-loop-row : goal.invariant-loop-row
invariant-loop-row l = record {
  bytes : l.out.items ≡ l.fn.out.items ++ flat_map value_bytes (column (take l.row-index l.rows) l.place);
  are : AllByRecursion IsValue (column (take l.row-index l.rows) l.place);
}

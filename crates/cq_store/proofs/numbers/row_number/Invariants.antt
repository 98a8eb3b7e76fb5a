use Rattle.std.proofs.Common.{◌≡◌, take}
use Rattle.cq_store.specs.Indexes.{row_number}
use Rattle.cq_store.proofs.numbers.row_number.Given as goal

abbrev pub invariant-loop-column : goal.invariant-loop-column
invariant-loop-column l = l.number ≡ row_number (take l.column-index l.columns) l.row

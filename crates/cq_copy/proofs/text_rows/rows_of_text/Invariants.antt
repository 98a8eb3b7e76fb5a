use Rattle.std.proofs.Common.{◌≡◌, ◌+◌, ◌≤◌, length}
use Rattle.cq_copy.specs.Texts.{lines}
use Rattle.cq_copy.specs.Rows.{rows_of_text, row_of_line, rows_from}
use Rattle.cq_copy.proofs.RowLaws.{ahead}
use Rattle.cq_copy.proofs.text_rows.rows_of_text.Given as goal

abbrev pub invariant-lines : goal.invariant-lines
invariant-lines l = (rows_of_text l.fn.bytes l.fn.table l.fn.columns ≡ ahead l.rows (rows_from (row_of_line l.fn.table l.fn.columns) (l.number + 1) (lines l.left))) × (l.number + length l.left ≤ length l.fn.bytes)

abbrev pub decreases-lines : goal.decreases-lines
decreases-lines l = length l.left

use Rattle.std.proofs.Common.{◌≡◌, ◌+◌, ◌≤◌, length}
use Rattle.cq_copy.specs.Rows.{rows_from}
use Rattle.cq_copy.specs.Records.{row_of_record}
use Rattle.cq_copy.specs.Lines.{lines, records_in}
use Rattle.cq_copy.proofs.RowLaws.{ahead}
use Rattle.cq_copy.proofs.csv_lines.rows_of_lines.Given as goal

abbrev pub invariant-lines : goal.invariant-lines
invariant-lines l =
    (rows_from (row_of_record l.fn.frame.table.now l.fn.frame.listed.now) 1 (records_in (lines l.fn.bytes)) ≡ ahead l.rows (rows_from (row_of_record l.fn.frame.table.now l.fn.frame.listed.now) (l.number + 1) (records_in (lines l.left))))
    × (l.number + length l.left ≤ length l.fn.bytes)

abbrev pub decreases-lines : goal.decreases-lines
decreases-lines l = length l.left

use Rattle.std.proofs.Common.{◌≡◌, drop, length}
use Rattle.cq_copy.specs.Lines.{lines, records_in}
use Rattle.cq_copy.proofs.csv_lines.behind_first.Given as goal

abbrev pub invariant-lines : goal.invariant-lines
invariant-lines l = drop 1 (records_in (lines l.left)) ≡ drop 1 (records_in (lines l.fn.bytes))

abbrev pub decreases-lines : goal.decreases-lines
decreases-lines l = length l.left

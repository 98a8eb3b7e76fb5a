use Rattle.std.proofs.Common.{◌≡◌, ◌≤◌, ◌*◌, take}
use Rattle.std.specs.Prelude.{sum_by}
use Rattle.cq_columnar.specs.Counting.{digit}
use Rattle.cq_columnar.proofs.counting.sum_of.Given as goal

abbrev pub invariant-loop-row : goal.invariant-loop-row
invariant-loop-row l = record {
  value : l.sum ≡ sum_by digit (take l.row-index l.rows);
  small : l.sum ≤ 9 * l.row-index;
}

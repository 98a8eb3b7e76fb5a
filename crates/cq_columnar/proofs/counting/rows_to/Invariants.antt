use Rattle.std.proofs.Common.{◌≡◌, ◌-◌, ◌≤◌, ◌++◌}
use Rattle.cq_columnar.specs.Counting.{rows_behind}
use Rattle.cq_columnar.proofs.counting.rows_to.Given as goal

abbrev pub invariant-loop-place : goal.invariant-loop-place
invariant-loop-place l = record {
  most : l.place ≤ l.fn.count;
  gives : l.changes ++ rows_behind l.place (l.fn.count - l.place) ≡ rows_behind 0 l.fn.count;
}

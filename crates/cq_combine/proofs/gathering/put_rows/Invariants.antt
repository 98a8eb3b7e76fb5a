use Rattle.std.proofs.Common.{◌≡◌, ◌++◌}
use Rattle.cq_combine.proofs.gathering.put_rows.Given as goal

abbrev pub invariant-loop-row : goal.invariant-loop-row
invariant-loop-row l = l.rows ≡ l.initial.rows ++ l.yielded

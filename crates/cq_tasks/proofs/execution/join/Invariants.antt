use Rattle.std.proofs.Common.{◌≡◌, ◌++◌}
use Rattle.cq_tasks.proofs.execution.join.Given as goal

abbrev pub invariant-loop-table : goal.invariant-loop-table
invariant-loop-table l = l.tables ≡ l.fn.tables ++ l.yielded

use Rattle.std.proofs.Common.{◌≡◌, ◌++◌}
use Rattle.cq_strategies.proofs.component.put_columns.Given as goal

abbrev pub invariant-loop-column : goal.invariant-loop-column
invariant-loop-column l = l.columns ≡ l.fn.columns ++ l.yielded

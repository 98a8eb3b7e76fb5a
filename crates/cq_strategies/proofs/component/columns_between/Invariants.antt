use Rattle.std.proofs.Common.{◌≡◌, ◌++◌, ◌-◌}
use Rattle.cq_planning.specs.Touched.{numbers}
use Rattle.cq_strategies.proofs.component.columns_between.Given as goal

abbrev pub invariant-loop-column : goal.invariant-loop-column
invariant-loop-column l = l.columns ++ numbers l.column (l.end - l.column) ≡ numbers l.start (l.end - l.start)

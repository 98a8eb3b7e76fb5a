use Rattle.std.proofs.Common.{◌≡◌}
use Rattle.cq_task_laws.specs.Partial.{columns_from}
use Rattle.cq_planner.proofs.lone.columns.Given as goal

abbrev pub invariant-loop-at : goal.invariant-loop-at
invariant-loop-at l = l.all ≡ columns_from 0 l.at

use Rattle.std.proofs.Common.{◌≡◌, ◌++◌}
use Rattle.cq_planner.proofs.block.put_plans.Given as goal

abbrev pub invariant-loop-plan : goal.invariant-loop-plan
invariant-loop-plan l = l.plans ≡ l.fn.plans ++ l.yielded

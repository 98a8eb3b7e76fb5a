use Rattle.std.proofs.Common.{◌≡◌, ◌++◌}
use Rattle.cq_plan.proofs.statements.put_groups.Given as goal

abbrev pub invariant-loop-group : goal.invariant-loop-group
invariant-loop-group l = l.groups ≡ l.fn.groups ++ l.yielded

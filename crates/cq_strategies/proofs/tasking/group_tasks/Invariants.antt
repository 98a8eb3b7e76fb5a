use Rattle.std.proofs.Common.{◌≡◌, take}
use Rattle.cq_outline.specs.Tasking.{group_tasks}
use Rattle.cq_strategies.proofs.tasking.group_tasks.Given as goal

abbrev pub invariant-loop-group : goal.invariant-loop-group
invariant-loop-group l = l.tasks ≡ group_tasks l.first (take l.group-index l.groups)

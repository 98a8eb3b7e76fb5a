use Rattle.std.proofs.Common.{◌≡◌, take}
use Rattle.cq_plan.proofs.groups.copied.Given as goal

abbrev pub invariant-loop-group : goal.invariant-loop-group
invariant-loop-group l = l.list ≡ take l.group-index l.groups

use Rattle.std.proofs.Common.{◌≡◌, ◌++◌, take}
use Rattle.cq_router.proofs.reads.put_groups.Given as goal

abbrev pub invariant-loop-group : goal.invariant-loop-group
invariant-loop-group l = l.groups ≡ l.initial.groups ++ take l.group-index l.more

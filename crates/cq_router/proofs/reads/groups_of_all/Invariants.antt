use Rattle.std.proofs.Common.{◌≡◌, take}
use Rattle.cq_router.specs.Reads.{groups_in_each}
use Rattle.cq_router.proofs.reads.groups_of_all.Given as goal

abbrev pub invariant-loop-read : goal.invariant-loop-read
invariant-loop-read l = l.groups ≡ groups_in_each (take l.read-index l.reads)

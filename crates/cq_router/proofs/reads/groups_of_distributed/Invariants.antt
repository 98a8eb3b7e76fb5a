use Rattle.std.proofs.Common.{◌≡◌, take}
use Rattle.cq_router.specs.Reads.{groups_in_each, distributed_among}
use Rattle.cq_router.proofs.reads.groups_of_distributed.Given as goal

abbrev pub invariant-loop-read : goal.invariant-loop-read
invariant-loop-read l = l.groups ≡ groups_in_each (distributed_among l.catalog (take l.read-index l.reads))

use Rattle.std.proofs.Common.{◌≡◌, drop}
use Rattle.cq_router.specs.Reads.{distributed_among}
use Rattle.cq_router.proofs.reads.first_colocation.Given as goal

abbrev pub invariant-loop-read : goal.invariant-loop-read
invariant-loop-read l = distributed_among l.catalog (drop l.read-index l.reads) ≡ distributed_among l.catalog l.reads

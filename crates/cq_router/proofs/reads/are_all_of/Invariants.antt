use Rattle.std.proofs.Common.{◌≡◌, drop}
use Rattle.std.specs.List.{list_all}
use Rattle.cq_router.specs.Reads.{distributed_among, agrees}
use Rattle.cq_router.proofs.reads.are_all_of.Given as goal

abbrev pub invariant-loop-read : goal.invariant-loop-read
invariant-loop-read l = list_all (agrees l.catalog l.number) (distributed_among l.catalog (drop l.read-index l.reads)) ≡ list_all (agrees l.catalog l.number) (distributed_among l.catalog l.reads)

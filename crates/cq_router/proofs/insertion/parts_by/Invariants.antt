use Rattle.std.proofs.Common.{◌≡◌}
use Rattle.cq_router.specs.Piles.{parts_of}
use Rattle.cq_router.proofs.insertion.parts_by.Given as goal

abbrev pub invariant-loop-pile : goal.invariant-loop-pile
invariant-loop-pile l = l.parts ≡ parts_of l.table l.yielded

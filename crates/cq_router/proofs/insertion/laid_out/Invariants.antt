use Rattle.std.proofs.Common.{◌≡◌}
use Rattle.cq_router.proofs.insertion.laid_out.Given as goal

abbrev pub invariant-loop-row : goal.invariant-loop-row
invariant-loop-row l = l.laid ≡ l.yielded

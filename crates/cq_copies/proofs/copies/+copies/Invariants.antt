use Rattle.std.proofs.Common.{◌≡◌, take}
use Rattle.cq_copies.proofs.copies.+copies.Given as goal

abbrev pub invariant-copy_exprs-loop-e : goal.invariant-copy_exprs-loop-e
invariant-copy_exprs-loop-e l = l.copies ≡ take l.e-index l.es

abbrev pub invariant-copy_arms-loop-arm : goal.invariant-copy_arms-loop-arm
invariant-copy_arms-loop-arm l = l.copies ≡ take l.arm-index l.arms

use Rattle.std.proofs.Common.{◌≡◌, take}
use Rattle.cq_planner.proofs.sides.copy_said.Given as goal

abbrev pub invariant-loop-pair : goal.invariant-loop-pair
invariant-loop-pair l = l.list ≡ take l.pair-index l.said

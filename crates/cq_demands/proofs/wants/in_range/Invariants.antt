use Rattle.std.proofs.Common.{◌≡◌, take}
use Rattle.cq_demands.specs.JoinDemands.{in_range}
use Rattle.cq_demands.proofs.wants.in_range.Given as goal

abbrev pub invariant-loop-pair : goal.invariant-loop-pair
invariant-loop-pair l = l.wanted ≡ in_range l.leaf.start l.leaf.columns (take l.pair-index l.demanded)

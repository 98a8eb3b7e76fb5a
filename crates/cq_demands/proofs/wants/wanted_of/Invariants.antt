use Rattle.std.proofs.Common.{◌≡◌, filter}
use Rattle.cq_demands.specs.JoinDemands.{is_of_each}
use Rattle.cq_demands.proofs.wants.wanted_of.Given as goal

abbrev pub invariant-loop-pair : goal.invariant-loop-pair
invariant-loop-pair l = l.wanted ≡ filter (is_of_each l.leaves l.demanded l.leaf.table) l.yielded

use Rattle.std.proofs.Common.{◌≡◌, take, map}
use Rattle.cq_demands.specs.declared.joins.Leaf.{Leaf}
use Rattle.cq_demands.specs.JoinDemands.{wanted_of}
use Rattle.cq_demands.proofs.wants.wants_of.Given as goal

abbrev pub invariant-loop-leaf : goal.invariant-loop-leaf
invariant-loop-leaf l = l.wants ≡ map (λ (leaf : Leaf). (leaf.table, wanted_of l.leaves l.demanded leaf)) (take l.leaf-index l.leaves)

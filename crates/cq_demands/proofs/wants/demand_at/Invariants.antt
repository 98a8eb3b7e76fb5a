use Rattle.std.proofs.Common.{◌≡◌, drop}
use Rattle.cq_demands.specs.JoinDemands.{demand_at}
use Rattle.cq_demands.proofs.wants.demand_at.Given as goal

abbrev pub invariant-loop-pair : goal.invariant-loop-pair
invariant-loop-pair l = demand_at (drop l.pair-index l.demanded) l.column ≡ demand_at l.demanded l.column

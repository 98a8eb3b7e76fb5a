use Rattle.std.proofs.Common.{◌≡◌, drop}
use Rattle.cq_demands.specs.JoinDemands.{wants_at}
use Rattle.cq_demands.proofs.wants.wants_at.Given as goal

abbrev pub invariant-loop-pair : goal.invariant-loop-pair
invariant-loop-pair l = wants_at (drop l.pair-index l.wants) l.table ≡ wants_at l.wants l.table

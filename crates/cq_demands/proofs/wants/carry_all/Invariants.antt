use Rattle.std.proofs.Common.{◌≡◌, drop, fold}
use Rattle.cq_demands.specs.JoinDemands.{carried}
use Rattle.cq_demands.proofs.wants.carry_all.Given as goal

abbrev pub invariant-loop-tie : goal.invariant-loop-tie
invariant-loop-tie l = fold carried l.demanded (drop l.tie-index l.ties) ≡ fold carried l.fn.demanded l.ties

use Rattle.std.proofs.Common.{◌≡◌, drop}
use Rattle.cq_demands.specs.JoinDemands.{spread}
use Rattle.cq_demands.proofs.wants.spread.Given as goal

abbrev pub invariant-loop-tie : goal.invariant-loop-tie
invariant-loop-tie l = spread (drop l._tie-index l.ties) l.ties l.demanded ≡ spread l.ties l.ties l.fn.demanded

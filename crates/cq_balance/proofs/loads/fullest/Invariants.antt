use Rattle.std.proofs.Common.{◌≡◌}
use Rattle.cq_balance.specs.Greedy.{fullest}
use Rattle.cq_balance.proofs.loads.fullest.Given as goal

abbrev pub invariant-loop-n : goal.invariant-loop-n
invariant-loop-n l = l.best ≡ fullest l.loads l.n

use Rattle.std.proofs.Common.{◌≡◌}
use Rattle.cq_balance.specs.Greedy.{emptiest}
use Rattle.cq_balance.proofs.loads.emptiest.Given as goal

abbrev pub invariant-loop-n : goal.invariant-loop-n
invariant-loop-n l = l.best ≡ emptiest l.loads l.n

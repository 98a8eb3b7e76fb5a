use Rattle.std.proofs.Common.{◌≡◌, ◌++◌, map, take, drop}
use Rattle.cq_balance.specs.Greedy.{placed}
use Rattle.cq_balance.proofs.planning.make.Given as goal

abbrev pub invariant-loop-load : goal.invariant-loop-load
invariant-loop-load l = l.load-items ≡ map (placed l.next) (take l.load-index l.initial.load-items) ++ drop l.load-index l.initial.load-items

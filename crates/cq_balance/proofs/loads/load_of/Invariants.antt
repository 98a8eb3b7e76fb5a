use Rattle.std.proofs.Common.{◌≡◌, take}
use Rattle.cq_balance.specs.Greedy.{load_of}
use Rattle.cq_balance.proofs.loads.load_of.Given as goal

abbrev pub invariant-loop-load : goal.invariant-loop-load
invariant-loop-load l = l.sum ≡ load_of (take l.load-index l.loads) l.node

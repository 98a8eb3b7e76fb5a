use Rattle.std.proofs.Common.{◌≡◌, None, take, filter}
use Rattle.std.specs.List.{fold}
use Rattle.cq_balance.specs.Greedy.{first_of, can_move}
use Rattle.cq_balance.proofs.planning.chosen.Given as goal

abbrev pub invariant-loop-load : goal.invariant-loop-load
invariant-loop-load l = l.best ≡ fold first_of None (filter (can_move l.loads l.from l.to) (take l.load-index l.loads))

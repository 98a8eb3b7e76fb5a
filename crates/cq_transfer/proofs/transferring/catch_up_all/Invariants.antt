use Rattle.cq_transfer.proofs.LoopLaws.{IsLooping}
use Rattle.cq_transfer.proofs.transferring.catch_up_all.Given as goal

abbrev pub invariant-loop-round : goal.invariant-loop-round
invariant-loop-round g l =
    IsLooping g.S.Store.state l.order.who (g.M.Moves.comes l.fn.moves l.order.who) (g.M.Moves.ready l.moves l.order.who l.order.group) (g.M.Moves.keeps l.order.group l.fn.moves l.moves) (g.M.Moves.goes_on l.order.group l.fn.moves l.moves) l.caught l.round
    (g.M.Moves.seen l.fn.moves l.order.group) (g.M.Moves.seen l.moves l.order.group) l.fn.incoming l.incoming

use Rattle.std.proofs.Common.{inl, inr}
use Rattle.cq_block_move.proofs.Taking.{makes_none}
use Rattle.cq_block_move.proofs.mover.make_room.Goals as goal
use Rattle.cq_block_move.proofs.mover.make_room.Goals.{then-order-eq0-via-then-order-eq0, then-order-eq0-via-else-order-eq0+then-nodes-order}

pub returns-then-order-eq0-clause-makes : goal.returns-then-order-eq0-clause-makes
returns-then-order-eq0-clause-makes g c =
    makes_none c.args.order.who c.args.nodes c.args.count c.args.order.from tt c.args.benches.now.passes.items (elim c.then-order-eq0.branch [
      | then-order-eq0-via-then-order-eq0 w ↦ inl w.if-order-eq0.true
      | then-order-eq0-via-else-order-eq0+then-nodes-order w ↦ inr w.if-nodes-order.true
    ])

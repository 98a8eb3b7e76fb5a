use Rattle.std.proofs.Common.{refl}
use Rattle.std.specs.Prelude.{Ok, Err}
use Rattle.cq_block_move.proofs.Leaving.{shard_leaves, unsent_left}
use Rattle.cq_block_move.proofs.Serving.{statement_failed, statement_moved}
use Rattle.cq_block_move.proofs.mover.answer_move.Goals as goal

pub returns-in_default-clause-serves : goal.returns-in_default-clause-serves
returns-in_default-clause-serves g c o a opened is =
    statement_failed g.S.Store.state g.L.Legality.terms c.args.catalog.now c.args.nodes _ _ c.args.desk.now.sessions.value.items c.args.who c.args.shard c.args.from c.args.to _ o a opened is _ c.requires.hands refl

pub returns-in-Ok-move_shard-clause-serves : goal.returns-in-Ok-move_shard-clause-serves
returns-in-Ok-move_shard-clause-serves g c o a opened is =
    statement_moved g.S.Store.state g.L.Legality.terms c.args.catalog.now c.args.nodes _ _ c.args.desk.now.sessions.value.items c.args.who c.args.shard c.args.from c.args.to c.answer.result o a opened is _ _ c.requires.hands
    c.in-Ok-move_shard.ensures.hands c.requires.unsent (Ok c.in-Ok-move_shard.report) c.in-Ok-move_shard.ensures.moves c.answer.ensures

pub returns-in-Ok-move_shard-clause-unsent : goal.returns-in-Ok-move_shard-clause-unsent
returns-in-Ok-move_shard-clause-unsent g c other same apart =
    let leaves = shard_leaves g.S.Store.state g.L.Legality.terms c.args.catalog.now c.args.nodes c.args.desk.now.sessions.value.items c.args.who c.args.shard c.args.from c.args.to _ _ (Ok c.in-Ok-move_shard.report) c.in-Ok-move_shard.ensures.moves in
    unsent_left g.S.Store.state g.L.Legality.terms _ c.args.desk.now.sessions.value.items c.args.who other _ _ leaves c.requires.hands.benches same apart

pub returns-in-Err-clause-serves : goal.returns-in-Err-clause-serves
returns-in-Err-clause-serves g c o a opened is =
    statement_moved g.S.Store.state g.L.Legality.terms c.args.catalog.now c.args.nodes _ _ c.args.desk.now.sessions.value.items c.args.who c.args.shard c.args.from c.args.to _ o a opened is _ _ c.requires.hands c.in-Err.ensures.hands
    c.requires.unsent (Err c.in-Err.fault) c.in-Err.ensures.moves refl

pub returns-in-Err-clause-unsent : goal.returns-in-Err-clause-unsent
returns-in-Err-clause-unsent g c other same apart =
    let leaves = shard_leaves g.S.Store.state g.L.Legality.terms c.args.catalog.now c.args.nodes c.args.desk.now.sessions.value.items c.args.who c.args.shard c.args.from c.args.to _ _ (Err c.in-Err.fault) c.in-Err.ensures.moves in
    unsent_left g.S.Store.state g.L.Legality.terms _ c.args.desk.now.sessions.value.items c.args.who other _ _ leaves c.requires.hands.benches same apart

pub returns-in-Err-clause-room : goal.returns-in-Err-clause-room
returns-in-Err-clause-room g c =
    let leaves = shard_leaves g.S.Store.state g.L.Legality.terms c.args.catalog.now c.args.nodes c.args.desk.now.sessions.value.items c.args.who c.args.shard c.args.from c.args.to _ _ (Err c.in-Err.fault) c.in-Err.ensures.moves in
    (c.in-Err.ensures.space, leaves.few)

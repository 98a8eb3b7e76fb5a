use Rattle.std.proofs.Common.{◌∙◌, ℕ, length, map, refl, sym, ap, subst}
use Rattle.cq_cluster.proofs.MovingLawsStores.{on_tried, spare_nodes}
use Rattle.cq_shared.specs.Stocks.{give_notes}
use Rattle.cq_move_laws.specs.Notes.{at_node}
use Rattle.cq_block_move.specs.Benches.{BenchesSend, Owes}
use Rattle.cq_block_move.proofs.Holding as holding
use Rattle.cq_block_move.proofs.Carrying as carrying
use Rattle.cq_block_move.proofs.mover.move_group.Goals as goal

pub transfer-requires-clause-ready : goal.transfer-requires-clause-ready
transfer-requires-clause-ready g c κs within =
    let f = c.requires.fitted in
    carrying.can_move g.S.Store.state g.L.Legality.terms f.0 f.1 _ _ _ c.args.order.who c.args.order.group c.args.order.from c.args.order.to _ _ f.2

pub transfer-requires-clause-distributed : goal.transfer-requires-clause-distributed
transfer-requires-clause-distributed g c κs within =
    let f = c.requires.fitted in
    carrying.distributed g.S.Store.state g.L.Legality.terms f.0 f.1 _ _ _ c.args.order.who c.args.order.group c.args.order.from c.args.order.to _ _ f.2

pub transfer-requires-clause-reaches : goal.transfer-requires-clause-reaches
transfer-requires-clause-reaches g c κs within =
    let f = c.requires.fitted in
    (f.2.low, holding.all_reach g.S.Store.state g.L.Legality.terms f.0 f.1 _ _ _ c.args.order.who.session _ f.2.hands c.args.order.to ((f.2.hands.ground.reaches c.args.order.to).1 f.2.high))

pub transfer-requires-clause-spare : goal.transfer-requires-clause-spare
transfer-requires-clause-spare g c κs within = c.requires.spare

pub transfer-requires-clause-one : goal.transfer-requires-clause-one
transfer-requires-clause-one g c κs within =
    let f = c.requires.fitted in
    carrying.one_each g.S.Store.state g.L.Legality.terms f.0 f.1 _ _ _ c.args.order.who c.args.order.group c.args.order.from c.args.order.to _ _ f.2

pub transfer-requires-clause-spared : goal.transfer-requires-clause-spared
transfer-requires-clause-spared g c κs within node spared =
    let f = c.requires.fitted in
    let its = holding.spared_steady g.S.Store.state g.L.Legality.terms f.0 f.1 _ _ _ c.args.order.who.session _ f.2.hands node spared in
    c.requires.steady node (holding.steady_there g.S.Store.state g.L.Legality.terms f.0 f.1 _ _ _ c.args.order.who.session _ f.2.hands c.args.order.to node its)

-- ---- a move that was made

pub give-requires-clause-ready : goal.give-requires-clause-ready
give-requires-clause-ready g c = holding.stocked_as g.S.Store.state g.L.Legality.terms _ _ refl _ _ (sym c.requires.sessions) c.args.order.who.session c.args.benches.now.passes.items c.requires.fitted.2.hands.benches

pub give-requires-clause-there : goal.give-requires-clause-there
give-requires-clause-there g c =
    let f = c.requires.fitted in
    let new = c.transfer.new.moves in
    let keeps = c.transfer.ensures.keeps in
    let ready = holding.ready_as g.S.Store.state g.L.Legality.terms _ _ (ap (λ v. map (λ k. k.shared.table_id) v.now) keeps.0) _ _ keeps.1 c.args.order.who.session new.passes.items c.transfer.ensures.ready.ready in
    carrying.there_from g.S.Store.state g.L.Legality.terms f.0 f.1 _ _ _ c.args.order.who c.args.order.group c.args.order.from c.args.order.to _ _ f.2 new.passes.items keeps.2 ready _ c.in-Ok.field-0.report c.in-Ok.ensures.moved

pub give-requires-clause-on : goal.give-requires-clause-on
give-requires-clause-on g c = carrying.of_node g.S.Store.state c.args.order.from c.in-Ok.field-0.stores.items c.in-Ok.ensures.old.on

pub give-requires-clause-owed : goal.give-requires-clause-owed
give-requires-clause-owed g c =
    let f = c.requires.fitted in
    let new = c.transfer.new.moves in
    let keeps = c.transfer.ensures.keeps in
    let ready = holding.ready_as g.S.Store.state g.L.Legality.terms _ _ (ap (λ v. map (λ k. k.shared.table_id) v.now) keeps.0) _ _ keeps.1 c.args.order.who.session new.passes.items c.transfer.ensures.ready.ready in
    let low = carrying.from_low g.S.Store.state g.L.Legality.terms f.0 f.1 _ _ _ c.args.order.who c.args.order.group c.args.order.from c.args.order.to _ _ f.2 new.passes.items keeps.2 ready _ c.in-Ok.field-0.report c.in-Ok.ensures.moved in
    let few = carrying.from_few g.S.Store.state g.L.Legality.terms f.0 f.1 _ _ _ c.args.order.who c.args.order.group c.args.order.from c.args.order.to _ _ f.2 new.passes.items keeps.2 ready _ c.in-Ok.field-0.report c.in-Ok.ensures.moved in
    subst (λ (n : ℕ). Owes c.args.order.from n c.args.benches.now.passes.items) (sym c.in-Ok.ensures.old.many) (f.2.back low few)

pub give-requires-clause-steady : goal.give-requires-clause-steady
give-requires-clause-steady g c k on =
    let f = c.requires.fitted in
    let state = g.S.Store.state in
    let terms = g.L.Legality.terms in
    let session = c.args.order.who.session in
    let new = c.transfer.new.moves in
    let keeps = c.transfer.ensures.keeps in
    let ready = holding.ready_as state terms _ _ (ap (λ v. map (λ k. k.shared.table_id) v.now) keeps.0) _ _ keeps.1 session new.passes.items c.transfer.ensures.ready.ready in
    let there = carrying.there_from state terms f.0 f.1 _ _ _ c.args.order.who c.args.order.group c.args.order.from c.args.order.to _ _ f.2 new.passes.items keeps.2 ready _ c.in-Ok.field-0.report c.in-Ok.ensures.moved in
    let its = holding.there_steady state terms f.0 f.1 _ _ _ session _ f.2.hands c.args.order.from k there on in
    (c.in-Ok.ensures.steady k (holding.all_steady state terms f.0 f.1 _ _ _ session _ f.2.hands k its) (c.requires.steady k (holding.steady_there state terms f.0 f.1 _ _ _ session _ f.2.hands c.args.order.to k its))).1

pub returns-in-Ok-clause-hands : goal.returns-in-Ok-clause-hands
returns-in-Ok-clause-hands g c = λ o nodes hands.
    let state = g.S.Store.state in
    let terms = g.L.Legality.terms in
    let session = c.args.order.who.session in
    let keeps = c.transfer.ensures.keeps in
    let block = c.give.ensures.block in
    holding.hands_again state terms o nodes _ _ _ session _ hands c.args.order.group c.transfer.new.moves.passes.items c.give.new.self.passes.items c.args.retired.now.items _ keeps.2 c.give.ensures.sends
    (holding.ready_as state terms _ _ (ap (λ v. map (λ k. k.shared.table_id) v.now) keeps.0) _ _ keeps.1 session c.transfer.new.moves.passes.items c.transfer.ensures.ready.ready)
    (holding.stocked_as state terms _ _ (ap (λ v. map (λ k. k.shared.table_id) v.now) block.0) _ _ (ap (λ v. v.value.items) block.1 ∙ c.requires.sessions) session c.give.new.self.passes.items c.give.ensures.ready)

pub returns-in-Ok-clause-keeps : goal.returns-in-Ok-clause-keeps
returns-in-Ok-clause-keeps g c = c.transfer.ensures.keeps.2

pub returns-in-Ok-clause-comes : goal.returns-in-Ok-clause-comes
returns-in-Ok-clause-comes g c = record {
  moved = c.in-Ok.ensures.moved;
  sends = subst (λ (n : ℕ). BenchesSend (at_node c.args.order.from (give_notes c.args.order.who n)) c.args.benches.now.passes.items c.give.new.self.passes.items) c.in-Ok.ensures.old.many c.give.ensures.sends;
  retired = refl;
}

pub returns-in-Ok-clause-cells : goal.returns-in-Ok-clause-cells
returns-in-Ok-clause-cells g c = c.transfer.ensures.keeps.0

pub returns-in-Ok-clause-block : goal.returns-in-Ok-clause-block
returns-in-Ok-clause-block g c = (c.give.ensures.block.0, c.give.ensures.block.1, c.transfer.ensures.keeps.1)

pub returns-in-Ok-clause-space : goal.returns-in-Ok-clause-space
returns-in-Ok-clause-space g c = refl

-- ---- a move that wasn't

pub give_up-requires-clause-ready : goal.give_up-requires-clause-ready
give_up-requires-clause-ready g c = holding.stocked_as g.S.Store.state g.L.Legality.terms _ _ refl _ _ (sym c.requires.sessions) c.args.order.who.session c.args.benches.now.passes.items c.requires.fitted.2.hands.benches

pub give_up-requires-clause-there : goal.give_up-requires-clause-there
give_up-requires-clause-there g c =
    let f = c.requires.fitted in
    carrying.there_to g.S.Store.state g.L.Legality.terms f.0 f.1 _ _ _ c.args.order.who c.args.order.group c.args.order.from c.args.order.to _ _ f.2

pub give_up-requires-clause-room : goal.give_up-requires-clause-room
give_up-requires-clause-room g c = c.requires.room

pub give_up-requires-clause-on : goal.give_up-requires-clause-on
give_up-requires-clause-on g c =
    let state = g.S.Store.state in
    on_tried state c.args.order.to c.args.stores.items c.in-Err.failed.stores.items (spare_nodes state c.args.order.to c.args.stores.items c.requires.spare) c.in-Err.ensures.back

pub give_up-requires-clause-owed : goal.give_up-requires-clause-owed
give_up-requires-clause-owed g c =
    subst (λ (n : ℕ). Owes c.args.order.to n c.args.benches.now.passes.items) (sym (carrying.tried_many g.S.Store.state c.args.stores.items c.in-Err.failed.stores.items c.in-Err.ensures.back)) c.requires.fitted.2.owed

pub give_up-requires-clause-steady : goal.give_up-requires-clause-steady
give_up-requires-clause-steady g c k on = carrying.tried_steady g.S.Store.state k c.args.stores.items c.in-Err.failed.stores.items c.in-Err.ensures.back (c.requires.steady k on)

pub give_up-requires-clause-retire : goal.give_up-requires-clause-retire
give_up-requires-clause-retire g c =
    let f = c.requires.fitted in
    carrying.can_retire g.S.Store.state g.L.Legality.terms f.0 f.1 _ _ _ c.args.order.who c.args.order.group c.args.order.from c.args.order.to _ _ f.2 _ c.args.stores.items c.in-Err.failed _ c.in-Err.ensures.stopped

pub returns-in-Err-clause-hands : goal.returns-in-Err-clause-hands
returns-in-Err-clause-hands g c = λ o nodes hands.
    let state = g.S.Store.state in
    let terms = g.L.Legality.terms in
    let session = c.args.order.who.session in
    let keeps = c.transfer.ensures.keeps in
    let block = c.give_up.ensures.block in
    holding.hands_again state terms o nodes _ _ _ session _ hands c.args.order.group c.transfer.new.moves.passes.items c.give_up.new.benches.passes.items c.give_up.new.retired.items _ keeps.2 c.give_up.ensures.gives.sends
    (holding.ready_as state terms _ _ (ap (λ v. map (λ k. k.shared.table_id) v.now) keeps.0) _ _ keeps.1 session c.transfer.new.moves.passes.items c.transfer.ensures.ready.ready)
    (holding.stocked_as state terms _ _ (ap (λ v. map (λ k. k.shared.table_id) v.now) block.0) _ _ (ap (λ v. v.value.items) block.1 ∙ c.requires.sessions) session c.give_up.new.benches.passes.items c.give_up.ensures.ready)

pub returns-in-Err-clause-keeps : goal.returns-in-Err-clause-keeps
returns-in-Err-clause-keeps g c = c.transfer.ensures.keeps.2

pub returns-in-Err-clause-comes : goal.returns-in-Err-clause-comes
returns-in-Err-clause-comes g c =
    let f = c.requires.fitted in
    let e = c.in-Err.failed in
    carrying.keeps_group g.S.Store.state g.L.Legality.terms f.0 f.1 _ _ _ c.args.order.who c.args.order.group c.args.order.from c.args.order.to _ _ f.2 c.args.stores.items e
    (record { passes = c.transfer.new.moves.passes.items; benches = c.give_up.new.benches.passes.items; retired = c.give_up.new.retired.items }) c.in-Err.ensures.refused c.in-Err.ensures.stopped c.give_up.result c.give_up.ensures.told
    (length e.stores.items) (carrying.tried_many g.S.Store.state c.args.stores.items e.stores.items c.in-Err.ensures.back) c.give_up.ensures.gives c.give_up.ensures.spared

pub returns-in-Err-clause-cells : goal.returns-in-Err-clause-cells
returns-in-Err-clause-cells g c = c.transfer.ensures.keeps.0

pub returns-in-Err-clause-block : goal.returns-in-Err-clause-block
returns-in-Err-clause-block g c = (c.give_up.ensures.block.0, c.give_up.ensures.block.1, c.transfer.ensures.keeps.1)

pub returns-in-Err-clause-space : goal.returns-in-Err-clause-space
returns-in-Err-clause-space g c = c.give_up.ensures.space

use Rattle.std.proofs.Common.{arith, ◌-◌}
use Rattle.cq_shared.specs.Errands.{TellsNothing, room_notes}
use Rattle.cq_shared.proofs.Stocks.{room_sent, sends_some}
use Rattle.cq_block_move.proofs.Calling.{turned, here, low_pass, low_cell, up, at_cell, again, sends_at, room_right}
use Rattle.cq_block_move.proofs.benches.Benches.make_room.Goals as goal

pub bounds-self-place : goal.bounds-self-place
bounds-self-place g c =
    let d = c.args.self.now in
    low_cell g.S.Store.state g.L.Legality.terms _ d.cells.now d.sessions.value.items c.args.who.session d.passes.items c.requires.ready (c.args.node - 1) c.requires.there.pass c.requires.there.there

pub index_mut-requires : goal.index_mut-requires
index_mut-requires g c =
    let d = c.args.self.now in
    let low = low_pass g.S.Store.state g.L.Legality.terms _ d.cells.now d.sessions.value.items c.args.who.session d.passes.items c.requires.ready (c.args.node - 1) c.requires.there.pass c.requires.there.there in
    omega (arith, low, d.passes.ok.0)

pub make_room-requires-clause-at : goal.make_room-requires-clause-at
make_room-requires-clause-at g c =
    let d = c.args.self.now in
    let p = c.index_mut.result.now in
    let there = here c.args.node d.passes.items c.requires.there p c.index_mut.ensures.value in
    at_cell g.S.Store.state g.L.Legality.terms _ d.cells.now d.sessions.value.items c.args.who.session d.passes.items c.requires.ready (c.args.node - 1) p there c.index-self-place.result c.index-self-place.is

pub make_room-requires-clause-rests : goal.make_room-requires-clause-rests
make_room-requires-clause-rests g c =
    let p = c.index_mut.result.now in
    let there = here c.args.node c.args.self.now.passes.items c.requires.there p c.index_mut.ensures.value in
    (c.requires.ready.own (c.args.node - 1) p there).rests

pub make_room-requires-clause-own : goal.make_room-requires-clause-own
make_room-requires-clause-own g c =
    let p = c.index_mut.result.now in
    let there = here c.args.node c.args.self.now.passes.items c.requires.there p c.index_mut.ensures.value in
    (c.requires.ready.own (c.args.node - 1) p there).numbered

pub returns-clause-ready : goal.returns-clause-ready
returns-clause-ready g c =
    let d = c.args.self.now in
    let p = c.index_mut.result.now in
    let q = c.make_room.new.pass in
    let there = here c.args.node d.passes.items c.requires.there p c.index_mut.ensures.value in
    let sends = c.make_room.ensures.sends in
    again g.S.Store.state g.L.Legality.terms _ d.cells.now d.sessions.value.items c.args.who.session d.passes.items c.requires.ready (c.args.node - 1) p there (turned p q) sends.same c.make_room.ensures.rests c.make_room.ensures.stood
    (room_right p.place.me.0.mine q.me.0.mine c.args.who c.args.n c.make_room.result sends.mine (c.requires.ready.own (c.args.node - 1) p there).right)

pub returns-clause-sends : goal.returns-clause-sends
returns-clause-sends g c =
    let d = c.args.self.now in
    let p = c.index_mut.result.now in
    let q = c.make_room.new.pass in
    let there = here c.args.node d.passes.items c.requires.there p c.index_mut.ensures.value in
    let notes = room_notes c.args.who c.args.n c.make_room.result in
    let own = (c.requires.ready.own (c.args.node - 1) p there).numbered in
    sends_at d.passes.items (c.args.node - 1) p there (turned p q) c.args.node notes (up c.args.node c.requires.there.some)
    (sends_some p.place q notes TellsNothing (room_sent c.args.who c.args.n p.place.me.0.number c.make_room.result own) c.make_room.ensures.sends)

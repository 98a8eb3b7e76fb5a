use Rattle.std.proofs.Common.{arith, ◌≡◌, ◌-◌, ◌∙◌, sym, length}
use Rattle.cq_cluster.specs.Steps.{IsStoreOf}
use Rattle.cq_shared.specs.Errands.{node_in}
use Rattle.cq_shared.specs.Stocks.{give_notes}
use Rattle.cq_block_move.proofs.Calling.{turned, here, low_pass, low_cell, on_node, steady_on, up, at_cell, again, sends_at, each_of, give_right}
use Rattle.cq_block_move.proofs.benches.Benches.give.Goals as goal

pub bounds-self-place : goal.bounds-self-place
bounds-self-place g c =
    let d = c.args.self.now in
    low_cell g.S.Store.state g.L.Legality.terms _ d.cells.now d.sessions.value.items c.args.who.session d.passes.items c.requires.ready (c.args.node - 1) c.requires.there.pass c.requires.there.there

pub index_mut-requires : goal.index_mut-requires
index_mut-requires g c =
    let d = c.args.self.now in
    let low = low_pass g.S.Store.state g.L.Legality.terms _ d.cells.now d.sessions.value.items c.args.who.session d.passes.items c.requires.ready (c.args.node - 1) c.requires.there.pass c.requires.there.there in
    omega (arith, low, d.passes.ok.0)

pub give_all-requires-clause-at : goal.give_all-requires-clause-at
give_all-requires-clause-at g c =
    let d = c.args.self.now in
    let p = c.index_mut.result.now in
    let there = here c.args.node d.passes.items c.requires.there p c.index_mut.ensures.value in
    at_cell g.S.Store.state g.L.Legality.terms _ d.cells.now d.sessions.value.items c.args.who.session d.passes.items c.requires.ready (c.args.node - 1) p there c.index-self-place.result c.index-self-place.is

pub give_all-requires-clause-rests : goal.give_all-requires-clause-rests
give_all-requires-clause-rests g c =
    let p = c.index_mut.result.now in
    let there = here c.args.node c.args.self.now.passes.items c.requires.there p c.index_mut.ensures.value in
    (c.requires.ready.own (c.args.node - 1) p there).rests

pub give_all-requires-clause-own : goal.give_all-requires-clause-own
give_all-requires-clause-own g c =
    let p = c.index_mut.result.now in
    let there = here c.args.node c.args.self.now.passes.items c.requires.there p c.index_mut.ensures.value in
    (c.requires.ready.own (c.args.node - 1) p there).numbered

pub give_all-requires-clause-on : goal.give_all-requires-clause-on
give_all-requires-clause-on g c =
    let p = c.index_mut.result.now in
    let passes = c.args.self.now.passes.items in
    let there = here c.args.node passes c.requires.there p c.index_mut.ensures.value in
    let on = on_node c.args.node passes c.requires.there p there in
    let state = g.S.Store.state in
    each_of (λ x. IsStoreOf c.args.node (state x)) (λ x. (state x).node ≡ node_in p.place.me.0.origin) c.args.stores.items (λ x h. h ∙ sym on) c.requires.on

pub give_all-requires-clause-steady : goal.give_all-requires-clause-steady
give_all-requires-clause-steady g c k h =
    let p = c.index_mut.result.now in
    let passes = c.args.self.now.passes.items in
    let there = here c.args.node passes c.requires.there p c.index_mut.ensures.value in
    c.requires.steady k (steady_on g.L.Legality.terms c.args.node passes p there k h)

pub give_all-requires-clause-owed : goal.give_all-requires-clause-owed
give_all-requires-clause-owed g c =
    let p = c.index_mut.result.now in
    let there = here c.args.node c.args.self.now.passes.items c.requires.there p c.index_mut.ensures.value in
    c.requires.owed p there

pub returns-clause-ready : goal.returns-clause-ready
returns-clause-ready g c =
    let d = c.args.self.now in
    let p = c.index_mut.result.now in
    let q = c.give_all.new.pass in
    let there = here c.args.node d.passes.items c.requires.there p c.index_mut.ensures.value in
    let sends = c.give_all.ensures.sends in
    again g.S.Store.state g.L.Legality.terms _ d.cells.now d.sessions.value.items c.args.who.session d.passes.items c.requires.ready (c.args.node - 1) p there (turned p q) sends.same c.give_all.ensures.rests (c.give_all.ensures.stood (c.requires.ready.own (c.args.node - 1) p there).kept)
    (give_right p.place.me.0.mine q.me.0.mine c.args.who (length c.args.stores.items) sends.mine (c.requires.owed p there))

pub returns-clause-sends : goal.returns-clause-sends
returns-clause-sends g c =
    let d = c.args.self.now in
    let p = c.index_mut.result.now in
    let there = here c.args.node d.passes.items c.requires.there p c.index_mut.ensures.value in
    sends_at d.passes.items (c.args.node - 1) p there (turned p c.give_all.new.pass) c.args.node (give_notes c.args.who (length c.args.stores.items)) (up c.args.node c.requires.there.some) c.give_all.ensures.sends

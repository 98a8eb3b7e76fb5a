use Rattle.std.proofs.Common.{arith, ◌-◌, ℕ, subst}
use Rattle.cq_value.proofs.Lists.{if_ok}
use Rattle.cq_shared.specs.Errands.{Sends, SteadyAt, TellsTake, take_notes}
use Rattle.cq_shared.proofs.Turning.{one_set}
use Rattle.cq_move_calls.specs.Moving.{AreSteadyOn}
use Rattle.cq_block_move.specs.Benches.{SteadyOn}
use Rattle.cq_block_move.proofs.Calling.{turned, here, low_pass, low_cell, on_node, at_cell, again, take_right}
use Rattle.cq_block_move.proofs.benches.Benches.take.Goals as goal

pub bounds-self-place : goal.bounds-self-place
bounds-self-place g c =
    let d = c.args.self.now in
    low_cell g.S.Store.state g.L.Legality.terms _ d.cells.now d.sessions.value.items c.args.who.session d.passes.items c.requires.ready (c.args.node - 1) c.requires.there.pass c.requires.there.there

pub index_mut-requires : goal.index_mut-requires
index_mut-requires g c =
    let d = c.args.self.now in
    let low = low_pass g.S.Store.state g.L.Legality.terms _ d.cells.now d.sessions.value.items c.args.who.session d.passes.items c.requires.ready (c.args.node - 1) c.requires.there.pass c.requires.there.there in
    omega (arith, low, d.passes.ok.0)

pub take_spare-requires-clause-at : goal.take_spare-requires-clause-at
take_spare-requires-clause-at g c =
    let d = c.args.self.now in
    let p = c.index_mut.result.now in
    let there = here c.args.node d.passes.items c.requires.there p c.index_mut.ensures.value in
    at_cell g.S.Store.state g.L.Legality.terms _ d.cells.now d.sessions.value.items c.args.who.session d.passes.items c.requires.ready (c.args.node - 1) p there c.index-self-place.result c.index-self-place.is

pub take_spare-requires-clause-rests : goal.take_spare-requires-clause-rests
take_spare-requires-clause-rests g c =
    let p = c.index_mut.result.now in
    let there = here c.args.node c.args.self.now.passes.items c.requires.there p c.index_mut.ensures.value in
    (c.requires.ready.own (c.args.node - 1) p there).rests

pub take_spare-requires-clause-own : goal.take_spare-requires-clause-own
take_spare-requires-clause-own g c =
    let p = c.index_mut.result.now in
    let there = here c.args.node c.args.self.now.passes.items c.requires.there p c.index_mut.ensures.value in
    (c.requires.ready.own (c.args.node - 1) p there).numbered

pub returns-clause-ready : goal.returns-clause-ready
returns-clause-ready g c =
    let d = c.args.self.now in
    let p = c.index_mut.result.now in
    let q = c.take_spare.new.pass in
    let there = here c.args.node d.passes.items c.requires.there p c.index_mut.ensures.value in
    let sends = c.take_spare.ensures.sends in
    again g.S.Store.state g.L.Legality.terms _ d.cells.now d.sessions.value.items c.args.who.session d.passes.items c.requires.ready (c.args.node - 1) p there (turned p q) sends.same c.take_spare.ensures.rests c.take_spare.ensures.stood
    (take_right p.place.me.0.mine q.me.0.mine c.args.who c.args.n c.take_spare.result sends.mine (c.requires.ready.own (c.args.node - 1) p there).right)

pub returns-clause-sends : goal.returns-clause-sends
returns-clause-sends g c =
    let d = c.args.self.now in
    let p = c.index_mut.result.now in
    let q = c.take_spare.new.pass in
    let there = here c.args.node d.passes.items c.requires.there p c.index_mut.ensures.value in
    let state = g.S.Store.state in
    let notes = take_notes c.args.who c.args.n c.take_spare.result in
    one_set (c.args.node - 1) (λ a b. Sends a.place notes b.place (TellsTake state c.args.node c.args.n c.take_spare.result)) d.passes.items p (turned p q) there
    (subst (λ (node : ℕ). Sends p.place notes q (TellsTake state node c.args.n c.take_spare.result)) (on_node c.args.node d.passes.items c.requires.there p there) c.take_spare.ensures.sends)

pub returns-clause-steady : goal.returns-clause-steady
returns-clause-steady g c =
    let d = c.args.self.now in
    let p = c.index_mut.result.now in
    let there = here c.args.node d.passes.items c.requires.there p c.index_mut.ensures.value in
    let state = g.S.Store.state in
    let terms = g.L.Legality.terms in
    if_ok c.take_spare.result (λ stores. (k : ℕ) → SteadyAt terms p.place k → AreSteadyOn state k stores.items) (λ stores. (k : ℕ) → SteadyOn terms c.args.node d.passes.items k → AreSteadyOn state k stores.items) (λ stores h k on. h k (on p there)) c.take_spare.ensures.steady

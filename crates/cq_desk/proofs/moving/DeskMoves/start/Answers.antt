use Rattle.std.proofs.Common.{◌≡◌, refl, length, OnOk, IfOk}
use Rattle.cq_tree.specs.declared.journal.EntryKind.TheVariants.{MoveStart}
use Rattle.cq_move_calls.specs.Moving.{ComesIn, IsMover, TellsStart, kinds_on}
use Rattle.cq_shared.specs.Moving.{start_notes}
use Rattle.cq_desk.proofs.Meeting.{at_cell}
use Rattle.cq_desk.proofs.Moves as laws
use Rattle.cq_desk.proofs.moving.DeskMoves.start.Goals as goal

pub start-requires-clause-at : goal.start-requires-clause-at
start-requires-clause-at g c =
    let passes = c.args.self.now.passes.items in
    let p = c.index_mut.result.now in
    at_cell _ c.args.self.now.cells.now passes c.args.group c.index-self-place.result p c.requires.ready.ready.at (laws.there g.S.Store.state g.L.Legality.terms _ c.args.self.now.sessions.value.items passes c.args.who c.args.group c.requires.ready p c.index_mut.ensures.value) c.index-self-place.is

pub start-requires-clause-rests : goal.start-requires-clause-rests
start-requires-clause-rests g c =
    let passes = c.args.self.now.passes.items in
    let p = c.index_mut.result.now in
    (laws.own g.S.Store.state g.L.Legality.terms _ c.args.self.now.sessions.value.items passes c.args.who c.args.group c.requires.ready p c.index_mut.ensures.value).rests

pub start-requires-clause-own : goal.start-requires-clause-own
start-requires-clause-own g c =
    let passes = c.args.self.now.passes.items in
    let p = c.index_mut.result.now in
    (laws.own g.S.Store.state g.L.Legality.terms _ c.args.self.now.sessions.value.items passes c.args.who c.args.group c.requires.ready p c.index_mut.ensures.value).numbered

pub start-requires-clause-may : goal.start-requires-clause-may
start-requires-clause-may g c =
    λ rules ruled. g.L.Legality.steps rules _ (MoveStart c.args.to) refl

pub start-requires-clause-distributed : goal.start-requires-clause-distributed
start-requires-clause-distributed g c =
    let passes = c.args.self.now.passes.items in
    let p = c.index_mut.result.now in
    laws.distributed g.S.Store.state g.L.Legality.terms _ c.args.self.now.sessions.value.items passes c.args.who c.args.group c.requires.ready p c.index_mut.ensures.value c.requires.distributed

pub start-requires-clause-somewhere : goal.start-requires-clause-somewhere
start-requires-clause-somewhere g c =
    c.requires.reaches.0

pub start-requires-clause-reach : goal.start-requires-clause-reach
start-requires-clause-reach g c =
    let passes = c.args.self.now.passes.items in
    let p = c.index_mut.result.now in
    c.requires.reaches.1 c.args.group p (laws.there g.S.Store.state g.L.Legality.terms _ c.args.self.now.sessions.value.items passes c.args.who c.args.group c.requires.ready p c.index_mut.ensures.value)

pub start-requires-clause-one : goal.start-requires-clause-one
start-requires-clause-one g c =
    let passes = c.args.self.now.passes.items in
    let p = c.index_mut.result.now in
    laws.knows g.S.Store.state g.L.Legality.terms _ c.args.self.now.sessions.value.items passes c.args.who c.args.group c.requires.ready p c.index_mut.ensures.value (λ s. length c.args.stores.items ≡ length s.tables) c.requires.one

pub returns-clause-ready : goal.returns-clause-ready
returns-clause-ready g c =
    let passes = c.args.self.now.passes.items in
    let p = c.index_mut.result.now in
    laws.can_again g.S.Store.state g.L.Legality.terms _ c.args.self.now.sessions.value.items passes c.args.who c.args.group c.requires.ready p c.index_mut.ensures.value c.start.new.pass (start_notes c.args.who c.args.to c.start.result) (TellsStart c.args.to c.args.from c.start.result) c.start.ensures.looks c.start.ensures.rests

pub returns-clause-keeps : goal.returns-clause-keeps
returns-clause-keeps g c =
    let passes = c.args.self.now.passes.items in
    let p = c.index_mut.result.now in
    (refl, refl, laws.kept g.S.Store.state g.L.Legality.terms _ c.args.self.now.sessions.value.items passes c.args.who c.args.group c.requires.ready p c.index_mut.ensures.value c.start.new.pass (start_notes c.args.who c.args.to c.start.result) (TellsStart c.args.to c.args.from c.start.result) c.start.ensures.looks)

pub returns-clause-told : goal.returns-clause-told
returns-clause-told g c =
    let passes = c.args.self.now.passes.items in
    let p = c.index_mut.result.now in
    laws.told g.S.Store.state g.L.Legality.terms _ c.args.self.now.sessions.value.items passes c.args.who c.args.group c.requires.ready p c.index_mut.ensures.value c.start.new.pass (start_notes c.args.who c.args.to c.start.result) (TellsStart c.args.to c.args.from c.start.result) c.start.ensures.looks (kinds_on (MoveStart c.args.to) c.start.result) (laws.start_entries c.args.who c.args.to c.start.result)

pub returns-clause-mover : goal.returns-clause-mover
returns-clause-mover g c =
    let passes = c.args.self.now.passes.items in
    let p = c.index_mut.result.now in
    laws.knows_after g.S.Store.state g.L.Legality.terms _ c.args.self.now.sessions.value.items passes c.args.who c.args.group c.requires.ready p c.index_mut.ensures.value c.start.new.pass (λ s. OnOk c.start.result (IsMover c.args.who s)) c.start.ensures.mover

pub returns-clause-incoming : goal.returns-clause-incoming
returns-clause-incoming g c =
    let passes = c.args.self.now.passes.items in
    let p = c.index_mut.result.now in
    laws.knows_after g.S.Store.state g.L.Legality.terms _ c.args.self.now.sessions.value.items passes c.args.who c.args.group c.requires.ready p c.index_mut.ensures.value c.start.new.pass (λ s. IfOk c.start.result (ComesIn g.S.Store.state s)) c.start.ensures.incoming

pub returns-clause-failed : goal.returns-clause-failed
returns-clause-failed g c =
    let passes = c.args.self.now.passes.items in
    let p = c.index_mut.result.now in
    laws.failed g.S.Store.state g.L.Legality.terms _ c.args.self.now.sessions.value.items passes c.args.who c.args.group c.requires.ready p c.index_mut.ensures.value c.start.new.pass c.args.to c.start.result (TellsStart c.args.to c.args.from c.start.result) c.start.ensures.looks

use Rattle.std.proofs.Common.{[], ◌∷◌, refl}
use Rattle.cq_tree.specs.declared.journal.EntryKind.TheVariants.{MoveStop}
use Rattle.cq_move_calls.specs.Moving.{IsMover, TellsAnything}
use Rattle.cq_shared.specs.Moving.{entered}
use Rattle.cq_desk.proofs.Meeting.{at_cell}
use Rattle.cq_desk.proofs.Moves as laws
use Rattle.cq_desk.proofs.moving.DeskMoves.stop.Goals as goal

pub stop-requires-clause-at : goal.stop-requires-clause-at
stop-requires-clause-at g c =
    let passes = c.args.self.now.passes.items in
    let p = c.index_mut.result.now in
    at_cell _ c.args.self.now.cells.now passes c.args.group c.index-self-place.result p c.requires.ready.ready.at (laws.there g.S.Store.state g.L.Legality.terms _ c.args.self.now.sessions.value.items passes c.args.who c.args.group c.requires.ready p c.index_mut.ensures.value) c.index-self-place.is

pub stop-requires-clause-rests : goal.stop-requires-clause-rests
stop-requires-clause-rests g c =
    let passes = c.args.self.now.passes.items in
    let p = c.index_mut.result.now in
    (laws.own g.S.Store.state g.L.Legality.terms _ c.args.self.now.sessions.value.items passes c.args.who c.args.group c.requires.ready p c.index_mut.ensures.value).rests

pub stop-requires-clause-own : goal.stop-requires-clause-own
stop-requires-clause-own g c =
    let passes = c.args.self.now.passes.items in
    let p = c.index_mut.result.now in
    (laws.own g.S.Store.state g.L.Legality.terms _ c.args.self.now.sessions.value.items passes c.args.who c.args.group c.requires.ready p c.index_mut.ensures.value).numbered

pub stop-requires-clause-may : goal.stop-requires-clause-may
stop-requires-clause-may g c =
    λ rules ruled. g.L.Legality.steps rules _ MoveStop refl

pub stop-requires-clause-mover : goal.stop-requires-clause-mover
stop-requires-clause-mover g c =
    let passes = c.args.self.now.passes.items in
    let p = c.index_mut.result.now in
    laws.knows g.S.Store.state g.L.Legality.terms _ c.args.self.now.sessions.value.items passes c.args.who c.args.group c.requires.ready p c.index_mut.ensures.value (IsMover c.args.who) c.requires.mover

pub returns-clause-ready : goal.returns-clause-ready
returns-clause-ready g c =
    let passes = c.args.self.now.passes.items in
    let p = c.index_mut.result.now in
    laws.can_again g.S.Store.state g.L.Legality.terms _ c.args.self.now.sessions.value.items passes c.args.who c.args.group c.requires.ready p c.index_mut.ensures.value c.stop.new.pass (entered c.args.who MoveStop ∷ []) TellsAnything c.stop.ensures.looks c.stop.ensures.rests

pub returns-clause-keeps : goal.returns-clause-keeps
returns-clause-keeps g c =
    let passes = c.args.self.now.passes.items in
    let p = c.index_mut.result.now in
    (refl, refl, laws.kept g.S.Store.state g.L.Legality.terms _ c.args.self.now.sessions.value.items passes c.args.who c.args.group c.requires.ready p c.index_mut.ensures.value c.stop.new.pass (entered c.args.who MoveStop ∷ []) TellsAnything c.stop.ensures.looks)

pub returns-clause-told : goal.returns-clause-told
returns-clause-told g c =
    let passes = c.args.self.now.passes.items in
    let p = c.index_mut.result.now in
    laws.told_aside g.S.Store.state g.L.Legality.terms _ c.args.self.now.sessions.value.items passes c.args.who c.args.group c.requires.ready p c.index_mut.ensures.value c.stop.new.pass (entered c.args.who MoveStop ∷ []) TellsAnything c.stop.ensures.looks (MoveStop ∷ []) refl (laws.knows g.S.Store.state g.L.Legality.terms _ c.args.self.now.sessions.value.items passes c.args.who c.args.group c.requires.ready p c.index_mut.ensures.value (IsMover c.args.who) c.requires.mover)

use Rattle.std.proofs.Common.{refl, OnErr}
use Rattle.cq_tree.specs.declared.journal.EntryKind.TheVariants.{Cutover}
use Rattle.cq_group.specs.Incoming.{arriving}
use Rattle.cq_move_calls.specs.Moving.{AreSteadyOn, ComesIn, IsMover, TellsExchanged, kinds_on}
use Rattle.cq_shared.specs.Moving.{notes_of}
use Rattle.cq_desk.proofs.Meeting.{at_cell}
use Rattle.cq_desk.proofs.Moves as laws
use Rattle.cq_desk.proofs.moving.DeskMoves.cutover.Goals as goal

pub cutover-requires-clause-at : goal.cutover-requires-clause-at
cutover-requires-clause-at g c =
    let passes = c.args.self.now.passes.items in
    let p = c.index_mut.result.now in
    at_cell _ c.args.self.now.cells.now passes c.args.group c.index-self-place.result p c.requires.ready.ready.at (laws.there g.S.Store.state g.L.Legality.terms _ c.args.self.now.sessions.value.items passes c.args.who c.args.group c.requires.ready p c.index_mut.ensures.value) c.index-self-place.is

pub cutover-requires-clause-rests : goal.cutover-requires-clause-rests
cutover-requires-clause-rests g c =
    let passes = c.args.self.now.passes.items in
    let p = c.index_mut.result.now in
    (laws.own g.S.Store.state g.L.Legality.terms _ c.args.self.now.sessions.value.items passes c.args.who c.args.group c.requires.ready p c.index_mut.ensures.value).rests

pub cutover-requires-clause-own : goal.cutover-requires-clause-own
cutover-requires-clause-own g c =
    let passes = c.args.self.now.passes.items in
    let p = c.index_mut.result.now in
    (laws.own g.S.Store.state g.L.Legality.terms _ c.args.self.now.sessions.value.items passes c.args.who c.args.group c.requires.ready p c.index_mut.ensures.value).numbered

pub cutover-requires-clause-may : goal.cutover-requires-clause-may
cutover-requires-clause-may g c =
    λ rules ruled. g.L.Legality.steps rules _ Cutover refl

pub cutover-requires-clause-mover : goal.cutover-requires-clause-mover
cutover-requires-clause-mover g c =
    let passes = c.args.self.now.passes.items in
    let p = c.index_mut.result.now in
    laws.knows g.S.Store.state g.L.Legality.terms _ c.args.self.now.sessions.value.items passes c.args.who c.args.group c.requires.ready p c.index_mut.ensures.value (IsMover c.args.who) c.requires.mover

pub cutover-requires-clause-incoming : goal.cutover-requires-clause-incoming
cutover-requires-clause-incoming g c =
    let passes = c.args.self.now.passes.items in
    let p = c.index_mut.result.now in
    laws.knows g.S.Store.state g.L.Legality.terms _ c.args.self.now.sessions.value.items passes c.args.who c.args.group c.requires.ready p c.index_mut.ensures.value (λ s. ComesIn g.S.Store.state s c.args.incoming) c.requires.incoming

pub cutover-requires-clause-spares : goal.cutover-requires-clause-spares
cutover-requires-clause-spares g c =
    let passes = c.args.self.now.passes.items in
    let p = c.index_mut.result.now in
    laws.spares g.S.Store.state g.L.Legality.terms _ c.args.self.now.sessions.value.items passes c.args.who c.args.group c.requires.ready p c.index_mut.ensures.value (λ node. AreSteadyOn g.S.Store.state node (arriving c.args.incoming)) c.requires.spared

pub returns-clause-ready : goal.returns-clause-ready
returns-clause-ready g c =
    let passes = c.args.self.now.passes.items in
    let p = c.index_mut.result.now in
    laws.can_again g.S.Store.state g.L.Legality.terms _ c.args.self.now.sessions.value.items passes c.args.who c.args.group c.requires.ready p c.index_mut.ensures.value c.cutover.new.pass (notes_of c.args.who Cutover c.cutover.result) (TellsExchanged g.S.Store.state c.cutover.result) c.cutover.ensures.looks c.cutover.ensures.rests

pub returns-clause-keeps : goal.returns-clause-keeps
returns-clause-keeps g c =
    let passes = c.args.self.now.passes.items in
    let p = c.index_mut.result.now in
    (refl, refl, laws.kept g.S.Store.state g.L.Legality.terms _ c.args.self.now.sessions.value.items passes c.args.who c.args.group c.requires.ready p c.index_mut.ensures.value c.cutover.new.pass (notes_of c.args.who Cutover c.cutover.result) (TellsExchanged g.S.Store.state c.cutover.result) c.cutover.ensures.looks)

pub returns-clause-told : goal.returns-clause-told
returns-clause-told g c =
    let passes = c.args.self.now.passes.items in
    let p = c.index_mut.result.now in
    laws.told_aside g.S.Store.state g.L.Legality.terms _ c.args.self.now.sessions.value.items passes c.args.who c.args.group c.requires.ready p c.index_mut.ensures.value c.cutover.new.pass (notes_of c.args.who Cutover c.cutover.result) (TellsExchanged g.S.Store.state c.cutover.result) c.cutover.ensures.looks (kinds_on Cutover c.cutover.result) (laws.step_entries c.args.who Cutover c.cutover.result) (laws.knows g.S.Store.state g.L.Legality.terms _ c.args.self.now.sessions.value.items passes c.args.who c.args.group c.requires.ready p c.index_mut.ensures.value (IsMover c.args.who) c.requires.mover)

pub returns-clause-steady : goal.returns-clause-steady
returns-clause-steady g c =
    let passes = c.args.self.now.passes.items in
    let p = c.index_mut.result.now in
    laws.steady g.S.Store.state g.L.Legality.terms _ c.args.self.now.sessions.value.items passes c.args.who c.args.group c.requires.ready p c.index_mut.ensures.value c.cutover.new.pass (notes_of c.args.who Cutover c.cutover.result) (TellsExchanged g.S.Store.state c.cutover.result) c.cutover.ensures.looks c.cutover.result (λ node. AreSteadyOn g.S.Store.state node (arriving c.args.incoming)) (λ e node. AreSteadyOn g.S.Store.state node e.stores.items) c.cutover.ensures.steady

pub returns-clause-mover : goal.returns-clause-mover
returns-clause-mover g c =
    let passes = c.args.self.now.passes.items in
    let p = c.index_mut.result.now in
    laws.knows_after g.S.Store.state g.L.Legality.terms _ c.args.self.now.sessions.value.items passes c.args.who c.args.group c.requires.ready p c.index_mut.ensures.value c.cutover.new.pass (λ s. OnErr c.cutover.result (IsMover c.args.who s)) c.cutover.ensures.mover

use Rattle.std.proofs.Common.{refl}
use Rattle.cq_tree.specs.declared.journal.EntryKind.TheVariants.{CatchUp}
use Rattle.cq_move_calls.specs.Moving.{ComesIn, IsMover, TellsChanges, kinds_on}
use Rattle.cq_shared.specs.Moving.{notes_of}
use Rattle.cq_desk.proofs.Meeting.{at_cell}
use Rattle.cq_desk.proofs.Moves as laws
use Rattle.cq_desk.proofs.moving.DeskMoves.catch_up.Goals as goal

pub catch_up-requires-clause-at : goal.catch_up-requires-clause-at
catch_up-requires-clause-at g c =
    let passes = c.args.self.now.passes.items in
    let p = c.index_mut.result.now in
    at_cell _ c.args.self.now.cells.now passes c.args.group c.index-self-place.result p c.requires.ready.ready.at (laws.there g.S.Store.state g.L.Legality.terms _ c.args.self.now.sessions.value.items passes c.args.who c.args.group c.requires.ready p c.index_mut.ensures.value) c.index-self-place.is

pub catch_up-requires-clause-rests : goal.catch_up-requires-clause-rests
catch_up-requires-clause-rests g c =
    let passes = c.args.self.now.passes.items in
    let p = c.index_mut.result.now in
    (laws.own g.S.Store.state g.L.Legality.terms _ c.args.self.now.sessions.value.items passes c.args.who c.args.group c.requires.ready p c.index_mut.ensures.value).rests

pub catch_up-requires-clause-own : goal.catch_up-requires-clause-own
catch_up-requires-clause-own g c =
    let passes = c.args.self.now.passes.items in
    let p = c.index_mut.result.now in
    (laws.own g.S.Store.state g.L.Legality.terms _ c.args.self.now.sessions.value.items passes c.args.who c.args.group c.requires.ready p c.index_mut.ensures.value).numbered

pub catch_up-requires-clause-may : goal.catch_up-requires-clause-may
catch_up-requires-clause-may g c =
    λ rules ruled. g.L.Legality.steps rules _ CatchUp refl

pub catch_up-requires-clause-mover : goal.catch_up-requires-clause-mover
catch_up-requires-clause-mover g c =
    let passes = c.args.self.now.passes.items in
    let p = c.index_mut.result.now in
    laws.knows g.S.Store.state g.L.Legality.terms _ c.args.self.now.sessions.value.items passes c.args.who c.args.group c.requires.ready p c.index_mut.ensures.value (IsMover c.args.who) c.requires.mover

pub catch_up-requires-clause-incoming : goal.catch_up-requires-clause-incoming
catch_up-requires-clause-incoming g c =
    let passes = c.args.self.now.passes.items in
    let p = c.index_mut.result.now in
    laws.knows g.S.Store.state g.L.Legality.terms _ c.args.self.now.sessions.value.items passes c.args.who c.args.group c.requires.ready p c.index_mut.ensures.value (λ s. ComesIn g.S.Store.state s c.args.incoming.now) c.requires.incoming

pub returns-clause-ready : goal.returns-clause-ready
returns-clause-ready g c =
    let passes = c.args.self.now.passes.items in
    let p = c.index_mut.result.now in
    laws.can_again g.S.Store.state g.L.Legality.terms _ c.args.self.now.sessions.value.items passes c.args.who c.args.group c.requires.ready p c.index_mut.ensures.value c.catch_up.new.pass (notes_of c.args.who CatchUp c.catch_up.result) (TellsChanges c.catch_up.result) c.catch_up.ensures.looks c.catch_up.ensures.rests

pub returns-clause-keeps : goal.returns-clause-keeps
returns-clause-keeps g c =
    let passes = c.args.self.now.passes.items in
    let p = c.index_mut.result.now in
    (refl, refl, laws.kept g.S.Store.state g.L.Legality.terms _ c.args.self.now.sessions.value.items passes c.args.who c.args.group c.requires.ready p c.index_mut.ensures.value c.catch_up.new.pass (notes_of c.args.who CatchUp c.catch_up.result) (TellsChanges c.catch_up.result) c.catch_up.ensures.looks)

pub returns-clause-told : goal.returns-clause-told
returns-clause-told g c =
    let passes = c.args.self.now.passes.items in
    let p = c.index_mut.result.now in
    laws.told_aside g.S.Store.state g.L.Legality.terms _ c.args.self.now.sessions.value.items passes c.args.who c.args.group c.requires.ready p c.index_mut.ensures.value c.catch_up.new.pass (notes_of c.args.who CatchUp c.catch_up.result) (TellsChanges c.catch_up.result) c.catch_up.ensures.looks (kinds_on CatchUp c.catch_up.result) (laws.step_entries c.args.who CatchUp c.catch_up.result) (laws.knows g.S.Store.state g.L.Legality.terms _ c.args.self.now.sessions.value.items passes c.args.who c.args.group c.requires.ready p c.index_mut.ensures.value (IsMover c.args.who) c.requires.mover)

pub returns-clause-mover : goal.returns-clause-mover
returns-clause-mover g c =
    let passes = c.args.self.now.passes.items in
    let p = c.index_mut.result.now in
    laws.knows_after g.S.Store.state g.L.Legality.terms _ c.args.self.now.sessions.value.items passes c.args.who c.args.group c.requires.ready p c.index_mut.ensures.value c.catch_up.new.pass (IsMover c.args.who) c.catch_up.ensures.mover

pub returns-clause-incoming : goal.returns-clause-incoming
returns-clause-incoming g c =
    let passes = c.args.self.now.passes.items in
    let p = c.index_mut.result.now in
    laws.knows_after g.S.Store.state g.L.Legality.terms _ c.args.self.now.sessions.value.items passes c.args.who c.args.group c.requires.ready p c.index_mut.ensures.value c.catch_up.new.pass (λ s. ComesIn g.S.Store.state s c.catch_up.new.incoming) c.catch_up.ensures.incoming

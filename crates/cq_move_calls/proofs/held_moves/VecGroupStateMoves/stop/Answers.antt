use Rattle.std.proofs.Common.{[], ◌∷◌}
use Rattle.cq_tree.specs.declared.journal.EntryKind.TheVariants.{MoveStop}
use Rattle.cq_move_calls.specs.Moving.{ComesAside, TellsAnything, Told}
use Rattle.cq_move_calls.proofs.CallLaws as laws
use Rattle.cq_move_calls.proofs.held_moves.VecGroupStateMoves.stop.Goals as goal

pub returns-clause-ready : goal.returns-clause-ready
returns-clause-ready g c =
    let state = g.S.Store.state in
    let groups = c.args.self.now.items in
    let was = c.index_mut.result.now in
    let is = c.stop_move.new.self in
    laws.rests state c.args.group groups was c.requires.ready c.index_mut.ensures.value is c.stop_move.ensures.resting

pub returns-clause-keeps : goal.returns-clause-keeps
returns-clause-keeps g c =
    let state = g.S.Store.state in
    let groups = c.args.self.now.items in
    let was = c.index_mut.result.now in
    let is = c.stop_move.new.self in
    laws.stays_kept state c.args.group groups was c.requires.ready c.index_mut.ensures.value is

pub returns-clause-goes_on : goal.returns-clause-goes_on
returns-clause-goes_on g c =
    let state = g.S.Store.state in
    let groups = c.args.self.now.items in
    let was = c.index_mut.result.now in
    let is = c.stop_move.new.self in
    laws.went_on state c.args.group groups was c.requires.ready c.index_mut.ensures.value is c.stop_move.ensures.goes_on

pub returns-clause-told : goal.returns-clause-told
returns-clause-told g c =
    let state = g.S.Store.state in
    let groups = c.args.self.now.items in
    let was = c.index_mut.result.now in
    let is = c.stop_move.new.self in
    laws.among state c.args.group groups was c.requires.ready c.index_mut.ensures.value is (λ s t. Told (ComesAside (λ e. ⊥)) c.args.who (MoveStop ∷ []) TellsAnything s t)
    (laws.told_entered state was is c.args.who c.stop_move.ensures.goes_on (laws.rested state c.args.group groups was c.requires.ready c.index_mut.ensures.value) (ComesAside (λ e. ⊥)) MoveStop TellsAnything tt c.stop_move.ensures.entry)

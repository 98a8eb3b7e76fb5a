use Rattle.std.proofs.Common.{IfOk, OnOk}
use Rattle.cq_tree.specs.declared.journal.EntryKind.TheVariants.{MoveStart}
use Rattle.cq_move_calls.specs.Moving.{ComesIn, IsMover, TellsStart, Told, kinds_on}
use Rattle.cq_move_calls.proofs.CallLaws as laws
use Rattle.cq_move_calls.proofs.held_moves.VecGroupStateMoves.start.Goals as goal

pub returns-clause-ready : goal.returns-clause-ready
returns-clause-ready g c =
    let state = g.S.Store.state in
    let groups = c.args.self.now.items in
    let was = c.index_mut.result.now in
    let is = c.start_move.new.self in
    laws.rests state c.args.group groups was c.requires.ready c.index_mut.ensures.value is c.start_move.ensures.resting

pub returns-clause-keeps : goal.returns-clause-keeps
returns-clause-keeps g c =
    let state = g.S.Store.state in
    let groups = c.args.self.now.items in
    let was = c.index_mut.result.now in
    let is = c.start_move.new.self in
    laws.stays_kept state c.args.group groups was c.requires.ready c.index_mut.ensures.value is

pub returns-clause-goes_on : goal.returns-clause-goes_on
returns-clause-goes_on g c =
    let state = g.S.Store.state in
    let groups = c.args.self.now.items in
    let was = c.index_mut.result.now in
    let is = c.start_move.new.self in
    laws.went_on state c.args.group groups was c.requires.ready c.index_mut.ensures.value is c.start_move.ensures.goes_on

pub returns-clause-told : goal.returns-clause-told
returns-clause-told g c =
    let state = g.S.Store.state in
    let groups = c.args.self.now.items in
    let was = c.index_mut.result.now in
    let is = c.start_move.new.self in
    let rested = laws.rested state c.args.group groups was c.requires.ready c.index_mut.ensures.value in
    laws.among state c.args.group groups was c.requires.ready c.index_mut.ensures.value is (λ s t. Told (λ e. ⊥) c.args.who (kinds_on (MoveStart c.args.to) c.start_move.result) (TellsStart c.args.to c.args.from c.start_move.result) s t)
    (laws.told_by state was is c.args.who c.start_move.ensures.goes_on rested (λ e. ⊥) (MoveStart c.args.to) (TellsStart c.args.to c.args.from c.start_move.result) c.start_move.result
    (laws.tells_start state was is c.args.who c.start_move.ensures.goes_on rested c.args.to c.args.from c.start_move.result c.start_move.ensures.start c.start_move.ensures.why c.start_move.ensures.due) c.start_move.ensures.entry c.start_move.ensures.err)

pub returns-clause-mover : goal.returns-clause-mover
returns-clause-mover g c =
    let state = g.S.Store.state in
    let groups = c.args.self.now.items in
    let was = c.index_mut.result.now in
    let is = c.start_move.new.self in
    laws.among state c.args.group groups was c.requires.ready c.index_mut.ensures.value is (λ s t. OnOk c.start_move.result (IsMover c.args.who t)) (laws.start_mover state was is c.args.who c.start_move.ensures.goes_on (laws.rested state c.args.group groups was c.requires.ready c.index_mut.ensures.value) c.args.to c.start_move.result c.start_move.ensures.entry)

pub returns-clause-incoming : goal.returns-clause-incoming
returns-clause-incoming g c =
    let state = g.S.Store.state in
    let groups = c.args.self.now.items in
    let was = c.index_mut.result.now in
    let is = c.start_move.new.self in
    laws.among state c.args.group groups was c.requires.ready c.index_mut.ensures.value is (λ s t. IfOk c.start_move.result (ComesIn state t)) (laws.start_comes state was is c.args.who c.start_move.ensures.goes_on (laws.rested state c.args.group groups was c.requires.ready c.index_mut.ensures.value) c.args.to c.start_move.result c.start_move.ensures.entry c.start_move.ensures.incoming)

pub returns-clause-failed : goal.returns-clause-failed
returns-clause-failed g c =
    let state = g.S.Store.state in
    let groups = c.args.self.now.items in
    let was = c.index_mut.result.now in
    let is = c.start_move.new.self in
    laws.failed_of state c.args.group groups was c.requires.ready c.index_mut.ensures.value is c.args.to c.args.from c.start_move.result c.start_move.ensures.why

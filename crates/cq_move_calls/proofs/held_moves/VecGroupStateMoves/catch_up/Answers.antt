use Rattle.std.proofs.Common.{subst}
use Rattle.cq_tree.specs.declared.journal.EntryKind.TheVariants.{CatchUp}
use Rattle.cq_move_calls.specs.Moving.{ComesAside, ComesIn, IsMover, TellsChanges, Told, kinds_on}
use Rattle.cq_move_calls.proofs.CallLaws as laws
use Rattle.cq_move_calls.proofs.held_moves.VecGroupStateMoves.catch_up.Goals as goal

pub returns-clause-ready : goal.returns-clause-ready
returns-clause-ready g c =
    let state = g.S.Store.state in
    let groups = c.args.self.now.items in
    let was = c.index_mut.result.now in
    let is = c.catch_up.new.self in
    laws.rests state c.args.group groups was c.requires.ready c.index_mut.ensures.value is c.catch_up.ensures.resting

pub returns-clause-keeps : goal.returns-clause-keeps
returns-clause-keeps g c =
    let state = g.S.Store.state in
    let groups = c.args.self.now.items in
    let was = c.index_mut.result.now in
    let is = c.catch_up.new.self in
    laws.stays_kept state c.args.group groups was c.requires.ready c.index_mut.ensures.value is

pub returns-clause-goes_on : goal.returns-clause-goes_on
returns-clause-goes_on g c =
    let state = g.S.Store.state in
    let groups = c.args.self.now.items in
    let was = c.index_mut.result.now in
    let is = c.catch_up.new.self in
    laws.went_on state c.args.group groups was c.requires.ready c.index_mut.ensures.value is c.catch_up.ensures.goes_on

pub returns-clause-told : goal.returns-clause-told
returns-clause-told g c =
    let state = g.S.Store.state in
    let groups = c.args.self.now.items in
    let was = c.index_mut.result.now in
    let is = c.catch_up.new.self in
    laws.among state c.args.group groups was c.requires.ready c.index_mut.ensures.value is (λ s t. Told (ComesAside (λ e. ⊥)) c.args.who (kinds_on CatchUp c.catch_up.result) (TellsChanges c.catch_up.result) s t)
    (laws.told_by state was is c.args.who c.catch_up.ensures.goes_on (laws.rested state c.args.group groups was c.requires.ready c.index_mut.ensures.value) (ComesAside (λ e. ⊥)) CatchUp (TellsChanges c.catch_up.result) c.catch_up.result (laws.tells_changes was c.catch_up.result c.catch_up.ensures.changes) c.catch_up.ensures.entry c.catch_up.ensures.err)

pub returns-clause-mover : goal.returns-clause-mover
returns-clause-mover g c =
    let state = g.S.Store.state in
    let groups = c.args.self.now.items in
    let was = c.index_mut.result.now in
    let is = c.catch_up.new.self in
    laws.among state c.args.group groups was c.requires.ready c.index_mut.ensures.value is (λ s t. IsMover c.args.who t) (laws.caught_mover state was is c.args.who c.catch_up.result c.catch_up.ensures.goes_on c.catch_up.ensures.entry c.catch_up.ensures.err (subst (IsMover c.args.who) (laws.known state c.args.group groups was c.requires.ready c.index_mut.ensures.value) c.requires.mover))

pub returns-clause-incoming : goal.returns-clause-incoming
returns-clause-incoming g c =
    let state = g.S.Store.state in
    let groups = c.args.self.now.items in
    let was = c.index_mut.result.now in
    let is = c.catch_up.new.self in
    laws.among state c.args.group groups was c.requires.ready c.index_mut.ensures.value is (λ s t. ComesIn state t c.catch_up.new.incoming)
    (laws.caught_comes state was is c.args.who c.catch_up.result c.catch_up.ensures.goes_on c.catch_up.ensures.entry c.catch_up.ensures.err c.args.incoming.now c.catch_up.new.incoming (subst (λ s. ComesIn state s c.args.incoming.now) (laws.known state c.args.group groups was c.requires.ready c.index_mut.ensures.value) c.requires.incoming) c.catch_up.ensures.incoming c.catch_up.ensures.kept)

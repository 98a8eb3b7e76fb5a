use Rattle.std.proofs.Common.{OnErr, subst}
use Rattle.cq_tree.specs.declared.journal.EntryKind.TheVariants.{Cutover}
use Rattle.cq_group.specs.Calls.{GroupGoesOn}
use Rattle.cq_group.specs.Incoming.{arriving}
use Rattle.cq_move_calls.specs.Moving.{ComesAside, IsMover, TellsExchanged, Told, kinds_on}
use Rattle.cq_move_calls.proofs.CallLaws as laws
use Rattle.cq_move_calls.proofs.held_moves.VecGroupStateMoves.cutover.Goals as goal

pub returns-clause-ready : goal.returns-clause-ready
returns-clause-ready g c =
    let state = g.S.Store.state in
    let groups = c.args.self.now.items in
    let was = c.index_mut.result.now in
    let is = c.cutover.new.self in
    laws.rests state c.args.group groups was c.requires.ready c.index_mut.ensures.value is c.cutover.ensures.resting

pub returns-clause-keeps : goal.returns-clause-keeps
returns-clause-keeps g c =
    let state = g.S.Store.state in
    let groups = c.args.self.now.items in
    let was = c.index_mut.result.now in
    let is = c.cutover.new.self in
    laws.stays_kept state c.args.group groups was c.requires.ready c.index_mut.ensures.value is

pub returns-clause-goes_on : goal.returns-clause-goes_on
returns-clause-goes_on g c =
    let state = g.S.Store.state in
    let groups = c.args.self.now.items in
    let was = c.index_mut.result.now in
    let is = c.cutover.new.self in
    laws.on_err c.cutover.result (GroupGoesOn state was is) _ (laws.went_on state c.args.group groups was c.requires.ready c.index_mut.ensures.value is) (laws.cut_goes_on state was is c.cutover.result c.cutover.ensures.err)

pub returns-clause-told : goal.returns-clause-told
returns-clause-told g c =
    let state = g.S.Store.state in
    let groups = c.args.self.now.items in
    let was = c.index_mut.result.now in
    let is = c.cutover.new.self in
    laws.among state c.args.group groups was c.requires.ready c.index_mut.ensures.value is (λ s t. Told (ComesAside (λ e. ⊥)) c.args.who (kinds_on Cutover c.cutover.result) (TellsExchanged state c.cutover.result) s t)
    (laws.cut_told state was is c.args.who (laws.rested state c.args.group groups was c.requires.ready c.index_mut.ensures.value) (ComesAside (λ e. ⊥)) c.cutover.result c.cutover.ensures.last c.cutover.ensures.old c.cutover.ensures.entry c.cutover.ensures.tables c.cutover.ensures.same c.cutover.ensures.err)

pub returns-clause-steady : goal.returns-clause-steady
returns-clause-steady g c =
    let state = g.S.Store.state in
    let groups = c.args.self.now.items in
    let was = c.index_mut.result.now in
    let is = c.cutover.new.self in
    laws.steady_of state c.args.group groups was c.requires.ready c.index_mut.ensures.value is (arriving c.args.incoming) c.cutover.result c.cutover.ensures.old c.cutover.ensures.new

pub returns-clause-mover : goal.returns-clause-mover
returns-clause-mover g c =
    let state = g.S.Store.state in
    let groups = c.args.self.now.items in
    let was = c.index_mut.result.now in
    let is = c.cutover.new.self in
    laws.among state c.args.group groups was c.requires.ready c.index_mut.ensures.value is (λ s t. OnErr c.cutover.result (IsMover c.args.who t)) (laws.cut_mover was is c.args.who c.cutover.result (subst (IsMover c.args.who) (laws.known state c.args.group groups was c.requires.ready c.index_mut.ensures.value) c.requires.mover) c.cutover.ensures.err)

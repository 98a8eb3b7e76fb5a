use Rattle.std.proofs.Common.{refl}
use Rattle.cq_tree.specs.declared.journal.EntryKind.TheVariants.{MoveStop}
use Rattle.cq_group.specs.Groups.{journal_of, shapes}
use Rattle.cq_group.proofs.CutoverLaws.{in_flight}
use Rattle.cq_group.proofs.MoveEntries.{slot_kept, resting_entry, stopped_kept, same_go_on}
use Rattle.cq_group.proofs.group.GroupState.stop_move.Goals as goal

pub push-requires : goal.push-requires
push-requires g c =
    let group = c.args.self.now in
    let move = c.requires.resting.kept.move in
    slot_kept (shapes group) (journal_of group) group.node group.journal.entries.room group.moving move (in_flight (shapes group) (journal_of group) group.node group.journal.entries.room group.moving c.args.who move c.requires.mover)

pub returns-clause-resting : goal.returns-clause-resting
returns-clause-resting g c =
    resting_entry g.S.Store.state c.args.self.now _ (record { who = c.args.who; kind = MoveStop }) c.requires.resting
    (stopped_kept g.S.Store.state c.args.self.now _ c.args.who c.requires.resting.kept refl refl refl refl c.push.ensures.list refl refl)
    refl refl c.push.ensures.list refl (λ s. refl)

pub returns-clause-goes_on : goal.returns-clause-goes_on
returns-clause-goes_on g c = same_go_on g.S.Store.state c.args.self.now _ refl refl refl refl refl

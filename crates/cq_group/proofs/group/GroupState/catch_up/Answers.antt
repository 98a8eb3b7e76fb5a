use Rattle.std.proofs.Common.{◌∙◌, ◌≤◌, [], ◌∷◌, ◌++◌, IsSome, refl, ap, rules, arith}
use Rattle.cq_tree.specs.declared.journal.Entry.{Entry}
use Rattle.cq_tree.specs.declared.journal.EntryKind.TheVariants.{CatchUp}
use Rattle.cq_journal.specs.Journals.{replay}
use Rattle.cq_journal.specs.Stations.{station_of}
use Rattle.cq_journal.proofs.Replays.{replay_more}
use Rattle.cq_group.specs.Groups.{Outline, journal_of, shapes, outlines, entries_of}
use Rattle.cq_group.proofs.StartLaws.{reserved_resting}
use Rattle.cq_group.proofs.CutoverLaws.{in_flight, unmoved_incoming, fetched_incoming, stores_fetched}
use Rattle.cq_group.proofs.MoveEntries.{resting_entry, caught_kept, same_go_on}
use Rattle.cq_group.proofs.group.GroupState.catch_up.Goals as goal

pub returns-in_err-reserve-clause-goes_on : goal.returns-in_err-reserve-clause-goes_on
returns-in_err-reserve-clause-goes_on g c = same_go_on g.S.Store.state c.args.self.now _ refl refl refl refl refl

pub returns-in_err-fetch_log-clause-resting : goal.returns-in_err-fetch_log-clause-resting
returns-in_err-fetch_log-clause-resting g c = reserved_resting g.S.Store.state c.args.self.now _ c.requires.resting refl refl refl refl refl c.reserve.ensures.list refl c.reserve.ensures.kept

pub returns-in_err-fetch_log-clause-goes_on : goal.returns-in_err-fetch_log-clause-goes_on
returns-in_err-fetch_log-clause-goes_on g c = same_go_on g.S.Store.state c.args.self.now _ refl refl refl refl refl

pub returns-clause-incoming : goal.returns-clause-incoming
returns-clause-incoming g c =
    let state = g.S.Store.state in
    let group = c.args.self.now in
    let e : Entry = record { who = c.args.who; kind = CatchUp } in
    let node = (station_of (journal_of group)).target in
    let some : IsSome group.moving = in_flight (shapes group) (journal_of group) group.node group.journal.entries.room group.moving c.args.who c.requires.resting.kept.move c.requires.mover in
    let entries = c.push.ensures.list ∙ ap (λ xs. xs ++ e ∷ []) c.reserve.ensures.list in
    unmoved_incoming state node (entries_of group) _ (outlines group) c.fetch_log.new.incoming (λ (o : Outline). ap (λ es. replay o.0 o.1 es) entries ∙ replay_more o.0 o.1 (entries_of group) e)
    (fetched_incoming state group node c.args.incoming.now c.fetch_log.new.incoming c.requires.resting.kept some c.requires.incoming c.requires.settled c.in_ok-fetch_log.ensures.ok c.fetch_log.ensures.room)

pub returns-clause-stores : goal.returns-clause-stores
returns-clause-stores g c = stores_fetched g.S.Store.state _ c.args.incoming.now c.fetch_log.new.incoming c.in_ok-fetch_log.ensures.ok

pub returns-clause-resting : goal.returns-clause-resting
returns-clause-resting g c =
    let state = g.S.Store.state in
    let group = c.args.self.now in
    let e : Entry = record { who = c.args.who; kind = CatchUp } in
    let some : IsSome group.moving = in_flight (shapes group) (journal_of group) group.node group.journal.entries.room group.moving c.args.who c.requires.resting.kept.move c.requires.mover in
    let entries = c.push.ensures.list ∙ ap (λ xs. xs ++ e ∷ []) c.reserve.ensures.list in
    let two : 2 ≤ c.reserve.new.self.room = search rules in
    resting_entry state group _ e c.requires.resting
    (caught_kept state group _ c.args.who c.requires.resting.kept refl refl refl refl entries refl c.clear_log.ensures some (omega (arith, two, c.push.ensures.room)))
    refl refl entries refl (λ s. refl)

pub returns-clause-goes_on : goal.returns-clause-goes_on
returns-clause-goes_on g c = same_go_on g.S.Store.state c.args.self.now _ refl refl refl refl refl

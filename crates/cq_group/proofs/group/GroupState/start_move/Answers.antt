use Rattle.std.proofs.Common.{◌∙◌, ◌<◌, ◌≤◌, [], ◌∷◌, ◌++◌, None, refl, sym, ap, subst, rules, arith}
use Rattle.cq_tree.specs.declared.journal.Entry.{Entry}
use Rattle.cq_tree.specs.declared.journal.EntryKind.TheVariants.{MoveStart}
use Rattle.cq_journal.specs.Journals.{replay}
use Rattle.cq_journal.proofs.Replays.{replay_more}
use Rattle.cq_group.specs.declared.moving.Moving.{Moving}
use Rattle.cq_group.specs.Groups.{Outline, outlines, entries_of}
use Rattle.cq_group.specs.Calls.{Lifted}
use Rattle.cq_group.specs.Incoming.{IsLeaving, Adopts, CanStart, RefusesMove}
use Rattle.cq_group.proofs.WriteLaws.{goes_on_twice}
use Rattle.cq_group.proofs.StartLaws.{filled_incoming, filled_adopts, length_zipped, shards_kept, can_fill, all_spare, why_error}
use Rattle.cq_group.proofs.MoveEntries.{resting_entry, started_kept, same_go_on}
use Rattle.cq_group.proofs.group.GroupState.start_move.Goals as goal

pub returns-in-Some-clause-goes_on : goal.returns-in-Some-clause-goes_on
returns-in-Some-clause-goes_on g c = same_go_on g.S.Store.state c.args.self.now c.args.self.now refl refl refl refl refl

pub returns-in-Err-clause-why : goal.returns-in-Err-clause-why
returns-in-Err-clause-why g c =
    let state = g.S.Store.state in
    let can : CanStart c.args.self.now c.args.to c.args.from = search rules in
    let why = subst (RefusesMove state c.args.self.now c.prepare.new.self c.args.to c.args.from) (sym c.why_of.ensures) (why_error state c.in-Err.error c.args.self.now c.prepare.new.self c.args.to c.args.from can c.in-Err.ensures.blame) in
    search rules

pub fill-requires-clause-tables : goal.fill-requires-clause-tables
fill-requires-clause-tables g c =
    can_fill g.S.Store.state (entries_of c.args.self.now) (outlines c.args.self.now) c.in-Ok.incoming.tables.items (shards_kept g.S.Store.state c.args.self.now c.requires.resting.kept) c.in-Ok.ensures.leaves

pub fill-requires-clause-stores : goal.fill-requires-clause-stores
fill-requires-clause-stores g c = all_spare g.S.Store.state c.args.to c.args.stores.items c.requires.spare

pub fill-requires-clause-one : goal.fill-requires-clause-one
fill-requires-clause-one g c =
    c.requires.one ∙ sym (length_zipped g.S.Store.state (IsLeaving (entries_of c.args.self.now)) (outlines c.args.self.now) c.in-Ok.incoming.tables.items c.in-Ok.ensures.leaves)

pub returns-clause-incoming : goal.returns-clause-incoming
returns-clause-incoming g c =
    let state = g.S.Store.state in
    let group = c.args.self.now in
    let e : Entry = record { who = c.args.who; kind = MoveStart c.args.to } in
    let entries = c.push.ensures.list ∙ ap (λ xs. xs ++ e ∷ []) c.prepare.ensures.entries in
    let adopts = filled_adopts state c.args.stores.items c.in-Ok.incoming.tables.items c.fill.new.tables.items c.fill.ensures.filled in
    let long = length_zipped state (Lifted state Adopts) c.args.stores.items _ adopts in
    record {
      tables = filled_incoming state c.args.to (entries_of group) _ (outlines group) c.args.stores.items c.in-Ok.incoming.tables.items c.fill.new.tables.items
          (λ (o : Outline). ap (λ es. replay o.0 o.1 es) entries ∙ replay_more o.0 o.1 (entries_of group) e) (shards_kept state group c.requires.resting.kept) c.in-Ok.ensures.leaves c.requires.spare c.fill.ensures.filled;
      room = omega (arith, long, c.fill.ensures.room);
      unused = c.fill.ensures.unused;
    }

pub returns-clause-stores : goal.returns-clause-stores
returns-clause-stores g c = filled_adopts g.S.Store.state c.args.stores.items c.in-Ok.incoming.tables.items c.fill.new.tables.items c.fill.ensures.filled

pub returns-clause-resting : goal.returns-clause-resting
returns-clause-resting g c =
    let state = g.S.Store.state in
    let mid = c.prepare.new.self in
    let m : Moving = record { who = c.args.who; to = c.args.to; log = c.new.result; staged = None } in
    let two : 2 ≤ mid.journal.entries.room = c.in-Ok.ensures.room in
    let distributed : 0 < mid.node = subst (λ n. 0 < n) (sym c.prepare.ensures.goes_on.same.node) c.requires.distributed in
    resting_entry state mid _ (record { who = c.args.who; kind = MoveStart c.args.to }) c.prepare.ensures.resting
    (started_kept state mid _ c.args.who c.args.to m c.prepare.ensures.resting.kept refl refl refl refl c.push.ensures.list refl refl refl refl c.new.ensures c.requires.somewhere distributed (omega (arith, two, c.push.ensures.room)))
    refl refl c.push.ensures.list refl (λ s. refl)

pub returns-clause-goes_on : goal.returns-clause-goes_on
returns-clause-goes_on g c = goes_on_twice g.S.Store.state c.args.self.now c.prepare.new.self _ c.prepare.ensures.goes_on (same_go_on g.S.Store.state c.prepare.new.self _ refl refl refl refl refl)

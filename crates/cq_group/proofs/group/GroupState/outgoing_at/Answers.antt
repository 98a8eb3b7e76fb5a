use Rattle.std.proofs.Common.{◌≡◌, ◌∙◌, ◌+◌, get_or, length, refl, sym, ap, subst, rules}
use Rattle.std.proofs.lemmas.Result.{IfOk-weaker, IfErr-weaker}
use Rattle.cq_value.specs.Tables.{Table}
use Rattle.cq_journal.specs.Journals.{replay}
use Rattle.cq_group.specs.Groups.{Outline, IsTableQuiet, IsTableKept, entries_of, copies_of}
use Rattle.cq_group.specs.Calls.{Rests, Lifted, Blames, IsRestingTable, first_rows}
use Rattle.cq_group.specs.Incoming.{IsOutgoing, IsLeaving}
use Rattle.cq_group.proofs.Zips.{zip_set}
use Rattle.cq_group.proofs.Turns.{rests}
use Rattle.cq_group.proofs.MoveLaws.{same_move}
use Rattle.cq_group.proofs.TableLaws.{rested_go_on}
use Rattle.cq_group.proofs.PlaceLaws.{all_at, table_refl, blames_group}
use Rattle.cq_group.proofs.WriteLaws.{alike, first_is}
use Rattle.cq_group.proofs.StartLaws.{outline_at, leaving, on_ok}
use Rattle.cq_group.proofs.group.GroupState.outgoing_at.Goals as goal

pub outgoing-requires-clause-alike : goal.outgoing-requires-clause-alike
outgoing-requires-clause-alike g c =
    let state = g.S.Store.state in
    let group = c.args.self.now in
    let t = c.index_mut.result.now in
    let is : t ≡ get_or group.tables.items c.args.place t = search rules in
    alike state group.node (copies_of group) (entries_of group) t
    (all_at (IsTableKept state group.node (copies_of group) (entries_of group)) group.tables.items c.args.place t c.requires.kept.tables c.requires.within is)
    (all_at (IsTableQuiet state) group.tables.items c.args.place t c.requires.quiet c.requires.within is)

pub outgoing-requires-clause-few : goal.outgoing-requires-clause-few
outgoing-requires-clause-few g c =
    let state = g.S.Store.state in
    let group = c.args.self.now in
    let t = c.index_mut.result.now in
    let is : t ≡ get_or group.tables.items c.args.place t = search rules in
    (all_at (IsTableKept state group.node (copies_of group) (entries_of group)) group.tables.items c.args.place t c.requires.kept.tables c.requires.within is).ids

pub returns-clause-leaves : goal.returns-clause-leaves
returns-clause-leaves g c =
    let state = g.S.Store.state in
    let group = c.args.self.now in
    let t = c.index_mut.result.now in
    let is : t ≡ get_or group.tables.items c.args.place t = search rules in
    let kept = all_at (IsTableKept state group.node (copies_of group) (entries_of group)) group.tables.items c.args.place t c.requires.kept.tables c.requires.within is in
    IfOk-weaker c.outgoing.result (IsOutgoing state t) _
    (λ u h d. subst (λ (o : Outline). IsLeaving (entries_of group) o u) (sym (outline_at group.tables.items c.args.place t d c.requires.within is))
    (leaving state (entries_of group) t u (first_is state group.node (copies_of group) (entries_of group) t kept) h))
    c.outgoing.ensures.copy

pub returns-clause-due : goal.returns-clause-due
returns-clause-due g c =
    let state = g.S.Store.state in
    let group = c.args.self.now in
    let t = c.index_mut.result.now in
    let is : t ≡ get_or group.tables.items c.args.place t = search rules in
    let kept = all_at (IsTableKept state group.node (copies_of group) (entries_of group)) group.tables.items c.args.place t c.requires.kept.tables c.requires.within is in
    let first = first_is state group.node (copies_of group) (entries_of group) t kept in
    on_ok c.outgoing.result _ _
    (λ (e : c.outgoing.new.due ≡ c.args.due.now + length (first_rows state t.stores.items).pairs) d.
    subst (λ (o : Outline). c.outgoing.new.due ≡ c.args.due.now + length (replay o.0 o.1 (entries_of group)).pairs) (sym (outline_at group.tables.items c.args.place t d c.requires.within is))
    (e ∙ ap (λ (u : Table). c.args.due.now + length u.pairs) first))
    c.outgoing.ensures.due

pub returns-clause-same : goal.returns-clause-same
returns-clause-same g c =
    let state = g.S.Store.state in
    let t = c.index_mut.result.now in
    record {
      node = refl;
      nodes = refl;
      room = refl;
      moving = same_move c.args.self.now.moving;
      tables = zip_set (IsRestingTable (Lifted state Rests)) (λ a. table_refl (Lifted state Rests) (λ x. rests (state x)) a) c.args.self.now.tables.items c.args.place t c.outgoing.new.self
          c.requires.within (search rules) c.outgoing.ensures.same;
    }

pub returns-clause-blame : goal.returns-clause-blame
returns-clause-blame g c =
    let state = g.S.Store.state in
    let t = c.index_mut.result.now in
    let u = c.outgoing.new.self in
    IfErr-weaker c.outgoing.result (λ e. Blames state e t.stores.items u.stores.items) _
    (λ e h. blames_group state e c.args.self.now.tables.items c.args.place t u c.requires.within (search rules)
    (rested_go_on state t.stores.items u.stores.items c.outgoing.ensures.same.same.stores) h)
    c.outgoing.ensures.blame

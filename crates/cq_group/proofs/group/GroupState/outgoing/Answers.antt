use Rattle.std.proofs.Common.{◌≡◌, ◌∙◌, ◌+◌, ◌<◌, [], ◌∷◌, ◌++◌, length, take, get_or, refl, sym, ap, subst, rules, arith}
use Rattle.std.specs.List.{AllZip}
use Rattle.cq_journal.specs.Journals.{replay}
use Rattle.cq_group.specs.declared.incoming.IncomingTable.{IncomingTable}
use Rattle.cq_group.specs.Groups.{outlines, entries_of}
use Rattle.cq_group.specs.Calls.{Rests, Lifted}
use Rattle.cq_group.specs.Incoming.{IsLeaving}
use Rattle.cq_group.proofs.GroupLaws.{quiet_along, outlines_along}
use Rattle.cq_group.proofs.ReadLaws.{rested_none, rested_more, rested_kept, rested_blames}
use Rattle.cq_group.proofs.StartLaws.{rested_length, outlines_length, leaving_more, due_more}
use Rattle.cq_group.proofs.group.GroupState.outgoing.Goals as goal

pub loop-place-init : goal.loop-place-init
loop-place-init g c = record {
  leaves = subst (λ ts. AllZip (IsLeaving (entries_of c.args.self.now)) [] ts) (sym c.new-tables.ensures.items) tt;
  due = refl;
  journal = refl;
  moving = refl;
  same = rested_none g.S.Store.state c.args.self.now;
}

pub outgoing_at-requires-clause-kept : goal.outgoing_at-requires-clause-kept
outgoing_at-requires-clause-kept g c = rested_kept g.S.Store.state c.args.self.now c.loop-place.self c.requires.kept c.loop-place.invariant.journal c.loop-place.invariant.same

pub outgoing_at-requires-clause-quiet : goal.outgoing_at-requires-clause-quiet
outgoing_at-requires-clause-quiet g c = quiet_along g.S.Store.state c.args.self.now c.loop-place.self c.requires.quiet c.loop-place.invariant.same

pub outgoing_at-requires-clause-within : goal.outgoing_at-requires-clause-within
outgoing_at-requires-clause-within g c =
    let long = rested_length g.S.Store.state c.args.self.now c.loop-place.self c.loop-place.invariant.same in
    omega (arith, long, c.loop-place-test.true, c.len-place-end.ensures, c.args.self.now.tables.ok.0)

pub returns-in_err-table-clause-same : goal.returns-in_err-table-clause-same
returns-in_err-table-clause-same g c = rested_more g.S.Store.state c.args.self.now c.loop-place.self c.outgoing_at.new.self c.loop-place.invariant.same c.outgoing_at.ensures.same

pub returns-in_err-table-clause-blame : goal.returns-in_err-table-clause-blame
returns-in_err-table-clause-blame g c =
    let blamed = rested_blames g.S.Store.state c.in_err-table.field-0.0 c.args.self.now c.loop-place.self _ c.loop-place.invariant.same c.in_err-table.ensures.blame in
    search rules

pub returns-then-is_err-clause-same : goal.returns-then-is_err-clause-same
returns-then-is_err-clause-same g c = rested_more g.S.Store.state c.args.self.now c.loop-place.self c.outgoing_at.new.self c.loop-place.invariant.same c.outgoing_at.ensures.same

pub loop-place-preserved : goal.loop-place-preserved
loop-place-preserved g c =
    let state = g.S.Store.state in
    let group = c.args.self.now in
    let now = c.loop-place.self in
    let place = c.loop-place.place in
    let os = outlines group in
    let es = entries_of group in
    let table : IncomingTable _ = c.in_ok-table.table in
    let same = outlines_along state (Lifted state Rests) group now c.loop-place.invariant.same in
    let entries : entries_of now ≡ es = ap (λ x. x.entries.list) c.loop-place.invariant.journal in
    let low : place < length os = omega (arith, outlines_length group, c.loop-place-test.true, c.len-place-end.ensures, group.tables.ok.0) in
    let put : c.push.new.self.items ≡ c.loop-place.tables.items ++ table ∷ [] = search rules in
    record {
      leaves = subst (λ ts. AllZip (IsLeaving es) (take (place + 1) os) ts) (sym put)
          (leaving_more es os c.loop-place.tables.items place table low c.loop-place.invariant.leaves
          (λ d. subst (λ xs. IsLeaving xs (get_or os place d) table) entries (subst (λ qs. IsLeaving (entries_of now) (get_or qs place d) table) same (c.in_ok-table.ensures.leaves d))));
      due = due_more es os place c.loop-place.due c.outgoing_at.new.due low c.loop-place.invariant.due
          (λ d. subst (λ xs. c.outgoing_at.new.due ≡ c.loop-place.due + length (replay (get_or os place d).0 (get_or os place d).1 xs).pairs) entries
          (subst (λ qs. c.outgoing_at.new.due ≡ c.loop-place.due + length (replay (get_or qs place d).0 (get_or qs place d).1 (entries_of now)).pairs) same (c.in_ok-table.ensures.due d)));
      journal = c.outgoing_at.ensures.journal ∙ c.loop-place.invariant.journal;
      moving = c.outgoing_at.ensures.moving ∙ c.loop-place.invariant.moving;
      same = rested_more state group now c.outgoing_at.new.self c.loop-place.invariant.same c.outgoing_at.ensures.same;
    }

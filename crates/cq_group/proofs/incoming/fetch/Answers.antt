use Rattle.std.proofs.Common.{◌≡◌, ◌∙◌, ◌<◌, length, [], map, ap, sym, rules}
use Rattle.std.proofs.Math.ListN.{set}
use Rattle.std.proofs.lemmas.List.{get_or_default}
use Rattle.std.proofs.lemmas.List.Edits.{map_over_more}
use Rattle.cq_group.specs.declared.incoming.IncomingTable.{IncomingTable}
use Rattle.cq_change.specs.Logs.{changes_in}
use Rattle.cq_group.specs.Incoming.{with_due}
use Rattle.cq_group.proofs.IncomingLaws.{cleared}
use Rattle.cq_group.proofs.incoming.fetch.Goals as goal

pub returns-in_default-clause-err : goal.returns-in_default-clause-err
returns-in_default-clause-err g c =
    c.clear.ensures ∙ ap (λ ts. map (with_due []) ts) c.loop-place.invariant ∙ cleared c.args.log.now.list c.args.tables.now.items c.loop-place.place c.requires

pub loop-place-preserved : goal.loop-place-preserved
loop-place-preserved g c =
    let log = c.args.log.now.list in
    let tables = c.loop-place.tables.items in
    let x : IncomingTable _ = c.index_mut.result.now in
    let low : c.loop-place.place < length tables = search rules in
    let same : c.index.result.now ≡ x = c.index.ensures ∙ get_or_default tables c.loop-place.place c.index.result.now x low ∙ sym c.index_mut.ensures.value in
    let pending : c.in-Ok.changes ≡ changes_in x.table log = c.in-Ok.ensures ∙ ap (λ (u : IncomingTable _). changes_in u.table log) same in
    ap (λ cs. set tables c.loop-place.place (record x { pending = cs })) pending
    ∙ map_over_more (with_due log) c.args.tables.now.items tables c.loop-place.place x (search rules) c.loop-place.invariant c.index_mut.ensures.value

use Rattle.std.proofs.Common.{refl, ap}
use Rattle.std.proofs.lemmas.Option.{slice_get_read}
use Rattle.cq_journal.specs.declared.journal.Journal.{Journal}
use Rattle.cq_reach.specs.Staging.{IsDropped}
use Rattle.cq_reach.proofs.Turning.{one_set}
use Rattle.cq_reach.proofs.staging.discard_in.Goals as goal

pub discard_write-requires : goal.discard_write-requires
discard_write-requires g c = c.requires.kept c.index_mut.result.now (slice_get_read c.args.groups.now.items _ c.args.group c.index_mut.result.now refl c.requires.within c.index_mut.ensures.value)

pub returns : goal.returns
returns g c =
    let d = c.discard_write.ensures in
    one_set c.args.group (IsDropped g.S.Store.state) c.args.groups.now.items c.index_mut.result.now c.discard_write.new.self
    (slice_get_read c.args.groups.now.items _ c.args.group c.index_mut.result.now refl c.requires.within c.index_mut.ensures.value)
    (record { held = record { kept = d.kept; entries = ap (λ (j : Journal). j.entries.list) d.journal; on = d.goes_on }; quiet = d.quiet })

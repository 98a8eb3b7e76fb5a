use Rattle.std.proofs.Common.{refl}
use Rattle.std.proofs.lemmas.Option.{slice_get_read}
use Rattle.cq_reach.specs.Staging.{Enters}
use Rattle.cq_reach.proofs.Turning.{one_set}
use Rattle.cq_reach.proofs.Stopping.{group_within}
use Rattle.cq_reach.proofs.writes.commit_part.Goals as goal

pub returns-clause-turned : goal.returns-clause-turned
returns-clause-turned g c =
    let w = c.commit_write.ensures in
    one_set c.args.ready.part.group (Enters g.S.Store.state c.args.who c.args.ready.part.op c.args.ready.reply) c.args.groups.now.items c.index_mut.result.now c.commit_write.new.self
    (slice_get_read c.args.groups.now.items _ c.args.ready.part.group c.index_mut.result.now refl (group_within c.args.groups.now.items c.args.ready.part _ c.requires) c.index_mut.ensures.value)
    (record { entry = w.entry; kept = w.kept; quiet = w.quiet; on = w.goes_on })

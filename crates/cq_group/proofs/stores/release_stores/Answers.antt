use Rattle.std.proofs.Common.{rules}
use Rattle.cq_group.specs.Calls.{Lifted, Releases}
use Rattle.cq_group.proofs.Through.{through_more}
use Rattle.cq_group.proofs.stores.release_stores.Goals as goal

pub loop-place-preserved : goal.loop-place-preserved
loop-place-preserved g c =
    through_more (Lifted g.S.Store.state Releases) c.loop-place.place _ c.loop-place.stores.items c.index_mut.result.now c.release.new.self
    c.loop-place.invariant (search rules) (search rules) c.release.ensures

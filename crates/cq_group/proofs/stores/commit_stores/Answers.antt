use Rattle.std.proofs.Common.{rules}
use Rattle.cq_group.specs.Calls.{Lifted, Commits}
use Rattle.cq_group.proofs.Through.{through_more}
use Rattle.cq_group.proofs.stores.commit_stores.Goals as goal

pub loop-place-preserved : goal.loop-place-preserved
loop-place-preserved g c =
    through_more (Lifted g.S.Store.state Commits) c.loop-place.place _ c.loop-place.stores.items c.index_mut.result.now c.commit.new.self
    c.loop-place.invariant (search rules) (search rules) c.commit.ensures

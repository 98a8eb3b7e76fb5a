use Rattle.std.proofs.Common.{rules}
use Rattle.cq_group.specs.Calls.{Lifted, Stages}
use Rattle.cq_group.proofs.Staging.{all_rest, blamed}
use Rattle.cq_group.proofs.Through.{through_more}
use Rattle.cq_group.proofs.stores.stage_stores.Goals as goal

pub returns-in-Err-clause-err : goal.returns-in-Err-clause-err
returns-in-Err-clause-err g c =
    all_rest g.S.Store.state c.args.changes.now c.loop-place.place _ c.loop-place.stores.items _ c.index_mut.result.now c.stage_store.new.store
    c.loop-place.invariant (search rules) (search rules) c.in-Err.ensures.err c.discard_stores.ensures c.requires

pub returns-in-Err-clause-blame : goal.returns-in-Err-clause-blame
returns-in-Err-clause-blame g c =
    blamed g.S.Store.state c.args.changes.now c.loop-place.place _ c.loop-place.stores.items _ c.index_mut.result.now c.stage_store.new.store
    c.loop-place.invariant (search rules) (search rules) c.in-Err.ensures.err c.discard_stores.ensures c.in-Err.error c.in-Err.ensures.blame

pub loop-place-preserved : goal.loop-place-preserved
loop-place-preserved g c =
    through_more (Lifted g.S.Store.state (Stages c.args.changes.now)) c.loop-place.place _ c.loop-place.stores.items c.index_mut.result.now c.stage_store.new.store
    c.loop-place.invariant (search rules) (search rules) c.in_default.ensures.ok

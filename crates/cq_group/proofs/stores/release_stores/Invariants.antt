use Rattle.cq_group.specs.Calls.{Lifted, Releases, IsThrough}
use Rattle.cq_group.proofs.stores.release_stores.Given as goal

abbrev pub invariant-loop-place : goal.invariant-loop-place
invariant-loop-place g l = IsThrough (Lifted g.S.Store.state Releases) l.place l.initial.stores.items l.stores.items

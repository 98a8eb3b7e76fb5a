use Rattle.cq_group.specs.Calls.{Lifted, Discards, IsThrough}
use Rattle.cq_group.proofs.stores.discard_stores.Given as goal

abbrev pub invariant-loop-place : goal.invariant-loop-place
invariant-loop-place g l = IsThrough (Lifted g.S.Store.state Discards) l.place l.initial.stores.items l.stores.items

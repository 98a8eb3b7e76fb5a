use Rattle.cq_group.specs.Calls.{Lifted, Stages, IsThrough}
use Rattle.cq_group.proofs.stores.stage_stores.Given as goal

abbrev pub invariant-loop-place : goal.invariant-loop-place
invariant-loop-place g l = IsThrough (Lifted g.S.Store.state (Stages l.changes)) l.place l.initial.stores.items l.stores.items

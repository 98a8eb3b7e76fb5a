use Rattle.cq_group.specs.Calls.{Lifted, Discards, IsRestingTable, IsThrough}
use Rattle.cq_group.proofs.write.discard_tables.Given as goal

abbrev pub invariant-loop-place : goal.invariant-loop-place
invariant-loop-place g l = IsThrough (IsRestingTable (Lifted g.S.Store.state Discards)) l.place l.initial.tables.items l.tables.items

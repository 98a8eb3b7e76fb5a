use Rattle.std.proofs.Common.{◌≡◌, ◌++◌, vec_capacity}
use Rattle.cq_group.proofs.close.put_stores.Given as goal

abbrev pub invariant-loop-store : goal.invariant-loop-store
invariant-loop-store g l = (l.room.items ≡ l.initial.room.items ++ l.yielded) × (vec_capacity l.room ≡ vec_capacity l.initial.room)

use Rattle.std.proofs.Common.{◌≡◌, ◌++◌, vec_capacity}
use Rattle.std.specs.List.{flat_map}
use Rattle.cq_group.specs.declared.incoming.IncomingTable.{IncomingTable}
use Rattle.cq_group.proofs.incoming.put_arrived.Given as goal

abbrev pub invariant-loop-table : goal.invariant-loop-table
invariant-loop-table g l =
    (l.room.items ≡ l.initial.room.items ++ flat_map (λ (t : IncomingTable _). t.stores.items) l.yielded)
    × (vec_capacity l.room ≡ vec_capacity l.initial.room)

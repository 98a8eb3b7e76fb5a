use Rattle.std.proofs.Common.{◌≡◌, ◌++◌, vec_capacity}
use Rattle.std.specs.List.{flat_map}
use Rattle.cq_group.specs.declared.group.GroupTable.{GroupTable}
use Rattle.cq_group.proofs.close.put_tables.Given as goal

abbrev pub invariant-loop-table : goal.invariant-loop-table
invariant-loop-table g l =
    (l.room.items ≡ l.initial.room.items ++ flat_map (λ (t : GroupTable _). t.stores.items) l.yielded)
    × (vec_capacity l.room ≡ vec_capacity l.initial.room)

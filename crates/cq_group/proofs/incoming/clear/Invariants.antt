use Rattle.std.proofs.Common.{◌≡◌, ◌++◌, [], map, take, drop}
use Rattle.cq_group.specs.Incoming.{with_due}
use Rattle.cq_group.proofs.incoming.clear.Given as goal

abbrev pub invariant-loop-table : goal.invariant-loop-table
invariant-loop-table g l = l.table-items ≡ map (with_due []) (take l.table-index l.initial.table-items) ++ drop l.table-index l.initial.table-items

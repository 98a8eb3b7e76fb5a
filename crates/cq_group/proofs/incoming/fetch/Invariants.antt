use Rattle.std.proofs.Common.{◌≡◌, ◌++◌, map, take, drop}
use Rattle.cq_group.specs.Incoming.{with_due}
use Rattle.cq_group.proofs.incoming.fetch.Given as goal

abbrev pub invariant-loop-place : goal.invariant-loop-place
invariant-loop-place g l = l.tables.items ≡ map (with_due l.log.list) (take l.place l.initial.tables.items) ++ drop l.place l.initial.tables.items

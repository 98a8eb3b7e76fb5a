use Rattle.std.proofs.Common.{◌≡◌, map, take}
use Rattle.cq_meaning.specs.Values.{column}
use Rattle.cq_catalog.specs.Placement.{group_of}
use Rattle.cq_plan.proofs.writes.homes_of.Given as goal

abbrev pub invariant-loop-row : goal.invariant-loop-row
invariant-loop-row l = l.groups ≡ map (λ row. group_of l.catalog l.table (column row l.column)) (take l.row-index l.rows)

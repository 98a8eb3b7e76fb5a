use Rattle.std.proofs.Common.{◌≡◌, map, take}
use Rattle.cq_catalog.specs.Placement.{group_of}
use Rattle.cq_plan.proofs.groups.groups_of_values.Given as goal

abbrev pub invariant-loop-value : goal.invariant-loop-value
invariant-loop-value l = l.groups ≡ map (group_of l.catalog l.table) (take l.value-index l.values)

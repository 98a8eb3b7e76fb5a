use Rattle.std.proofs.Common.{map, drop, IsSome}
use Rattle.cq_group.specs.Groups.{outline, shape_at}
use Rattle.cq_group.proofs.place.place_of.Given as goal

abbrev pub invariant-loop-place : goal.invariant-loop-place
invariant-loop-place g l = IsSome (shape_at (map outline (drop l.place l.tables.items)) l.number)

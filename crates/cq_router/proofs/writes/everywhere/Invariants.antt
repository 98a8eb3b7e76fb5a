use Rattle.std.proofs.Common.{◌≡◌, map, take}
use Rattle.cq_router.specs.Piles.{as_part}
use Rattle.cq_router.proofs.writes.everywhere.Given as goal

abbrev pub invariant-loop-group : goal.invariant-loop-group
invariant-loop-group l = l.parts ≡ map (λ g. as_part (g, l.op)) (take l.group-index l.groups)

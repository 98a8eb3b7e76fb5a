use Rattle.std.proofs.Common.{◌≡◌, [], map}
use Rattle.cq_planning.specs.Touched.{numbers}
use Rattle.cq_router.specs.Piles.{pile_of}
use Rattle.cq_router.proofs.insertion.no_piles.Given as goal

abbrev pub invariant-loop-group : goal.invariant-loop-group
invariant-loop-group l = l.all.items ≡ map (λ g. pile_of g []) (numbers 0 l.group)

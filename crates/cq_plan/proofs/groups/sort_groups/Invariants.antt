use Rattle.std.proofs.Common.{◌≡◌, filter}
use Rattle.cq_planning.specs.Touched.{numbers, among}
use Rattle.cq_plan.proofs.groups.sort_groups.Given as goal

abbrev pub invariant-loop-group : goal.invariant-loop-group
invariant-loop-group l = l.list ≡ filter (λ g. among g l.groups) (numbers 0 l.group)

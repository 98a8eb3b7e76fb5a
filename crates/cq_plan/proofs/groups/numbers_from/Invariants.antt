use Rattle.std.proofs.Common.{◌≡◌}
use Rattle.cq_planning.specs.Touched.{numbers}
use Rattle.cq_plan.proofs.groups.numbers_from.Given as goal

abbrev pub invariant-loop-i : goal.invariant-loop-i
invariant-loop-i l = l.list ≡ numbers l.first l.i

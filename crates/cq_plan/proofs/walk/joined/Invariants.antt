use Rattle.std.proofs.Common.{◌≡◌, ◌++◌}
use Rattle.cq_plan.proofs.walk.joined.Given as goal

abbrev pub invariant-loop-relation : goal.invariant-loop-relation
invariant-loop-relation l = l.all ≡ l.fn.list ++ l.yielded

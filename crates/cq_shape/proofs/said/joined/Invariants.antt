use Rattle.std.proofs.Common.{◌≡◌, ◌++◌}
use Rattle.cq_shape.proofs.said.joined.Given as goal

abbrev pub invariant-loop-value : goal.invariant-loop-value
invariant-loop-value l = l.all ≡ l.fn.values ++ l.yielded

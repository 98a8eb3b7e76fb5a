use Rattle.std.proofs.Common.{◌≡◌}
use Rattle.cq_shape.specs.Ascending.{each_once}
use Rattle.cq_shape.proofs.ascending.once.Given as goal

abbrev pub invariant-loop-value : goal.invariant-loop-value
invariant-loop-value l = l.all ≡ each_once l.yielded

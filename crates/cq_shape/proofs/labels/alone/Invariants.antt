use Rattle.std.proofs.Common.{◌≡◌}
use Rattle.cq_shape.specs.Labels.{up_to}
use Rattle.cq_shape.proofs.labels.alone.Given as goal

abbrev pub invariant-loop-column : goal.invariant-loop-column
invariant-loop-column l = l.labels ≡ up_to l.column

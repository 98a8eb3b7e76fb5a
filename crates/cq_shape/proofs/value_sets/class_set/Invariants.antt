use Rattle.std.proofs.Common.{◌≡◌, take}
use Rattle.cq_planning.specs.ValueSets.{class_set}
use Rattle.cq_shape.specs.Labels.{label}
use Rattle.cq_shape.proofs.value_sets.class_set.Given as goal

abbrev pub invariant-loop-said : goal.invariant-loop-said
invariant-loop-said l = l.set ≡ class_set (label l.labels) (take l.said-index l.sets) l.column

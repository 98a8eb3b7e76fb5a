use Rattle.std.proofs.Common.{◌≡◌, take}
use Rattle.cq_planning.specs.ValueSets.{class_set}
use Rattle.cq_planning.specs.Narrowing.{narrowed_by}
use Rattle.cq_shape.specs.Labels.{label}
use Rattle.cq_plan.specs.Begun.{set_at}
use Rattle.cq_plan.proofs.sets.narrowed.Given as goal

abbrev pub invariant-loop-pair : goal.invariant-loop-pair
invariant-loop-pair l = l.set ≡ narrowed_by (set_at (class_set (label l.base.labels.now) l.base.said.now) l.right.relations.now) l.right.low l.high l.y (class_set (label l.base.labels.now) l.base.said.now l.y) (take l.pair-index l.pair-items)

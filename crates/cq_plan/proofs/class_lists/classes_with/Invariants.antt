use Rattle.std.proofs.Common.{◌≡◌, map, take}
use Rattle.cq_shape.specs.Labels.{label}
use Rattle.cq_plan.specs.ClassLists.{members}
use Rattle.cq_plan.proofs.class_lists.classes_with.Given as goal

abbrev pub invariant-loop-first : goal.invariant-loop-first
invariant-loop-first l = l.list ≡ map (members (label l.labels) l.count) (take l.first-index l.first-items)

use Rattle.std.proofs.Common.{◌≡◌, take, false}
use Rattle.std.specs.List.{list_any}
use Rattle.cq_planning.specs.Components.{is_loose}
use Rattle.cq_shape.specs.Labels.{label}
use Rattle.cq_relations.proofs.components.has_loose.Given as goal

abbrev pub invariant-loop-relation : goal.invariant-loop-relation
invariant-loop-relation l = list_any (is_loose (label l.block.labels.now) l.block.relations.now) (take l.relation-index l.relation-items) ≡ false

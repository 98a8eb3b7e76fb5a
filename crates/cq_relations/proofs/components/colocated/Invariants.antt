use Rattle.std.proofs.Common.{◌≡◌, fold, take, []}
use Rattle.cq_planning.specs.Components.{with_colocated}
use Rattle.cq_shape.specs.Labels.{label}
use Rattle.cq_relations.proofs.components.colocated.Given as goal

abbrev pub invariant-loop-relation : goal.invariant-loop-relation
invariant-loop-relation l = l.found ≡ fold (with_colocated (label l.block.labels.now) l.block.relations.now) [] (take l.relation-index l.relation-items)

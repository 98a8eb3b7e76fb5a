use Rattle.std.proofs.Common.{◌≡◌, take, false}
use Rattle.std.specs.List.{list_any}
use Rattle.cq_planning.specs.Components.{is_located}
use Rattle.cq_shape.specs.Labels.{label}
use Rattle.cq_relations.proofs.components.is_one_located.Given as goal

abbrev pub invariant-loop-column : goal.invariant-loop-column
invariant-loop-column l = list_any (is_located (label l.block.labels.now) l.block.relations.now l.earlier l.colocation) (take l.column-index l.columns) ≡ false

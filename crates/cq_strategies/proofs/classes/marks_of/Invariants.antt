use Rattle.std.proofs.Common.{map, take}
use Rattle.cq_shape.specs.Labels.{label}
use Rattle.cq_strategies.specs.Components.{AreOn}
use Rattle.cq_strategies.proofs.classes.marks_of.Given as goal

abbrev pub invariant-loop-column : goal.invariant-loop-column
invariant-loop-column l = AreOn (map (label l.labels) (take l.column-index l.columns)) l.marks.items

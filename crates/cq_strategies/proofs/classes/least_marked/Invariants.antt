use Rattle.std.proofs.Common.{◌≡◌, fold, take, None}
use Rattle.cq_shape.specs.Labels.{label}
use Rattle.cq_strategies.specs.Components.{with_class}
use Rattle.cq_strategies.proofs.classes.least_marked.Given as goal

abbrev pub invariant-loop-column : goal.invariant-loop-column
invariant-loop-column l = l.least ≡ fold (with_class (label l.labels) l.marks) None (take l.column-index l.columns)

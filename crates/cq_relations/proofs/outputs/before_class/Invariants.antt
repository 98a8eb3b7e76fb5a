use Rattle.std.proofs.Common.{◌≡◌, ℕ, ◌<◌, get_or, false}
use Rattle.cq_tree.specs.declared.expression.Expr.{Column}
use Rattle.cq_planning.specs.Conjuncts.{column_of}
use Rattle.cq_planning.specs.Components.{is_of_class}
use Rattle.cq_planning.specs.Pushable.{column_behind}
use Rattle.cq_shape.specs.Labels.{label}
use Rattle.cq_relations.proofs.outputs.before_class.Given as goal

abbrev pub invariant-loop-place : goal.invariant-loop-place
invariant-loop-place l = (k : ℕ) → k < l.place → is_of_class (label l.labels) l.at (column_behind l.grouped l.keys (column_of (get_or l.outputs k (Column 0)))) ≡ false

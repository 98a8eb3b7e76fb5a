use Rattle.std.proofs.Common.{◌≡◌, ◌+◌, ◌<◌, ℕ, false}
use Rattle.cq_planning.specs.Components.{is_one_class}
use Rattle.cq_shape.specs.Labels.{label}
use Rattle.cq_repartition.proofs.keys.place_of.Given as goal

abbrev pub invariant-loop-place : goal.invariant-loop-place
invariant-loop-place l = (j : ℕ) → j < l.place → is_one_class (label l.labels) l.class (l.leaf.start + j) ≡ false

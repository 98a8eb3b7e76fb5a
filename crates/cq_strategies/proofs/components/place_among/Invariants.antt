use Rattle.std.proofs.Common.{◌≡◌, take, false}
use Rattle.std.specs.List.{list_any}
use Rattle.cq_shape.specs.Labels.{label}
use Rattle.cq_strategies.proofs.ComponentLaws.{fits}
use Rattle.cq_strategies.proofs.components.place_among.Given as goal

abbrev pub invariant-loop-place : goal.invariant-loop-place
invariant-loop-place l = list_any (fits (label l.labels) l.p) (take l.place l.components) ≡ false

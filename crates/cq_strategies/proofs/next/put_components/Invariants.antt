use Rattle.std.proofs.Common.{◌≡◌, fold}
use Rattle.cq_shape.specs.Labels.{label}
use Rattle.cq_strategies.specs.Choices.{with_component}
use Rattle.cq_strategies.proofs.next.put_components.Given as goal

abbrev pub invariant-loop-component : goal.invariant-loop-component
invariant-loop-component l = l.chosen ≡ fold (with_component (label l.labels) l.marks) l.fn.chosen l.yielded

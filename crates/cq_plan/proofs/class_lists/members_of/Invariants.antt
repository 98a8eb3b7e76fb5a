use Rattle.std.proofs.Common.{◌≡◌, nat_eq, filter}
use Rattle.cq_shape.specs.Labels.{label, up_to}
use Rattle.cq_plan.proofs.class_lists.members_of.Given as goal

abbrev pub invariant-loop-column : goal.invariant-loop-column
invariant-loop-column l = l.list ≡ filter (λ c. nat_eq (label l.labels c) l.first) (up_to l.column)

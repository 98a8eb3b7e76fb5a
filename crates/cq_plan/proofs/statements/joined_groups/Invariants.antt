use Rattle.std.proofs.Common.{◌≡◌, ℕ, List}
use Rattle.std.specs.List.{flat_map}
use Rattle.cq_plan.proofs.statements.joined_groups.Given as goal

abbrev pub invariant-loop-touch : goal.invariant-loop-touch
invariant-loop-touch l = l.groups ≡ flat_map (λ (t : ℕ × List ℕ). t.1) l.yielded

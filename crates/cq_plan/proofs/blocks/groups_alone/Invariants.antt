use Rattle.std.proofs.Common.{◌≡◌, ℕ, List, map}
use Rattle.cq_plan.proofs.blocks.groups_alone.Given as goal

abbrev pub invariant-loop-touch : goal.invariant-loop-touch
invariant-loop-touch l = l.list ≡ map (λ (t : ℕ × List ℕ). t.1) l.yielded

use Rattle.std.proofs.Common.{◌≡◌, ℕ, List, take}
use Rattle.std.specs.List.{flat_map}
use Rattle.cq_planner.proofs.reading.groups_of.Given as goal

abbrev pub invariant-loop-touch : goal.invariant-loop-touch
invariant-loop-touch l = l.groups ≡ flat_map (λ (t : ℕ × List ℕ). t.1) (take l.touch-index l.touches)

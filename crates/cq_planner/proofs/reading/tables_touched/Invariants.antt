use Rattle.std.proofs.Common.{◌≡◌, ℕ, List, map}
use Rattle.cq_planner.proofs.reading.tables_touched.Given as goal

abbrev pub invariant-loop-touch : goal.invariant-loop-touch
invariant-loop-touch l = l.tables ≡ map (λ (t : ℕ × List ℕ). t.0) l.yielded

use Rattle.std.proofs.Common.{◌≡◌, [], replicate}
use Rattle.cq_exec.proofs.execution.empty_results.Given as goal

abbrev pub invariant-loop-made : goal.invariant-loop-made
invariant-loop-made l = l.results ≡ replicate l._made []

use Rattle.std.proofs.Common.{◌≡◌}
use Rattle.cq_outline.specs.Tasking.{bucket_tasks}
use Rattle.cq_strategies.proofs.tasking.bucket_tasks.Given as goal

abbrev pub invariant-loop-index : goal.invariant-loop-index
invariant-loop-index l = l.tasks ≡ bucket_tasks l.index

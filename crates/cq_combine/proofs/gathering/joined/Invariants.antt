use Rattle.std.proofs.Common.{◌≡◌}
use Rattle.cq_task_laws.specs.Merging.{joined}
use Rattle.cq_combine.proofs.gathering.joined.Given as goal

abbrev pub invariant-loop-part : goal.invariant-loop-part
invariant-loop-part l = l.rows ≡ joined l.yielded

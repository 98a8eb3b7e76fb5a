use Rattle.std.proofs.Common.{◌≡◌, ◌++◌, drop}
use Rattle.cq_exec.specs.Executing.{groups_of}
use Rattle.cq_exec.proofs.tasks.groups_of.Given as goal

abbrev pub invariant-loop-task : goal.invariant-loop-task
invariant-loop-task l = l.groups ++ groups_of (drop l.task-index l.tasks) ≡ groups_of l.tasks

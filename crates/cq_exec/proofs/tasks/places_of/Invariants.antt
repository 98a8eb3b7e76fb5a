use Rattle.std.proofs.Common.{◌≡◌, ◌++◌, drop}
use Rattle.cq_exec.specs.Executing.{places_in}
use Rattle.cq_exec.proofs.tasks.places_of.Given as goal

abbrev pub invariant-loop-group : goal.invariant-loop-group
invariant-loop-group l = l.places ++ places_in l.groups (drop l.group-index l.wanted) ≡ places_in l.groups l.wanted

use Rattle.std.proofs.Common.{◌≡◌, ◌+◌, drop}
use Rattle.cq_planning.specs.Refusals.{first_without}
use Rattle.cq_plan.proofs.writes.first_without.Given as goal

abbrev pub invariant-loop-place : goal.invariant-loop-place
invariant-loop-place l = first_without l.column (l.place + 1) (drop l.place l.rows) ≡ first_without l.column 1 l.rows

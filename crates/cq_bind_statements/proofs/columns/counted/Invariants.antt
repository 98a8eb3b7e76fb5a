use Rattle.std.proofs.Common.{◌≡◌}
use Rattle.cq_reading.specs.Statements.{count_from}
use Rattle.cq_bind_statements.proofs.columns.counted.Given as goal

abbrev pub invariant-loop-i : goal.invariant-loop-i
invariant-loop-i l = l.places ≡ count_from 0 l.i

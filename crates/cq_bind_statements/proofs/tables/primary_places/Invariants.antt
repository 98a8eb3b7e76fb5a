use Rattle.std.proofs.Common.{◌≡◌, ◌++◌, drop}
use Rattle.cq_reading.specs.Statements.{primary_from}
use Rattle.cq_bind_statements.proofs.tables.primary_places.Given as goal

abbrev pub invariant-loop-i : goal.invariant-loop-i
invariant-loop-i l = primary_from 0 l.defs ≡ l.places ++ primary_from l.i (drop l.i l.defs)

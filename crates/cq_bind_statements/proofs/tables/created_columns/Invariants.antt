use Rattle.std.proofs.Common.{[]}
use Rattle.cq_reading.specs.Statements.{with_created}
use Rattle.cq_bind_statements.proofs.ThroughLaws.{StandsAt}
use Rattle.cq_bind_statements.proofs.tables.created_columns.Given as goal

abbrev pub invariant-loop-def : goal.invariant-loop-def
invariant-loop-def l = StandsAt with_created l.defs [] l.def-index l.columns

use Rattle.std.proofs.Common.{[]}
use Rattle.cq_reading.specs.Statements.{with_column}
use Rattle.cq_bind_statements.proofs.ThroughLaws.{StandsAt}
use Rattle.cq_bind_statements.proofs.columns.columns_from.Given as goal

abbrev pub invariant-loop-name : goal.invariant-loop-name
invariant-loop-name l = StandsAt (with_column l.columns) l.names [] l.name-index l.places

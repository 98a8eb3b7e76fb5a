use Rattle.cq_reading.specs.Statements.{with_unlisted}
use Rattle.cq_bind_statements.proofs.RowLaws.{StandsFrom}
use Rattle.cq_bind_statements.proofs.rows.check_columns.Given as goal

abbrev pub invariant-loop-i : goal.invariant-loop-i
invariant-loop-i l = StandsFrom (with_unlisted l.table l.row) l.number l.listed l.i

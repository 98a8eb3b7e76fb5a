use Rattle.cq_reading.specs.Statements.{with_unlisted}
use Rattle.cq_bind_statements.proofs.RowLaws.{from_ok, from_err, kept_err}
use Rattle.cq_bind_statements.proofs.rows.check_columns.Goals as goal

pub returns-in_err-check_column : goal.returns-in_err-check_column
returns-in_err-check_column c =
    kept_err _ c.args.listed.now _ c.from_residual.result
    (from_err (with_unlisted c.args.table.now c.args.row) c.args.number c.loop-i.i c.args.listed.now _ c.loop-i-test.true c.loop-i.invariant c.in_err-check_column.ensures) c.from_residual.ensures.1

pub loop-i-preserved : goal.loop-i-preserved
loop-i-preserved c = from_ok (with_unlisted c.args.table.now c.args.row) c.args.number c.loop-i.i c.args.listed.now c.loop-i-test.true c.loop-i.invariant c.in_ok-check_column.ensures

use Rattle.cq_bind_statements.proofs.ColumnLaws.{beside_ok, beside_err}
use Rattle.cq_bind_statements.proofs.JudgeLaws.{then_err}
use Rattle.cq_bind_statements.proofs.ThroughLaws.{put_ok}
use Rattle.cq_reading.specs.Statements.{column_of}
use Rattle.cq_bind_statements.proofs.columns.with_column.Goals as goal

pub returns-in_err-place : goal.returns-in_err-place
returns-in_err-place c =
    then_err (column_of c.args.columns.now c.args.before c.args.name.now) _ _ c.from_residual.result
    (beside_err c.args.columns.now _ c.args.before c.args.name.now _ c.as_slice.ensures c.in_err-place.ensures) c.from_residual.ensures.1

pub returns : goal.returns
returns c =
    put_ok (column_of c.args.columns.now c.args.before) c.args.before c.put.new.self c.args.name.now c.in_ok-place.place
    (beside_ok c.args.columns.now _ c.args.before c.args.name.now _ c.as_slice.ensures c.in_ok-place.ensures) c.in_ok-put.ensures.ok

use Rattle.std.proofs.Common.{sym}
use Rattle.cq_catalog.specs.Contents.{number_of}
use Rattle.cq_reading.specs.Widths.{is_some}
use Rattle.cq_bind_statements.proofs.JudgeLaws.{then_ok, then_err}
use Rattle.cq_bind_statements.proofs.TableLaws.{free}
use Rattle.cq_bind_statements.proofs.tables.creation_of.Goals as goal

pub returns-in_err-key : goal.returns-in_err-key
returns-in_err-key c =
    free (is_some (number_of c.args.catalog.now.tables c.args.name.now.text)) _ _ c.from_residual-in_err-key.result (sym c.if-is_taken.ensures)
    (then_ok _ _ c.in_ok-columns.columns c.from_residual-in_err-key.result c.in_ok-columns.ensures
    (then_err _ _ _ c.from_residual-in_err-key.result c.in_err-key.ensures c.from_residual-in_err-key.ensures.1))

pub returns : goal.returns
returns c =
    free (is_some (number_of c.args.catalog.now.tables c.args.name.now.text)) _ _ c.created.result (sym c.if-is_taken.ensures)
    (then_ok _ _ c.in_ok-columns.columns c.created.result c.in_ok-columns.ensures
    (then_ok _ _ c.in_ok-key.key c.created.result c.in_ok-key.ensures c.created.ensures))

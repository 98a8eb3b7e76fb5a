use Rattle.std.proofs.Common.{Ok, refl}
use Rattle.cq_bind_statements.proofs.JudgeLaws.{then_ok, then_err}
use Rattle.cq_bind_statements.proofs.writes.copying.Goals as goal

pub returns-in_err-number : goal.returns-in_err-number
returns-in_err-number c = then_err _ _ _ c.from_residual.result c.in_err-number.ensures c.from_residual.ensures.1

pub returns-in_err-columns : goal.returns-in_err-columns
returns-in_err-columns c =
    then_ok _ _ (c.in_ok-number.number, c.in_ok-number.info.now) c.from_residual-in_err-columns.result c.in_ok-number.ensures
    (then_err _ _ _ c.from_residual-in_err-columns.result c.in_err-columns.ensures c.from_residual-in_err-columns.ensures.1)

pub returns : goal.returns
returns c =
    then_ok _ _ (c.in_ok-number.number, c.in_ok-number.info.now) (Ok c.copy_of.result) c.in_ok-number.ensures
    (then_ok _ _ c.in_ok-columns.columns (Ok c.copy_of.result) c.in_ok-columns.ensures (λ found. rw c.copy_of.ensures refl))

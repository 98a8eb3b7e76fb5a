use Rattle.cq_bind_calls.proofs.Loops.{binds_then, binds_err}
use Rattle.cq_bind_expressions.proofs.conditions.tested.Goals as goal

pub returns-in_err-x : goal.returns-in_err-x
returns-in_err-x g c = binds_err _ _ _ _ _ c.in_err-x.ensures c.from_residual.ensures.1

pub returns : goal.returns
returns g c = binds_then _ _ _ _ _ _ c.in_ok-x.ensures c.test.ensures

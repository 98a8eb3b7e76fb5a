use Rattle.cq_bind_calls.proofs.Loops.{binds_then, binds_err}
use Rattle.cq_bind_expressions.proofs.expressions.coalesce.Goals as goal

pub returns-in_err-items : goal.returns-in_err-items
returns-in_err-items g c = binds_err _ _ _ _ _ c.in_err-items.ensures c.from_residual.ensures.1

pub returns : goal.returns
returns g c = binds_then _ _ _ _ _ _ c.in_ok-items.ensures (c.coalesced.ensures _)

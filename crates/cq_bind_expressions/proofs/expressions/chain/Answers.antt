use Rattle.cq_bind_calls.proofs.Loops.{binds_then}
use Rattle.cq_bind_expressions.proofs.expressions.chain.Goals as goal

pub returns : goal.returns
returns g c = binds_then _ _ _ _ _ _ c.in_ok-first.ensures (binds_then _ _ _ _ _ _ c.in_ok-parts.ensures (c.chained.ensures _))

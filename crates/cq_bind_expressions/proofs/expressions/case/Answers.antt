use Rattle.cq_bind_calls.proofs.Loops.{binds_then}
use Rattle.cq_bind_expressions.proofs.expressions.case.Goals as goal

pub returns : goal.returns
returns g c = binds_then _ _ _ _ _ _ c.in_ok-pairs.ensures (binds_then _ _ _ _ _ _ c.in_ok-other.ensures (c.chosen.ensures _))

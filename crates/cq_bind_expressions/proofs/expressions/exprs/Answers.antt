use Rattle.cq_reading.specs.Expressions.{reads}
use Rattle.cq_reading.specs.Walk.{part_of}
use Rattle.cq_bind_calls.proofs.Loops.{binds_each}
use Rattle.cq_bind_expressions.proofs.expressions.exprs.Goals as goal

pub returns : goal.returns
returns g c = binds_each (λ p. reads p c.args.scope.now) part_of _ _ _ _ c.each_of.ensures

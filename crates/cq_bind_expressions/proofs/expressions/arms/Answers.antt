use Rattle.cq_reading.specs.Expressions.{read_arm}
use Rattle.cq_reading.specs.Walk.{arm_part}
use Rattle.cq_bind_calls.proofs.Loops.{binds_each}
use Rattle.cq_bind_expressions.proofs.expressions.arms.Goals as goal

pub returns : goal.returns
returns g c = binds_each (read_arm c.args.scope.now) arm_part _ _ _ _ c.each_of.ensures

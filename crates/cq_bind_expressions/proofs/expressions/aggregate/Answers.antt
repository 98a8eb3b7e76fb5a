use Rattle.cq_reading.specs.Rules as rule
use Rattle.cq_reading.specs.Expressions.{reads}
use Rattle.cq_reading.specs.Walk.{part_of}
use Rattle.cq_bind_calls.proofs.Loops.{binds_then, binds_in}
use Rattle.cq_bind_expressions.proofs.expressions.aggregate.Goals as goal

pub returns : goal.returns
returns g c =
    binds_in (reads (part_of c.args.argument.now)) (λ a. rule.summed c.args.scope.now c.args.function a c.args.at) _ _ _ _ _ c.plain.ensures
    (binds_then _ _ _ _ _ _ c.in_ok-a.ensures c.summed.ensures)

use Rattle.std.proofs.Common.{◌≡◌, drop}
use Rattle.cq_reading.specs.Steps.{through}
use Rattle.cq_bind_expressions.specs.Operands.{with_operand}
use Rattle.cq_bind_expressions.proofs.operand.with_operands.Given as goal

abbrev pub invariant-operands : goal.invariant-operands
invariant-operands g l =
    through (with_operand g.T.Operand.part g.T.Operand.joins l.scope) l.fn.rest l.fn.first l.fn.found
    ≡ through (with_operand g.T.Operand.part g.T.Operand.joins l.scope) (drop l.operand-index l.rest) l.all l.found

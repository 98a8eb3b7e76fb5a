use Rattle.cq_reading.specs.Steps.{through}
use Rattle.cq_reading.specs.Expressions.{reads}
use Rattle.cq_reading.specs.Walk.{part_of}
use Rattle.cq_bind_calls.proofs.Loops.{binds_err, binds_then}
use Rattle.cq_bind_expressions.specs.Operands.{with_operand}
use Rattle.cq_bind_expressions.proofs.Chains.{from_found, from_none}
use Rattle.cq_bind_expressions.proofs.sums.from_left.Goals as goal

pub returns-in_err-first-in-None : goal.returns-in_err-first-in-None
returns-in_err-first-in-None g c =
    let scope = c.args.scope.now in
    let first = part_of c.args.first.now in
    let step = with_operand g.T.Operand.part g.T.Operand.joins in
    from_none scope g.T.Operand.part step first c.args.rest.now c.args.found.now c.in_ok-front.field-0 _ c.expr.new.found c.in_ok-front.ensures.longest c.in-None.is
    (binds_err (through (step scope) c.args.rest.now) (reads first scope c.args.found.now) c.in_err-first-in-None.field-0.0 _ _ c.in_err-first-in-None.ensures c.from_residual-in_err-first-in-None.ensures.1)

pub returns-in-Some : goal.returns-in-Some
returns-in-Some g c =
    let scope = c.args.scope.now in
    let step = with_operand g.T.Operand.part g.T.Operand.joins in
    from_found scope g.T.Operand.part step (part_of c.args.first.now) c.args.rest.now c.args.found.now c.in_ok-front.field-0 c.in-Some.front _ c.with_operands.new.found c.in_ok-front.ensures.longest c.in-Some.is
    c.with_operands.ensures

pub returns-in_ok-first-in-None : goal.returns-in_ok-first-in-None
returns-in_ok-first-in-None g c =
    let scope = c.args.scope.now in
    let first = part_of c.args.first.now in
    let step = with_operand g.T.Operand.part g.T.Operand.joins in
    from_none scope g.T.Operand.part step first c.args.rest.now c.args.found.now c.in_ok-front.field-0 c.with_operands-in-None.result c.with_operands-in-None.new.found c.in_ok-front.ensures.longest c.in-None.is
    (binds_then (through (step scope) c.args.rest.now) (reads first scope c.args.found.now) c.in_ok-first-in-None.first c.expr.new.found c.with_operands-in-None.result c.with_operands-in-None.new.found c.in_ok-first-in-None.ensures c.with_operands-in-None.ensures)

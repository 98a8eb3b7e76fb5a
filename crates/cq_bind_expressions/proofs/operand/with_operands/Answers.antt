use Rattle.std.proofs.Common.{refl}
use Rattle.cq_bind_calls.proofs.Loops.{goes_on, stops, ends}
use Rattle.cq_bind_expressions.specs.Operands.{with_operand}
use Rattle.cq_bind_expressions.proofs.operand.with_operands.Goals as goal

pub operands-init : goal.operands-init
operands-init g c = refl

pub returns-in_err-all : goal.returns-in_err-all
returns-in_err-all g c =
    stops (with_operand g.T.Operand.part g.T.Operand.joins c.args.scope.now) _ _ _ _ _ _ _ _ c.with_operand.new.found _ _ c.operands.invariant c.operands-test.true c.operand-item.is c.in_err-all.ensures c.from_residual.ensures.1

pub operands-preserved : goal.operands-preserved
operands-preserved g c =
    goes_on (with_operand g.T.Operand.part g.T.Operand.joins c.args.scope.now) _ _ _ _ _ _ _ _ _ c.operands.invariant c.operands-test.true c.operand-item.is c.in_ok-all.ensures

pub returns : goal.returns
returns g c = ends (with_operand g.T.Operand.part g.T.Operand.joins c.args.scope.now) _ _ _ _ _ c.operands.invariant c.operands-test.false

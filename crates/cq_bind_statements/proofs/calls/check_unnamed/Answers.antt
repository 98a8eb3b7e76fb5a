use Rattle.std.proofs.Common.{◌<◌, length, arith}
use Rattle.cq_bind_statements.proofs.ThroughLaws.{next_ok, next_err}
use Rattle.cq_bind_statements.proofs.calls.check_unnamed.Goals as goal

pub returns-in_err-without_name : goal.returns-in_err-without_name
returns-in_err-without_name c =
    let l : c.loop-argument.argument-index < length c.args.arguments.now = omega arith in
    next_err _ _ _ _ _ c.argument-item.result _ c.from_residual.result l c.argument-item.is c.loop-argument.invariant c.in_err-without_name.ensures c.from_residual.ensures.1

pub loop-argument-preserved : goal.loop-argument-preserved
loop-argument-preserved c =
    let l : c.loop-argument.argument-index < length c.args.arguments.now = omega arith in
    next_ok _ _ _ _ _ _ c.argument-item.result l c.argument-item.is c.loop-argument.invariant c.in_ok-without_name.ensures

use Rattle.std.proofs.Common.{◌<◌, length, arith}
use Rattle.cq_bind_statements.proofs.ThroughLaws.{next_ok, next_err}
use Rattle.cq_bind_statements.proofs.columns.columns_from.Goals as goal

pub returns-in_err-places : goal.returns-in_err-places
returns-in_err-places c =
    let l : c.loop-name.name-index < length c.args.names.now = omega arith in
    next_err _ _ _ _ _ c.name-item.result _ c.from_residual.result l c.name-item.is c.loop-name.invariant c.in_err-places.ensures c.from_residual.ensures.1

pub loop-name-preserved : goal.loop-name-preserved
loop-name-preserved c =
    let l : c.loop-name.name-index < length c.args.names.now = omega arith in
    next_ok _ _ _ _ _ _ c.name-item.result l c.name-item.is c.loop-name.invariant c.in_ok-places.ensures

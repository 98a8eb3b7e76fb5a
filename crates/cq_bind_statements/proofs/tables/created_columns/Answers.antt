use Rattle.std.proofs.Common.{◌<◌, length, arith}
use Rattle.cq_bind_statements.proofs.ThroughLaws.{next_ok, next_err}
use Rattle.cq_bind_statements.proofs.tables.created_columns.Goals as goal

pub returns-in_err-columns : goal.returns-in_err-columns
returns-in_err-columns c =
    let l : c.loop-def.def-index < length c.args.defs.now = omega arith in
    next_err _ _ _ _ _ c.def-item.result _ c.from_residual.result l c.def-item.is c.loop-def.invariant c.in_err-columns.ensures c.from_residual.ensures.1

pub loop-def-preserved : goal.loop-def-preserved
loop-def-preserved c =
    let l : c.loop-def.def-index < length c.args.defs.now = omega arith in
    next_ok _ _ _ _ _ _ c.def-item.result l c.def-item.is c.loop-def.invariant c.in_ok-columns.ensures

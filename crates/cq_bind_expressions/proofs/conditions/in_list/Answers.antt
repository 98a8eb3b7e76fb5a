use Rattle.std.proofs.Common.{Err, refl}
use Rattle.cq_bind_calls.proofs.Loops.{binds_then, binds_err}
use Rattle.cq_bind_expressions.proofs.conditions.in_list.Goals as goal

pub returns-in-Err : goal.returns-in-Err
returns-in-Err g c = binds_err _ _ c.in-Err.e (Err c.in-Err.e) c.exprs.new.found c.in-Err.ensures refl

pub returns-in-Ok : goal.returns-in-Ok
returns-in-Ok g c = binds_then _ _ _ _ _ _ c.in-Ok.ensures (c.listed.ensures _)

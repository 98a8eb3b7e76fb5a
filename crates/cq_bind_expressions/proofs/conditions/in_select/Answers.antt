use Rattle.std.proofs.Common.{ℕ, Err, refl}
use Rattle.cq_reading.specs.declared.bound.Block.{Block}
use Rattle.cq_reading.specs.Expressions.{numbered, among}
use Rattle.cq_reading.specs.Walk.{select_of}
use Rattle.cq_bind_calls.proofs.Loops.{binds_then, binds_err}
use Rattle.cq_bind_expressions.proofs.Pairs.{binds_both}
use Rattle.cq_bind_expressions.proofs.conditions.in_select.Goals as goal

pub returns-in-Err : goal.returns-in-Err
returns-in-Err g c = binds_both numbered (select_of c.args.select.now c.args.scope.now.world) (λ k block. among c.args.scope.now c.args.x c.args.negate c.args.at k block) c.args.found.now (Err c.in-Err.e) c.subquery.new.found (binds_err (λ (p : ℕ × Block). among c.args.scope.now c.args.x c.args.negate c.args.at p.0 p.1) _ c.in-Err.e (Err c.in-Err.e) c.subquery.new.found c.in-Err.ensures refl)

pub returns-in-Ok : goal.returns-in-Ok
returns-in-Ok g c = binds_both numbered (select_of c.args.select.now c.args.scope.now.world) (λ k block. among c.args.scope.now c.args.x c.args.negate c.args.at k block) _ _ _ (binds_then _ _ _ _ _ _ c.in-Ok.ensures c.among.ensures)

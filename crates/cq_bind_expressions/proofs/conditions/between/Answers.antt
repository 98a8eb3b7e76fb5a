use Rattle.std.proofs.Common.{Err, refl}
use Rattle.cq_reading.specs.declared.bound.Bound.{Bound}
use Rattle.cq_reading.specs.Rules as rule
use Rattle.cq_reading.specs.Expressions.{reads}
use Rattle.cq_reading.specs.Walk.{part_of}
use Rattle.cq_bind_calls.proofs.Loops.{binds_then, binds_err}
use Rattle.cq_bind_expressions.proofs.Pairs.{binds_both}
use Rattle.cq_bind_expressions.proofs.conditions.between.Goals as goal

pub returns-in-Err : goal.returns-in-Err
returns-in-Err g c = binds_both (reads (part_of c.args.low.now) c.args.scope.now) (reads (part_of c.args.high.now) c.args.scope.now) (λ a b. rule.between c.args.negate c.args.x a b c.args.at) c.args.found.now (Err c.in-Err.e) c.both.new.found (binds_err (λ (p : Bound × Bound). rule.between c.args.negate c.args.x p.0 p.1 c.args.at) _ c.in-Err.e (Err c.in-Err.e) c.both.new.found c.in-Err.ensures refl)

pub returns-in-Ok : goal.returns-in-Ok
returns-in-Ok g c = binds_both (reads (part_of c.args.low.now) c.args.scope.now) (reads (part_of c.args.high.now) c.args.scope.now) (λ a b. rule.between c.args.negate c.args.x a b c.args.at) _ _ _ (binds_then _ _ _ _ _ _ c.in-Ok.ensures (c.between.ensures _))

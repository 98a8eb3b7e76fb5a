use Rattle.cq_bind_rules.proofs.Placed.{placed}
use Rattle.cq_bind_rules.proofs.aggregates.summed.Goals as goal

pub returns-in-Ok : goal.returns-in-Ok
returns-in-Ok c = placed c.args.scope.now c.args.function c.args.a c.args.at _ _ _ _ c.in-Ok.ensures c.placed.ensures

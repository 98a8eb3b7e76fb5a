use Rattle.cq_bind_lists.proofs.Targets.{by_all, by_relation, by_value}
use Rattle.cq_bind_lists.proofs.gather.EachItemStep.step.Goals as goal

pub returns-in-All : goal.returns-in-All
returns-in-All g c =
    by_all (g.G.Gather.step c.args.self.now.gather.now c.args.self.now.scope.now) c.args.self.now.scope.now.columns c.args.before c.args.found.now _ c.args.found.now _ _ c.in-All.is (c.stars.ensures c.args.found.now)

pub returns-in-AllOf : goal.returns-in-AllOf
returns-in-AllOf g c =
    by_relation (g.G.Gather.step c.args.self.now.gather.now c.args.self.now.scope.now) c.args.self.now.scope.now.columns c.args.before c.args.found.now _ c.args.found.now _ _ c.in-AllOf.is (c.relation_stars.ensures c.args.found.now)

pub returns-in-Value : goal.returns-in-Value
returns-in-Value g c =
    by_value (g.G.Gather.step c.args.self.now.gather.now c.args.self.now.scope.now) c.args.self.now.scope.now.columns c.args.before c.args.found.now _ c.value.new.found _ _ _ c.in-Value.is c.value.ensures

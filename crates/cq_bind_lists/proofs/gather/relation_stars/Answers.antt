use Rattle.cq_reading.specs.Scopes.{is_of}
use Rattle.cq_bind_lists.proofs.Targets.{there, not_there}
use Rattle.cq_bind_lists.proofs.gather.relation_stars.Goals as goal

pub returns-then-is_there : goal.returns-then-is_there
returns-then-is_there g c = λ f.
    there (g.G.Gather.step c.args.gather.now c.args.scope.now) c.args.scope.now.columns c.args.before f _ f c.args.relation.now.at (is_of c.args.relation.now.text) _ c.is_there.ensures c.if-is_there.true (c.stars.ensures f)

pub returns-else-is_there : goal.returns-else-is_there
returns-else-is_there g c = λ f.
    not_there (g.G.Gather.step c.args.gather.now c.args.scope.now) c.args.scope.now.columns c.args.before f _ f c.args.relation.now.at (is_of c.args.relation.now.text) _ c.is_there.ensures c.if-is_there.false (c.missing.ensures f)

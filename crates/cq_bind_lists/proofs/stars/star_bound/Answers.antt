use Rattle.std.proofs.Common.{sym, ap, ◌∙◌}
use Rattle.cq_bind_lists.proofs.Keys.{star_grouped, star_free}
use Rattle.cq_bind_lists.proofs.stars.star_bound.Goals as goal

pub returns-then-scope : goal.returns-then-scope
returns-then-scope c = star_grouped c.args.at c.args.place c.args.scope.now _ (sym (ap (λ x. x.grouped) c.scope.view_is) ∙ c.if-scope.true) c.star_key.ensures

pub returns-else-scope : goal.returns-else-scope
returns-else-scope c = star_free c.args.at c.args.place c.args.scope.now _ (sym (ap (λ x. x.grouped) c.scope.view_is) ∙ c.if-scope.false) c.column_at.ensures

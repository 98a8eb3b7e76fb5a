use Rattle.std.proofs.Common.{sym, ◌∙◌}
use Rattle.cq_bind_lists.specs.Stars.{meant}
use Rattle.cq_bind_lists.proofs.Targets.{meant_so, not_meant}
use Rattle.cq_bind_lists.proofs.gather.star_if.Goals as goal

pub returns-then-is_meant : goal.returns-then-is_meant
returns-then-is_meant g c =
    meant_so (g.G.Gather.step c.args.gather.now c.args.scope.now) c.args.at (meant c.args.star) (meant c.args.star c.args.column.now) c.args.before c.args.place c.args.column.now _ (sym c.is_meant.ensures ∙ c.if-is_meant.true) c.star.ensures

pub returns-else-is_meant : goal.returns-else-is_meant
returns-else-is_meant g c =
    not_meant (g.G.Gather.step c.args.gather.now c.args.scope.now) c.args.at (meant c.args.star) (meant c.args.star c.args.column.now) c.args.before c.args.place c.args.column.now (sym c.is_meant.ensures ∙ c.if-is_meant.false)

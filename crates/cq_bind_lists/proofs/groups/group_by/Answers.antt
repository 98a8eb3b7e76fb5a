use Rattle.std.proofs.Common.{rules, map, sym, ap, refl, ◌∙◌}
use Rattle.cq_reading.specs.Selects.{targets}
use Rattle.cq_reading.specs.Walk.{item_part}
use Rattle.cq_bind_lists.proofs.Grouping.{group_ok, group_err}
use Rattle.cq_bind_lists.proofs.groups.group_by.Goals as goal

pub returns-then-scope : goal.returns-then-scope
returns-then-scope g c = group_err c.args.scope.now (targets c.args.scope.now.columns (map item_part c.args.items.now)) c.args.groups.now c.args.found.now c.args.found.now _ (sym (ap (λ x. x.joined) c.scope.view_is) ∙ c.if-scope.true) refl

pub returns : goal.returns
returns g c =
    group_ok c.args.scope.now (targets c.args.scope.now.columns (map item_part c.args.items.now)) c.args.groups.now c.args.found.now _ c.through_of.new.found _ (search rules) (sym (ap (λ x. x.joined) c.scope.view_is) ∙ c.if-scope.false)
    c.through_of.ensures

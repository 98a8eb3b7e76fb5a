use Rattle.std.proofs.Common.{◌≡◌, IfOk, subst, ◌∙◌}
use Rattle.cq_planner.proofs.TouchLaws.{groups_found}
use Rattle.cq_planner.proofs.reading.groups_touched.Goals as goal

pub returns : goal.returns
returns c =
    subst (λ x. IfOk c.in_order.result (λ v. v ≡ x))
    (groups_found c.args.catalog.now c.args.plan.now c.as_slice.result.now c.as_slice-2.result.now (c.as_slice.ensures ∙ c.in_ok-all.ensures) (c.as_slice-2.ensures ∙ c.in_ok-groups.ensures))
    c.in_order.ensures

use Rattle.std.proofs.Common.{◌≡◌, IfOk, refl, ap, ◌∙◌, subst}
use Rattle.cq_planner.specs.Counting.{counts_among}
use Rattle.cq_planner.proofs.WholeLaws.{whole_found}
use Rattle.cq_planner.proofs.planning.plan.Goals as goal

pub returns : goal.returns
returns c =
    subst (λ x. IfOk c.plan_of.result (λ p. p ≡ x))
    (whole_found c.args.catalog.now c.args.query.now c.in_ok-ctes.ctes c.in_ok-all.all c.len-first_in_ctes.result c.in_ok-first_in.first_in c.in_ok-plus.field-0 c.in_ok-number.number _
    (c.in_ok-ctes.ensures ∙ ap counts_among c.as_slice.ensures) c.in_ok-all.ensures c.len-first_in_ctes.ensures c.in_ok-first_in.ensures c.in_ok-plus.ensures c.in_ok-number.ensures refl)
    c.plan_of.ensures

use Rattle.std.proofs.Common.{◌≡◌, ℕ, List, ap, subst, ◌∙◌}
use Rattle.std.specs.Prelude.{IfOk}
use Rattle.std.specs.List.{flat_map}
use Rattle.cq_planning.specs.Touched.{in_order}
use Rattle.cq_plan.proofs.OrderLaws.{touched_together}
use Rattle.cq_plan.proofs.statements.touched_by_each.Goals as goal

pub returns : goal.returns
returns c =
    subst (λ u. IfOk c.in_order.result (λ groups. groups ≡ u))
    (ap (in_order c.args.catalog.now) (c.as_slice.ensures ∙ (c.in_ok-groups.ensures ∙ ap (flat_map (λ (t : ℕ × List ℕ). t.1)) c.in_ok-touches.ensures)) ∙ touched_together c.args.catalog.now c.args.q.now)
    c.in_order.ensures

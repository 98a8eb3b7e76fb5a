use Rattle.std.proofs.Common.{◌≡◌, IfOk, ◌∙◌, subst}
use Rattle.cq_router.specs.declared.planners.Routed.{Routed}
use Rattle.cq_router.proofs.RoutedLaws.{routed_query}
use Rattle.cq_router.proofs.planners.plan_of_query.Goals as goal

pub returns : goal.returns
returns c =
    subst (λ (plan : Routed). IfOk c.plan_of.result (λ r. r ≡ plan))
    (routed_query c.args.catalog.now c.args.planner c.args.q.now c.as_slice.result.now (c.as_slice.ensures ∙ c.in_ok-reads.ensures)) c.plan_of.ensures

use Rattle.std.proofs.Common.{rules, ◌≡◌, sym, ap, ◌∙◌, subst, IfOk}
use Rattle.cq_tree.specs.declared.plan.Planner.TheVariants as planners
use Rattle.cq_outline.specs.Joining.{joined_in}
use Rattle.cq_outline.specs.Tasking.{planner_of}
use Rattle.cq_repartition.specs.Repartitions.{repartition_over, over_planner}
use Rattle.cq_repartition.proofs.repartition.repartition_of.Goals as goal

pub returns-in_ok-joined-in-Repartition : goal.returns-in_ok-joined-in-Repartition
returns-in_ok-joined-in-Repartition c =
    let catalog = c.args.catalog.now in
    let q = c.args.query.now in
    let planned : planner_of catalog q ≡ planners.Repartition = search rules in
    let joined : c.in_ok-joined-in-Repartition.joined ≡ joined_in catalog q = search rules in
    subst (λ s. IfOk c.repartition_over.result (λ r. r ≡ s)) (ap (repartition_over q) joined ∙ ap (over_planner catalog q) (sym planned)) c.repartition_over.ensures

use Rattle.std.proofs.Common.{ap, ◌∙◌}
use Rattle.cq_shape.specs.Labels.{label}
use Rattle.cq_plan.proofs.WalkLaws.{where_arm}
use Rattle.cq_plan.proofs.walk.groups_walked.Goals as goal

pub returns : goal.returns
returns c =
    where_arm c.args.catalog.now c.args.filter.now c.args.table c.as_slice.result.now c.as_slice-2.result.now c.nothing.result.relations.now c.nothing.result.low c.nothing.result.pairs.now _ c.in_ok-groups.groups
    (ap label c.as_slice.ensures ∙ c.in_ok-labels.ensures) (c.as_slice-2.ensures ∙ (rw c.new-said.ensures at c.in_ok-put_all_said.ensures)) c.nothing.ensures c.in_ok-groups.ensures.0

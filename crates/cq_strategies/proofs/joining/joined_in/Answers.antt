use Rattle.std.proofs.Common.{◌∙◌}
use Rattle.cq_shape.specs.Labels.{label}
use Rattle.cq_strategies.proofs.PartLaws.{query_there}
use Rattle.cq_strategies.proofs.joining.joined_in.Goals as goal

pub join_of-requires : goal.join_of-requires
join_of-requires c =
    query_there c.args.catalog.now c.args.q.now (label c.as_slice.result.now) c.in_ok-width.width c.as_slice-2.result.now c.in_ok-components.components.items c.tables-whole.ensures.whole
    (c.as_slice-2.ensures ∙ c.in_ok-relations.ensures) c.in_ok-components.ensures

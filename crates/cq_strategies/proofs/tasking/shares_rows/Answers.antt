use Rattle.std.proofs.Common.{ap, ◌∙◌}
use Rattle.cq_shape.specs.Labels.{label}
use Rattle.cq_strategies.proofs.TaskLaws.{shares_found}
use Rattle.cq_strategies.proofs.tasking.shares_rows.Goals as goal

pub returns : goal.returns
returns c = shares_found c.args.at c.args.q.now (label c.as_slice.result.now) c.shares_either.result (ap label c.as_slice.ensures ∙ c.in_ok-labels.ensures) c.shares_either.ensures

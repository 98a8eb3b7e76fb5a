use Rattle.std.proofs.Common.{rules}
use Rattle.cq_shape.specs.Labels.{label}
use Rattle.cq_strategies.proofs.NextLaws.{next_is}
use Rattle.cq_strategies.proofs.next.next_in.Goals as goal

pub returns : goal.returns
returns c = next_is (label c.args.labels.now) c.args.columns.now c.in_ok-marks.marks.items c.in_ok-marks.ensures c.args.components c.put_components.new.chosen (search rules)

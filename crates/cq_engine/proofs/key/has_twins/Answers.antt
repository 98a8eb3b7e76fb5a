use Rattle.std.proofs.Common.{◌∙◌}
use Rattle.cq_engine.proofs.KeyOrder.{twins_side_by_side}
use Rattle.cq_engine.proofs.key.has_twins.Goals as goal

pub returns : goal.returns
returns c = c.has_twin_neighbours.ensures ∙ twins_side_by_side c.args.key.now c.args.sorted.now c.requires

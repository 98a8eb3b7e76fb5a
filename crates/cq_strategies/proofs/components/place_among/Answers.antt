use Rattle.std.proofs.Common.{arith}
use Rattle.std.proofs.lemmas.Grind.{common_steps}
use Rattle.cq_shape.specs.Labels.{label}
use Rattle.cq_strategies.proofs.ComponentLaws.{put_here, put_last}
use Rattle.cq_strategies.proofs.components.place_among.Goals as goal

pub returns-then-is_one_component-clause-found : goal.returns-then-is_one_component-clause-found
returns-then-is_one_component-clause-found c h =
    put_here (label c.args.labels.now) c.args.p.now c.args.components.now c.loop-place.place c.index-components-place.result h c.loop-place.invariant c.index-components-place.is (grind (arith, common_steps))

pub returns-clause-last : goal.returns-clause-last
returns-clause-last c h = put_last (label c.args.labels.now) c.args.p.now c.args.components.now (grind (arith, common_steps))

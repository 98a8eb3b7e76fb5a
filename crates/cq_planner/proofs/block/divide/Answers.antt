use Rattle.cq_one_plan.specs.Plans.{staying, leaving, asking}
use Rattle.cq_planner.proofs.BlockLaws.{filter_push}
use Rattle.cq_planner.proofs.block.divide.Goals as goal

pub loop-part-preserved : goal.loop-part-preserved
loop-part-preserved c = record {
  stays = filter_push staying c.loop-part.yielded c.in-Some.part c.loop-part.divided.stays _ c.loop-part.invariant.stays c.in_ok-put_part.ensures.stays;
  leaves = filter_push leaving c.loop-part.yielded c.in-Some.part c.loop-part.divided.leaves _ c.loop-part.invariant.leaves c.in_ok-put_part.ensures.leaves;
  asks = filter_push asking c.loop-part.yielded c.in-Some.part c.loop-part.divided.asks _ c.loop-part.invariant.asks c.in_ok-put_part.ensures.asks;
}

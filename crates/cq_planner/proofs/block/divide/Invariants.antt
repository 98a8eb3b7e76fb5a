use Rattle.std.proofs.Common.{◌≡◌, filter_map}
use Rattle.cq_one_plan.specs.Plans.{staying, leaving, asking}
use Rattle.cq_planner.proofs.block.divide.Given as goal

abbrev pub invariant-loop-part : goal.invariant-loop-part
invariant-loop-part l = record {
  stays : l.divided.stays ≡ filter_map staying l.yielded;
  leaves : l.divided.leaves ≡ filter_map leaving l.yielded;
  asks : l.divided.asks ≡ filter_map asking l.yielded;
}

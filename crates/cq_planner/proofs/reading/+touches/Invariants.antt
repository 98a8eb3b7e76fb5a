use Rattle.std.proofs.Common.{◌≡◌, ◌++◌, take}
use Rattle.std.specs.List.{flat_map}
use Rattle.cq_one_plan.specs.Reading.{touches_in}
use Rattle.cq_planner.proofs.reading.+touches.Given as goal

abbrev pub invariant-put_touches_of_all-loop-plan : goal.invariant-put_touches_of_all-loop-plan
invariant-put_touches_of_all-loop-plan l = l.found ≡ l.fn.found ++ flat_map touches_in (take l.plan-index l.plans)

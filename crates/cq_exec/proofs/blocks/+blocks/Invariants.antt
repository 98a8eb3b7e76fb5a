use Rattle.std.proofs.Common.{◌≡◌, ◌++◌, take}
use Rattle.std.specs.List.{flat_map}
use Rattle.cq_one_plan.specs.Reading.{blocks_in_order}
use Rattle.cq_exec.proofs.blocks.+blocks.Given as goal

abbrev pub invariant-put_all-loop-plan : goal.invariant-put_all-loop-plan
invariant-put_all-loop-plan l = l.found ≡ l.fn.found ++ flat_map blocks_in_order (take l.plan-index l.plans)

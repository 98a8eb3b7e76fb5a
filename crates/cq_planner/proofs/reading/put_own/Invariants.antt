use Rattle.std.proofs.Common.{◌≡◌, ◌++◌, take}
use Rattle.cq_planner.proofs.reading.put_own.Given as goal

abbrev pub invariant-loop-touch : goal.invariant-loop-touch
invariant-loop-touch l = l.found ≡ l.fn.found ++ take l.touch-index l.touches

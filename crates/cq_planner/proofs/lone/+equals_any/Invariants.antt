use Rattle.std.proofs.Common.{length}
use Rattle.cq_planner.proofs.lone.+equals_any.Given as goal

abbrev pub decreases-equals_any : goal.decreases-equals_any
decreases-equals_any l = length l.values.now

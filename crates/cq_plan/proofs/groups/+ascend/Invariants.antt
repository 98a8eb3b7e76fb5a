use Rattle.std.proofs.Common.{length}
use Rattle.cq_plan.proofs.groups.+ascend.Given as goal

abbrev pub decreases-ascend : goal.decreases-ascend
decreases-ascend l = length l.groups.now

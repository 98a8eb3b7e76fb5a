use Rattle.std.proofs.Common.{rules}
use Rattle.cq_combine.proofs.StepLaws.{joined_push}
use Rattle.cq_combine.proofs.gathering.joined.Goals as goal

pub loop-part-preserved : goal.loop-part-preserved
loop-part-preserved c = rw joined_push (search rules)

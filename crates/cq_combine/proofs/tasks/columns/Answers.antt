use Rattle.std.proofs.Common.{refl}
use Rattle.cq_combine.proofs.StepLaws.{columns_push}
use Rattle.cq_combine.proofs.tasks.columns.Goals as goal

pub loop-at-preserved : goal.loop-at-preserved
loop-at-preserved c = rw (c.in_ok-put.ensures.ok, columns_push, c.loop-at.invariant) refl

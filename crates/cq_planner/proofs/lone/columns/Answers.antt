use Rattle.std.proofs.Common.{refl}
use Rattle.cq_planner.proofs.LoneLaws.{columns_push}
use Rattle.cq_planner.proofs.lone.columns.Goals as goal

pub loop-at-preserved : goal.loop-at-preserved
loop-at-preserved c = rw (c.in_ok-put.ensures.ok, columns_push, c.loop-at.invariant) refl

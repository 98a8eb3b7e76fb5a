use Rattle.std.proofs.Common.{length}
use Rattle.cq_engine.proofs.update.+fits_kinds.Given as goal

abbrev pub decreases-fits_kinds : goal.decreases-fits_kinds
decreases-fits_kinds l = length l.kinds.now

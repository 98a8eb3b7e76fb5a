use Rattle.std.proofs.Common.{refl}
use Rattle.cq_transfer.proofs.mover.stop.Goals as goal

pub returns-clause-back : goal.returns-clause-back
returns-clause-back g c = record { begun = refl; why = c.why_of.ensures; stores = c.into_stores.ensures }

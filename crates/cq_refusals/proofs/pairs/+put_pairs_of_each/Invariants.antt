use Rattle.std.proofs.Common.{length}
use Rattle.cq_refusals.proofs.pairs.+put_pairs_of_each.Given as goal

abbrev pub decreases-put_pairs_of_each : goal.decreases-put_pairs_of_each
decreases-put_pairs_of_each l = length l.relations.now

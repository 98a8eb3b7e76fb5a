use Rattle.std.proofs.Common.{length}
use Rattle.cq_strategies.proofs.components.+put_relations.Given as goal

abbrev pub decreases-put_relations : goal.decreases-put_relations
decreases-put_relations l = length l.relations.now

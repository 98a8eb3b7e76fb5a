use Rattle.std.proofs.Common.{◌≡◌, take, map}
use Rattle.cq_queries.specs.Tallied.{row_of_tallied}
use Rattle.cq_queries.proofs.tallying.rows_of.Given as goal

abbrev pub invariant-loop-g : goal.invariant-loop-g
invariant-loop-g l = l.rows ≡ map row_of_tallied (take l.g-index l.groups)

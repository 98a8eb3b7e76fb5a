use Rattle.std.proofs.Common.{◌≡◌, ◌++◌, drop}
use Rattle.cq_queries.proofs.members.lookups_of.Given as goal

abbrev pub invariant-loop-rows : goal.invariant-loop-rows
invariant-loop-rows l = (l.lookups ++ drop l.rows-index l.rows-items) ≡ l.rows-items

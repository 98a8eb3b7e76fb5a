use Rattle.std.proofs.Common.{◌≡◌, List, ◌++◌, length}
use Rattle.cq_meaning.specs.Values.{Row}
use Rattle.cq_queries.specs.Wanted.{top_of}
use Rattle.cq_queries.proofs.wanted.top_rows.Given as goal

abbrev pub invariant-loop-row : goal.invariant-loop-row
invariant-loop-row l = (seen : List Row) × (l.rest.items ++ seen ≡ l.fn.rows) × (l.first.items ≡ top_of l.fn.top seen)

abbrev pub decreases-loop-row : goal.decreases-loop-row
decreases-loop-row l = length l.rest.items

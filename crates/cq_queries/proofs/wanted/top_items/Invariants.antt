use Rattle.std.proofs.Common.{◌≡◌, ◌≤◌, map, drop, length}
use Rattle.cq_meaning.specs.Expressions.{items_of}
use Rattle.cq_queries.specs.Cells.{rows_in}
use Rattle.cq_queries.specs.Wanted.{top_of}
use Rattle.cq_queries.proofs.wanted.top_items.Given as goal

abbrev pub invariant-row : goal.invariant-row
invariant-row l = record {
  within : l.at ≤ length (rows_in l.rows);
  first : l.first.items ≡ top_of l.fn.top (map (items_of l.es l.results) (drop l.at (rows_in l.rows)));
}

abbrev pub decreases-row : goal.decreases-row
decreases-row l = l.at

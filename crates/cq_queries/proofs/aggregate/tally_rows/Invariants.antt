use Rattle.std.proofs.Common.{◌≡◌, take, map}
use Rattle.cq_queries.specs.Cells.{rows_in}
use Rattle.cq_queries.specs.Tallies.{tally_over}
use Rattle.cq_queries.proofs.aggregate.tally_rows.Given as goal

abbrev pub invariant-loop-at : goal.invariant-loop-at
invariant-loop-at l = l.tallies ≡ map (tally_over l.results (take l.at (rows_in l.rows))) l.aggs

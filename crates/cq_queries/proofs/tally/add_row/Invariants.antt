use Rattle.std.proofs.Common.{◌≡◌, ◌++◌, map, take, drop}
use Rattle.cq_queries.specs.Cells.{row_in}
use Rattle.cq_queries.specs.Tallies.{tally_with}
use Rattle.cq_queries.proofs.tally.add_row.Given as goal

abbrev pub invariant-loop-t : goal.invariant-loop-t
invariant-loop-t l = l.t-items ≡ map (tally_with l.results (row_in l.row)) (take l.t-index l.initial.t-items) ++ drop l.t-index l.initial.t-items

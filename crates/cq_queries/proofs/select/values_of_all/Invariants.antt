use Rattle.std.proofs.Common.{◌≡◌, take, map}
use Rattle.cq_meaning.specs.Expressions.{items_of}
use Rattle.cq_queries.specs.Cells.{rows_in}
use Rattle.cq_queries.proofs.select.values_of_all.Given as goal

abbrev pub invariant-loop-at : goal.invariant-loop-at
invariant-loop-at l = l.all ≡ map (items_of l.es l.results) (take l.at (rows_in l.rows))

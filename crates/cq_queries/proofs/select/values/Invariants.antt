use Rattle.std.proofs.Common.{◌≡◌, take}
use Rattle.cq_meaning.specs.Expressions.{items_of}
use Rattle.cq_queries.specs.Cells.{row_in}
use Rattle.cq_queries.proofs.select.values.Given as goal

abbrev pub invariant-loop-e : goal.invariant-loop-e
invariant-loop-e l = l.values ≡ items_of (take l.e-index l.es) l.results (row_in l.row)

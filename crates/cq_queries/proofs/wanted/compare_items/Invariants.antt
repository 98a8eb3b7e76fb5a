use Rattle.std.proofs.Common.{◌≡◌, drop}
use Rattle.cq_meaning.specs.Expressions.{items_of}
use Rattle.cq_meaning.specs.Sorting.{keys_cmp}
use Rattle.cq_queries.specs.Cells.{row_in}
use Rattle.cq_queries.proofs.wanted.compare_items.Given as goal

abbrev pub invariant-loop-key : goal.invariant-loop-key
invariant-loop-key l = keys_cmp (drop l.key-index l.keys) l.made (items_of l.es l.results (row_in l.row)) ≡ keys_cmp l.keys l.made (items_of l.es l.results (row_in l.row))

use Rattle.std.proofs.Common.{◌≡◌, take}
use Rattle.std.specs.Prelude.{filter}
use Rattle.cq_meaning.specs.Expressions.{keeps}
use Rattle.cq_queries.proofs.select.copy_kept.Given as goal

abbrev pub invariant-loop-row : goal.invariant-loop-row
invariant-loop-row l = l.kept ≡ filter (keeps l.c l.results) (take l.row-index l.rows)

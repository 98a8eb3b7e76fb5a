use Rattle.std.proofs.Common.{◌≡◌, map, filter, take}
use Rattle.cq_meaning.specs.Expressions.{keeps}
use Rattle.cq_pages.specs.Shared.{row_lent}
use Rattle.cq_queries.proofs.tables.keep_rows.Given as goal

abbrev pub invariant-loop-row : goal.invariant-loop-row
invariant-loop-row l = map row_lent l.kept ≡ filter (keeps l.c l.results) (take l.row-index l.rows)

use Rattle.std.proofs.Common.{◌≡◌, map, filter}
use Rattle.cq_meaning.specs.Expressions.{keeps}
use Rattle.cq_pages.specs.Shared.{row_lent}
use Rattle.cq_queries.proofs.tables.keep_lent.Given as goal

abbrev pub invariant-loop-lent : goal.invariant-loop-lent
invariant-loop-lent l = map row_lent l.kept ≡ filter (keeps l.c l.results) (map row_lent l.yielded)

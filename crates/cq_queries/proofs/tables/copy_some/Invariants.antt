use Rattle.std.proofs.Common.{◌≡◌, map, filter}
use Rattle.cq_queries.specs.Pruned.{may_keep}
use Rattle.cq_pages.specs.Shared.{row_lent}
use Rattle.cq_queries.proofs.tables.copy_some.Given as goal

abbrev pub invariant-loop-lent : goal.invariant-loop-lent
invariant-loop-lent l = l.some ≡ filter (may_keep l.c) (map row_lent l.yielded)

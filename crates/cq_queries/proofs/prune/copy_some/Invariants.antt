use Rattle.std.proofs.Common.{◌≡◌, take}
use Rattle.std.specs.Prelude.{filter}
use Rattle.cq_queries.specs.Pruned.{may_keep}
use Rattle.cq_queries.proofs.prune.copy_some.Given as goal

abbrev pub invariant-loop-row : goal.invariant-loop-row
invariant-loop-row l = l.some ≡ filter (may_keep l.c) (take l.row-index l.rows)

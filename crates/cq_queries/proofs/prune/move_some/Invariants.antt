use Rattle.std.proofs.Common.{◌≡◌}
use Rattle.std.specs.Prelude.{filter}
use Rattle.cq_queries.specs.Pruned.{may_keep}
use Rattle.cq_queries.proofs.prune.move_some.Given as goal

abbrev pub invariant-loop-row : goal.invariant-loop-row
invariant-loop-row l = l.some ≡ filter (may_keep l.c) l.yielded

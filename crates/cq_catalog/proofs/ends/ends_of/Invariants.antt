use Rattle.std.proofs.Common.{◌≡◌}
use Rattle.cq_catalog.specs.Ranges.{ends_from}
use Rattle.cq_catalog.proofs.ends.ends_of.Given as goal

abbrev pub invariant-loop-index : goal.invariant-loop-index
invariant-loop-index l = l.ends ≡ ends_from l.count 0 l.index

use Rattle.std.proofs.Common.{◌≡◌, take}
use Rattle.cq_reading.specs.Widths.{common_from}
use Rattle.cq_bind_tests.proofs.alike.common_from.Given as goal

abbrev pub invariant-loop-item : goal.invariant-loop-item
invariant-loop-item l = l.kind ≡ common_from l.fn.first (take l.item-index l.items)

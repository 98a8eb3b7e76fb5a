use Rattle.std.proofs.Common.{◌≡◌, take}
use Rattle.cq_reading.specs.Widths as widths
use Rattle.cq_bind_tests.proofs.choices.greatest_width.Given as goal

abbrev pub invariant-loop-item : goal.invariant-loop-item
invariant-loop-item l = l.most ≡ widths.greatest_width (take l.item-index l.items)

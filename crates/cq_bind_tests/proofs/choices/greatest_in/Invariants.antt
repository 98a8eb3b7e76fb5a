use Rattle.std.proofs.Common.{◌≡◌, take, map}
use Rattle.cq_reading.specs.Widths as widths
use Rattle.cq_bind_tests.proofs.choices.greatest_in.Given as goal

abbrev pub invariant-loop-arm : goal.invariant-loop-arm
invariant-loop-arm l = l.most ≡ widths.greatest_width (map (λ p. p.1) (take l.arm-index l.arms))

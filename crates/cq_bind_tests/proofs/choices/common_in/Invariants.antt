use Rattle.std.proofs.Common.{◌≡◌, take, map}
use Rattle.cq_reading.specs.Widths.{common_of}
use Rattle.cq_bind_tests.proofs.choices.common_in.Given as goal

abbrev pub invariant-loop-arm : goal.invariant-loop-arm
invariant-loop-arm l = l.kind ≡ common_of (map (λ p. p.1) (take l.arm-index l.arms))

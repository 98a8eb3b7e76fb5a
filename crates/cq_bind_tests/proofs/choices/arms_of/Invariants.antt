use Rattle.std.proofs.Common.{◌≡◌, map}
use Rattle.cq_reading.specs.Rules.{arm_of}
use Rattle.cq_bind_tests.proofs.choices.arms_of.Given as goal

abbrev pub invariant-loop-when : goal.invariant-loop-when
invariant-loop-when l = l.out ≡ map arm_of l.yielded

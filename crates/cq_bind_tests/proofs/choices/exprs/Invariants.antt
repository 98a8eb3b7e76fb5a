use Rattle.std.proofs.Common.{◌≡◌, map}
use Rattle.cq_reading.specs.Widths.{expr_of}
use Rattle.cq_bind_tests.proofs.choices.exprs.Given as goal

abbrev pub invariant-loop-item : goal.invariant-loop-item
invariant-loop-item l = l.out ≡ map expr_of l.yielded

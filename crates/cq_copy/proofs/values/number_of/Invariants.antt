use Rattle.std.proofs.Common.{◌≡◌, ◌-◌, ◌^◌, take, fold, min}
use Rattle.cq_copy.specs.Values.{with_digit}
use Rattle.cq_copy.proofs.values.number_of.Given as goal

abbrev pub invariant-loop-digit : goal.invariant-loop-digit
invariant-loop-digit l = l.number ≡ min (fold with_digit 0 (take l.digit-index l.digits)) (2 ^ 64 - 1)

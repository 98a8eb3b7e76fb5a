use Rattle.std.proofs.Common.{◌≡◌, ◌+◌}
use Rattle.cq_whole.proofs.steps.number_all.Given as goal

abbrev pub invariant-loop-number : goal.invariant-loop-number
invariant-loop-number l = l.numbers ≡ l.fn.numbers + l._number

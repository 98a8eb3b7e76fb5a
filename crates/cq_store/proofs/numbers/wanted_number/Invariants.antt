use Rattle.std.proofs.Common.{◌≡◌, take}
use Rattle.cq_store.specs.Indexes.{wanted_number}
use Rattle.cq_store.proofs.numbers.wanted_number.Given as goal

abbrev pub invariant-loop-value : goal.invariant-loop-value
invariant-loop-value l = l.number ≡ wanted_number (take l.value-index l.wanted)

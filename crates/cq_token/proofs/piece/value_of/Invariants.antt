use Rattle.std.proofs.Common.{◌≡◌, ◌≤◌, drop, fold}
use Rattle.cq_token.specs.Tokens.{with_digit, greatest_number}
use Rattle.cq_token.proofs.piece.value_of.Given as goal

abbrev pub invariant-loop-byte : goal.invariant-loop-byte
invariant-loop-byte l = (fold with_digit l.value (drop l.byte-index l.digits) ≡ fold with_digit 0 l.digits) × (l.value ≤ greatest_number)

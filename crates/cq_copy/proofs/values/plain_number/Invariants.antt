use Rattle.std.proofs.Common.{◌≡◌, ◌-◌, ◌^◌, take, fold, min, true}
use Rattle.std.specs.List.{list_all}
use Rattle.std.specs.Char.{is_ascii_digit}
use Rattle.cq_copy.specs.Values.{with_digit}
use Rattle.cq_copy.proofs.values.plain_number.Given as goal

abbrev pub invariant-loop-byte : goal.invariant-loop-byte
invariant-loop-byte l = (list_all is_ascii_digit (take l.byte-index l.text) ≡ true) × (l.number ≡ min (fold with_digit 0 (take l.byte-index l.text)) (2 ^ 64 - 1))

use Rattle.std.proofs.Common.{◌≡◌, take}
use Rattle.std.specs.List.{list_all}
use Rattle.cq_copy.specs.Texts.{is_simple}
use Rattle.cq_copy.proofs.texts.is_simple.Given as goal

abbrev pub invariant-loop-byte : goal.invariant-loop-byte
invariant-loop-byte l = l.simple ≡ list_all is_simple (take l.byte-index l.line)

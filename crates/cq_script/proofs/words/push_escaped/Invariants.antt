use Rattle.std.proofs.Common.{◌≡◌, ◌++◌, drop}
use Rattle.std.specs.Prelude.{flat_map}
use Rattle.cq_script.specs.Texts.{escaped_byte}
use Rattle.cq_script.proofs.words.push_escaped.Given as goal

abbrev pub invariant-loop-byte : goal.invariant-loop-byte
invariant-loop-byte l = l.out.items ++ flat_map escaped_byte (drop l.byte-index l.bytes) ≡ l.fn.out.items ++ flat_map escaped_byte l.bytes

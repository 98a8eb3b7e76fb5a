use Rattle.std.proofs.Common.{◌≡◌, length, bytes_eq}
use Rattle.cq_parse_steps.proofs.words.are_same.Given as goal

abbrev pub invariant-bytes : goal.invariant-bytes
invariant-bytes l = bytes_eq l.left l.right ≡ bytes_eq l.a l.b

abbrev pub decreases-bytes : goal.decreases-bytes
decreases-bytes l = length l.left

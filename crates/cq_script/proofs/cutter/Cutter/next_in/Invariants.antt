use Rattle.std.proofs.Common.{◌≡◌, ◌≤◌, length}
use Rattle.cq_script.specs.Scripts.{cut}
use Rattle.cq_script.proofs.cutter.Cutter.next_in.Given as goal

abbrev pub invariant-bytes : goal.invariant-bytes
invariant-bytes l = record { same : cut l.fn.self l.bytes ≡ cut l.self l.left; within : length l.left ≤ length l.bytes }

abbrev pub decreases-bytes : goal.decreases-bytes
decreases-bytes l = length l.left

use Rattle.std.proofs.Common.{◌≡◌, take}
use Rattle.cq_engine.specs.Keys.{key_number}
use Rattle.cq_engine.proofs.key.key_number.Given as goal

abbrev pub invariant-loop-place : goal.invariant-loop-place
invariant-loop-place l = l.number ≡ key_number (take l.place-index l.key) l.row

use Rattle.std.proofs.Common.{◌≡◌, drop}
use Rattle.cq_engine.specs.Keys.{key_order}
use Rattle.cq_engine.proofs.key.compare.Given as goal

abbrev pub invariant-loop-place : goal.invariant-loop-place
invariant-loop-place l = key_order (drop l.place-index l.key) l.x l.y ≡ key_order l.key l.x l.y

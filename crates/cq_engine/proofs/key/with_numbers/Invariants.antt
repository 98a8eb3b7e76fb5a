use Rattle.std.proofs.Common.{◌≡◌, ◌++◌, drop, map}
use Rattle.cq_engine.specs.Keys.{numbered}
use Rattle.cq_engine.proofs.key.with_numbers.Given as goal

abbrev pub invariant-loop-row : goal.invariant-loop-row
invariant-loop-row l = (l.all ++ map (numbered l.key) (drop l.row-index l.rows)) ≡ map (numbered l.key) l.rows

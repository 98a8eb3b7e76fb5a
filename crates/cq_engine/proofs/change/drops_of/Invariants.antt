use Rattle.std.proofs.Common.{◌≡◌, take}
use Rattle.cq_meaning.specs.Effects.{drops}
use Rattle.cq_engine.proofs.change.drops_of.Given as goal

abbrev pub invariant-loop-pair : goal.invariant-loop-pair
invariant-loop-pair l = l.changes ≡ drops l.filter (take l.pair-index l.pairs)

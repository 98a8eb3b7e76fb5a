use Rattle.std.proofs.Common.{◌≡◌, take, drop}
use Rattle.cq_meaning.specs.Effects.{puts, updates, fit_kinds}
use Rattle.cq_engine.proofs.change.puts_of.Given as goal

abbrev pub invariant-loop-pair : goal.invariant-loop-pair
invariant-loop-pair l = record {
  made : l.changes ≡ puts l.filter l.sets (take l.pair-index l.pairs);
  fit : fit_kinds l.kinds (updates l.filter l.sets (drop l.pair-index l.pairs)) ≡ fit_kinds l.kinds (updates l.filter l.sets l.pairs);
}

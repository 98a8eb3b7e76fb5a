use Rattle.std.proofs.Common.{◌≡◌, take}
use Rattle.cq_explain.specs.Subplans.{tables_in}
use Rattle.cq_explain.proofs.lines.tables_of.Given as goal

abbrev pub invariant-loop-touch : goal.invariant-loop-touch
invariant-loop-touch l = l.tables ≡ tables_in (take l.touch-index l.touches)

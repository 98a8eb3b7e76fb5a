use Rattle.std.proofs.Common.{◌≡◌, take, length}
use Rattle.cq_meaning.specs.Effects.{updated}
use Rattle.cq_engine.proofs.update.update_row.Given as goal

abbrev pub invariant-loop-s : goal.invariant-loop-s
invariant-loop-s l = record { is : l.new ≡ updated (take l.s-index l.sets) l.row; sized : length l.new ≡ length l.row }

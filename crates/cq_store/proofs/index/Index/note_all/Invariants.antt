use Rattle.std.proofs.Common.{take}
use Rattle.cq_store.specs.Indexes.{Notes}
use Rattle.cq_store.proofs.index.Index.note_all.Given as goal

abbrev pub invariant-loop-change : goal.invariant-loop-change
invariant-loop-change l = Notes l.fn.self l.self (take l.change-index l.changes)

use Rattle.std.proofs.Common.{◌≡◌, None, drop}
use Rattle.cq_journal_text.proofs.StationLaws.{at, node_after}
use Rattle.cq_journal_text.proofs.station.node_of.Given as goal

abbrev pub invariant-loop-entry : goal.invariant-loop-entry
invariant-loop-entry l = node_after (at l.station.node l.station.target None) (drop l.entry-index l.entry-items) ≡ node_after (at l.fn.journal.opening l.fn.journal.opening None) l.fn.journal.entries.list

use Rattle.std.proofs.Common.{◌≡◌, take}
use Rattle.cq_change.specs.Logs.{changes_in}
use Rattle.cq_change.proofs.log.ChangeLog.changes_of.Given as goal

abbrev pub invariant-loop-entry : goal.invariant-loop-entry
invariant-loop-entry l = l.changes ≡ changes_in l.table (take l.entry-index l.entry-items)

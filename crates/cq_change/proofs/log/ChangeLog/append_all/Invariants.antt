use Rattle.std.proofs.Common.{◌≡◌, ◌+◌, ◌++◌, length}
use Rattle.std.specs.Vec.Iter.{into_iter_items}
use Rattle.cq_change.specs.Logs.{logged}
use Rattle.cq_change.proofs.log.ChangeLog.append_all.Given as goal

abbrev pub invariant-loop-change : goal.invariant-loop-change
invariant-loop-change l = record {
  list : l.self.list ++ logged l.table (into_iter_items l.change-iterator) ≡ l.fn.self.list ++ logged l.table l.fn.changes;
  room : l.self.room + length l.fn.changes ≡ l.fn.self.room + length (into_iter_items l.change-iterator);
}

use Rattle.std.proofs.Common.{◌≡◌}
use Rattle.cq_group.specs.Calls.{IsThrough}
use Rattle.cq_group.specs.Incoming.{IsSettledTable}
use Rattle.cq_group.proofs.incoming.Incoming.settle.Given as goal

abbrev pub invariant-loop-place : goal.invariant-loop-place
invariant-loop-place g l = record {
  through : IsThrough (IsSettledTable g.S.Store.state) l.place l.fn.self.tables.items l.self.tables.items;
  due : l.self.due ≡ l.fn.self.due;
  room : l.self.room ≡ l.fn.self.room;
}

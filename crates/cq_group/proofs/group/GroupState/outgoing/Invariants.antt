use Rattle.std.proofs.Common.{◌≡◌, take}
use Rattle.std.specs.List.{AllZip}
use Rattle.cq_group.specs.Groups.{entries_of, outlines}
use Rattle.cq_group.specs.Calls.{Rests, Lifted, IsSameBut}
use Rattle.cq_group.specs.Incoming.{IsLeaving, rows_in}
use Rattle.cq_group.proofs.group.GroupState.outgoing.Given as goal

abbrev pub invariant-loop-place : goal.invariant-loop-place
invariant-loop-place g l = record {
  leaves : AllZip (IsLeaving (entries_of l.fn.self)) (take l.place (outlines l.fn.self)) l.tables.items;
  due : l.due ≡ rows_in (entries_of l.fn.self) (take l.place (outlines l.fn.self));
  journal : l.self.journal ≡ l.fn.self.journal;
  moving : l.self.moving ≡ l.fn.self.moving;
  same : IsSameBut (Lifted g.S.Store.state Rests) l.fn.self l.self;
}

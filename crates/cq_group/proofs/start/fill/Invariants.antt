use Rattle.std.proofs.Common.{◌≤◌, length, vec_capacity}
use Rattle.cq_group.proofs.StartLaws.{IsFilling}
use Rattle.cq_group.proofs.start.fill.Given as goal

abbrev pub invariant-loop-store : goal.invariant-loop-store
invariant-loop-store g l = record {
  filling : IsFilling g.S.Store.state l.fn.stores.items l.initial.tables.items l.stores.items l.tables.items;
  room : length l.fn.stores.items ≤ vec_capacity l.stores;
}

abbrev pub decreases-loop-store : goal.decreases-loop-store
decreases-loop-store g l = length l.stores.items

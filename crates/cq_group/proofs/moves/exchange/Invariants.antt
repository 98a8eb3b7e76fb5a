use Rattle.std.proofs.Common.{◌≡◌, ◌++◌, length, take, drop}
use Rattle.cq_group.specs.Incoming.{with_stores, without_stores}
use Rattle.cq_group.proofs.moves.exchange.Given as goal

abbrev pub invariant-loop-place : goal.invariant-loop-place
invariant-loop-place g l = record {
  tables : l.tables.items ≡ with_stores (take l.place l.initial.tables.items) (take l.place l.initial.arrived.items) ++ drop l.place l.initial.tables.items;
  arrived : l.arrived.items ≡ without_stores (take l.place l.initial.tables.items) (take l.place l.initial.arrived.items) ++ drop l.place l.initial.arrived.items;
  long : length l.tables.items ≡ length l.initial.tables.items;
  other : length l.arrived.items ≡ length l.initial.arrived.items;
}

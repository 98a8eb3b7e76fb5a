use Rattle.std.proofs.Common.{◌≡◌, ◌+◌, ◌-◌, ◌≤◌, vec_len, vec_capacity}
use Rattle.cq_store.proofs.TakingLaws.{Parts}
use Rattle.cq_store.proofs.worker.move_spares.Given as goal

abbrev pub invariant-loop : goal.invariant-loop
invariant-loop g l = record {
  parts : Parts g.S.Store.state l.n l.initial.stores.items l.spare.items (l.n - l.counter) l.stores.items;
  room : vec_len l.spare + (l.n - l.counter) ≤ vec_capacity l.spare;
  within : l.counter ≤ l.n;
  same : vec_capacity l.stores ≡ vec_capacity l.initial.stores;
}

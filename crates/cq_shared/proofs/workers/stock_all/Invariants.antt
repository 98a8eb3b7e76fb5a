use Rattle.std.proofs.Common.{◌≡◌, ◌+◌, ◌≤◌, ◌++◌, List, length, vec_len, vec_capacity}
use Rattle.std.specs.List.{AllZip}
use Rattle.std.specs.Vec.Iter.{into_iter_items, into_iter_len}
use Rattle.cq_store.specs.declared.worker.Worker.{Worker}
use Rattle.cq_shared.specs.Blocks.{IsStock}
use Rattle.cq_shared.proofs.workers.stock_all.Given as goal

abbrev pub invariant-loop-worker : goal.invariant-loop-worker
invariant-loop-worker g l = record {
  left : into_iter_len l.worker-iterator ≡ length (into_iter_items l.worker-iterator);
  shared : (front : List (Worker g.row.S.Denot)) × (into_iter_items l.initial.worker-iterator ≡ front ++ into_iter_items l.worker-iterator) × AllZip (IsStock l.rules) front l.room.items;
  room : vec_len l.room + length (into_iter_items l.worker-iterator) ≤ vec_capacity l.room;
}

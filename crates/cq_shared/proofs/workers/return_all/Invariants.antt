use Rattle.std.proofs.Common.{◌≡◌, ◌+◌, ◌≤◌, ◌++◌, List, map, length, vec_len, vec_capacity}
use Rattle.std.specs.Vec.Iter.{into_iter_items, into_iter_len}
use Rattle.cq_shared.specs.declared.worker.Stock.{Stock}
use Rattle.cq_shared.specs.Blocks.{worker_in}
use Rattle.cq_shared.proofs.workers.return_all.Given as goal

abbrev pub invariant-loop-stock : goal.invariant-loop-stock
invariant-loop-stock g l = record {
  left : into_iter_len l.stock-iterator ≡ length (into_iter_items l.stock-iterator);
  parted : (front : List (Stock g.row.S.Denot g.row.C.Denot)) × (into_iter_items l.initial.stock-iterator ≡ front ++ into_iter_items l.stock-iterator) × (l.room.items ≡ map worker_in front);
  room : vec_len l.room + length (into_iter_items l.stock-iterator) ≤ vec_capacity l.room;
}

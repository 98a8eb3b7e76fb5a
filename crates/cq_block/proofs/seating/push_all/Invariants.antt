use Rattle.std.proofs.Common.{◌≡◌, ◌≤◌, ◌+◌, ◌++◌, length, vec_len, vec_capacity}
use Rattle.std.specs.Vec.Iter.{into_iter_items, into_iter_len}
use Rattle.cq_block.proofs.seating.push_all.Given as goal

abbrev pub invariant-loop-item : goal.invariant-loop-item
invariant-loop-item g l = record {
  left : into_iter_len l.item-iterator ≡ length (into_iter_items l.item-iterator);
  items : l.list.items ++ into_iter_items l.item-iterator ≡ l.initial.list.items ++ into_iter_items l.initial.item-iterator;
  room : vec_len l.list + length (into_iter_items l.item-iterator) ≤ vec_capacity l.list;
  capacity : vec_capacity l.list ≡ vec_capacity l.initial.list;
}

use Rattle.std.proofs.Common.{◌≡◌, ◌+◌, ◌≤◌, ◌++◌, List, map, length, vec_len, vec_capacity}
use Rattle.std.specs.Vec.Iter.{into_iter_items, into_iter_len}
use Rattle.cq_shared.specs.declared.content.Shard.{Shard}
use Rattle.cq_shared.specs.Blocks.{group_in}
use Rattle.cq_shared.proofs.block.part_all.Given as goal

abbrev pub invariant-loop-shard : goal.invariant-loop-shard
invariant-loop-shard g l = record {
  left : into_iter_len l.shard-iterator ≡ length (into_iter_items l.shard-iterator);
  parted : (front : List (Shard g.row.S.Denot g.row.C.Denot)) × (into_iter_items l.initial.shard-iterator ≡ front ++ into_iter_items l.shard-iterator) × (l.room.items ≡ map group_in front);
  room : vec_len l.room + length (into_iter_items l.shard-iterator) ≤ vec_capacity l.room;
}

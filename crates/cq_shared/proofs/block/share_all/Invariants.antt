use Rattle.std.proofs.Common.{◌≡◌, ◌+◌, ◌≤◌, ◌++◌, List, length, vec_len, vec_capacity}
use Rattle.std.specs.List.{AllZip}
use Rattle.std.specs.Vec.Iter.{into_iter_items, into_iter_len}
use Rattle.cq_group.specs.declared.group.GroupState.{GroupState}
use Rattle.cq_shared.specs.Blocks.{IsShared}
use Rattle.cq_shared.proofs.block.share_all.Given as goal

abbrev pub invariant-loop-group : goal.invariant-loop-group
invariant-loop-group g l = record {
  left : into_iter_len l.group-iterator ≡ length (into_iter_items l.group-iterator);
  shared : (front : List (GroupState g.row.S.Denot)) × (into_iter_items l.initial.group-iterator ≡ front ++ into_iter_items l.group-iterator) × AllZip (IsShared l.rules) front l.room.items;
  room : vec_len l.room + length (into_iter_items l.group-iterator) ≤ vec_capacity l.room;
}

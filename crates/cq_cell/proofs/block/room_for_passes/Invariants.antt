use Rattle.std.proofs.Common.{◌≡◌, take, vec_len, vec_capacity}
use Rattle.cq_cell.specs.Many.{HaveRoom}
use Rattle.cq_cell.proofs.block.room_for_passes.Given as goal

abbrev pub invariant-loop-number : goal.invariant-loop-number
invariant-loop-number g l = record {
  rows : HaveRoom (take l._number-index l.numbers.items) l.many l.rows.items;
  count : vec_len l.rows ≡ l._number-index;
  room : vec_capacity l.rows ≡ vec_capacity l.initial.rows;
}

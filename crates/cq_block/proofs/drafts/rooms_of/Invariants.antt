use Rattle.std.proofs.Common.{◌≡◌, ◌+◌, length}
use Rattle.cq_block.specs.Drafts.{HaveRooms}
use Rattle.cq_block.proofs.drafts.rooms_of.Given as goal

abbrev pub invariant-loop-session : goal.invariant-loop-session
invariant-loop-session l = record {
  count : l.session ≡ length l.rooms.items + 1;
  rooms : HaveRooms l.block l.rooms.items;
}

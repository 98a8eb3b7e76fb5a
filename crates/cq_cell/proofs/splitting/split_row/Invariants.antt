use Rattle.std.proofs.Common.{◌≡◌, take, drop, length, vec_len, vec_capacity}
use Rattle.cq_cell.specs.Lists.{AllThree}
use Rattle.cq_cell.specs.Rows.{Gives}
use Rattle.cq_cell.proofs.splitting.split_row.Given as goal

abbrev pub invariant-loop-at : goal.invariant-loop-at
invariant-loop-at g l = record {
  long : length l.roots.items ≡ length l.cells.items;
  given : AllThree (Gives l.number) (take l.at l.initial.roots.items) (take l.at l.roots.items) l.row.items;
  rest : drop l.at l.roots.items ≡ drop l.at l.initial.roots.items;
  count : vec_len l.row ≡ l.at;
  room : vec_capacity l.row ≡ vec_capacity l.initial.row;
}

use Rattle.std.proofs.Common.{◌≡◌, map, take, drop, length, vec_len, vec_capacity}
use Rattle.std.specs.List.{AllZip}
use Rattle.std.specs.Vec.Iter.{into_iter_items, into_iter_len}
use Rattle.cq_cell.specs.Many.{IsOpened, AllFirst, HaveRoom}
use Rattle.cq_cell.proofs.splitting.split_rows.Given as goal

abbrev pub invariant-loop-number : goal.invariant-loop-number
invariant-loop-number g l = record {
  rows : into_iter_len l.rows ≡ length (into_iter_items l.rows);
  opened : AllZip (IsOpened l.numbers.items (drop l.number-index l.numbers.items)) (map (λ c. (c.shared.table_id, c.shared.key)) l.cells.items) l.roots.items;
  left : HaveRoom (drop l.number-index l.numbers.items) (vec_len l.cells) (into_iter_items l.rows);
  first : AllFirst l.numbers.items (map (λ c. (c.shared.table_id, c.shared.key)) l.cells.items) (take l.number-index l.numbers.items) (map (λ r. r.items) l.done.items);
  count : vec_len l.done ≡ l.number-index;
  room : vec_capacity l.done ≡ vec_capacity l.initial.done;
}

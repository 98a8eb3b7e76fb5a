use Rattle.std.proofs.Common.{◌≡◌, ◌+◌, ◌≤◌, ◌++◌, List, ℕ, map, length, vec_len, vec_capacity}
use Rattle.std.specs.List.{AllZip}
use Rattle.std.specs.Vec.Iter.{into_iter_items, into_iter_len}
use Rattle.cq_cell.specs.declared.passes.Pass.{Pass}
use Rattle.cq_cell.specs.Lists.{AllThree}
use Rattle.cq_cell.specs.Rows.{IsJoined, IsClosed}
use Rattle.cq_cell.proofs.closing.close_each.Given as goal

abbrev pub invariant-loop-cell : goal.invariant-loop-cell
invariant-loop-cell g l = record {
  cells : into_iter_len l.cell-iterator ≡ length (into_iter_items l.cell-iterator);
  roots : into_iter_len l.roots ≡ length (into_iter_items l.roots);
  joined : (numbers : List ℕ) × AllZip (IsJoined numbers numbers) (map (λ c. (c.shared.table_id, c.shared.key)) (into_iter_items l.cell-iterator)) (into_iter_items l.roots);
  room : vec_len l.values + length (into_iter_items l.cell-iterator) ≤ vec_capacity l.values;
  closed : (cells : List _) × (roots : List (Pass g.row.X.Denot g.row.N.Denot)) × (into_iter_items l.initial.cell-iterator ≡ cells ++ into_iter_items l.cell-iterator) × (into_iter_items l.initial.roots ≡ roots ++ into_iter_items l.roots)
      × AllThree (IsClosed g.C.Content.who g.C.Content.stands) (map (λ c. (c.shared.table_id, c.shared.key)) cells) roots l.values.items;
}

use Rattle.std.proofs.Common.{◌≡◌, ◌++◌, List, ℕ, map, length}
use Rattle.std.specs.List.{AllZip, AllByRecursion}
use Rattle.std.specs.Vec.Iter.{into_iter_items, into_iter_len}
use Rattle.cq_cell.specs.declared.passes.Pass.{Pass}
use Rattle.cq_cell.specs.Many.{AllBack}
use Rattle.cq_cell.specs.Passes.{IsOver}
use Rattle.cq_cell.specs.Rows.{IsJoined}
use Rattle.cq_cell.proofs.Roots.{Ends}
use Rattle.cq_cell.proofs.closing.close_all.Given as goal

abbrev pub invariant-loop-row : goal.invariant-loop-row
invariant-loop-row g l = record {
  rows : into_iter_len l.row-iterator ≡ length (into_iter_items l.row-iterator);
  joined : (numbers : List ℕ) × (back : List ℕ) × (left : List ℕ) × (numbers ≡ back ++ left) × AllZip (IsJoined numbers back) (map (λ c. (c.shared.table_id, c.shared.key)) l.cells.items) l.roots.items
      × AllBack (map (λ c. (c.shared.table_id, c.shared.key)) l.cells.items) left (map (λ r. r.items) (into_iter_items l.row-iterator));
  told : (front : List (List (Pass g.row.X.Denot g.row.N.Denot))) × (map (λ r. r.items) (into_iter_items l.initial.row-iterator) ≡ front ++ map (λ r. r.items) (into_iter_items l.row-iterator))
      × ((histories : List (List g.row.N.Denot)) → AllZip (Ends g.C.Content.who) histories l.roots.items → AllByRecursion (λ (row : List (Pass g.row.X.Denot g.row.N.Denot)). AllZip (IsOver g.C.Content.who) histories row) front);
}

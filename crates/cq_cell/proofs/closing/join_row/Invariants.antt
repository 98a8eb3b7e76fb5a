use Rattle.std.proofs.Common.{◌≡◌, ◌++◌, List, take, drop, length}
use Rattle.std.specs.Vec.Iter.{into_iter_items, into_iter_len}
use Rattle.cq_cell.specs.declared.passes.Pass.{Pass}
use Rattle.cq_cell.specs.Lists.{AllThree}
use Rattle.cq_cell.specs.Rows.{Takes}
use Rattle.cq_cell.proofs.closing.join_row.Given as goal

abbrev pub invariant-loop-at : goal.invariant-loop-at
invariant-loop-at g l = record {
  long : length l.roots.items ≡ length l.cells.items;
  left : into_iter_len l.passes ≡ length (into_iter_items l.passes);
  rest : drop l.at l.roots.items ≡ drop l.at l.initial.roots.items;
  taken : (front : List (Pass g.row.X.Denot g.row.N.Denot)) × (into_iter_items l.initial.passes ≡ front ++ into_iter_items l.passes) × (length front ≡ l.at) × AllThree Takes (take l.at l.initial.roots.items) (take l.at l.roots.items) front;
}

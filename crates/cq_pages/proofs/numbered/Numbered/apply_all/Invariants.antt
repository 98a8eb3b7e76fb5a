use Rattle.std.proofs.Common.{◌≡◌}
use Rattle.std.specs.Vec.Iter.{into_iter_items}
use Rattle.cq_value.specs.Changes.{Fit, applied}
use Rattle.cq_pages.proofs.numbered.Numbered.apply_all.Given as goal

abbrev pub invariant-loop-change : goal.invariant-loop-change
invariant-loop-change l = record {
  fit : Fit l.self (into_iter_items l.change-iterator);
  gives : applied l.self (into_iter_items l.change-iterator) ≡ applied l.fn.self l.fn.changes;
}

use Rattle.std.proofs.Common.{◌≡◌, false, take}
use Rattle.cq_store.specs.Stores.{meets_any}
use Rattle.cq_store.proofs.mem.MemStore.meets_rows.Given as goal

abbrev pub invariant-loop-row : goal.invariant-loop-row
invariant-loop-row l = record {
  none : meets_any l.fn.self.rows.pairs l.key (take l.row-index l.rows) ≡ false;
  same : l.self ≡ l.fn.self;
}

use Rattle.std.proofs.Common.{◌≡◌, length, take}
use Rattle.cq_store.specs.Indexes.{GoesOn, AllBelow}
use Rattle.cq_store.proofs.index.Index.add_page.Given as goal

abbrev pub invariant-loop-id : goal.invariant-loop-id
invariant-loop-id l = record {
  holds : GoesOn l.fn.self l.self l.page;
  columns : l.self.columns ≡ l.fn.self.columns;
  some : length l.self.buckets ≡ length l.fn.self.buckets;
  below : AllBelow l.fn.self l.self l.page (take l.id-index l.page);
}

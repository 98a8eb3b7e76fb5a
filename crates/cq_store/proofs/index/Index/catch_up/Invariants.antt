use Rattle.std.proofs.Common.{◌≡◌, ◌<◌, ◌++◌, List, length, take}
use Rattle.std.specs.List.{AllByRecursion}
use Rattle.cq_value.specs.Tables.{Pair}
use Rattle.cq_pages.specs.Pages.{pairs_of}
use Rattle.cq_store.specs.Indexes.{Holds}
use Rattle.cq_store.proofs.index.Index.catch_up.Given as goal

abbrev pub invariant-loop-page : goal.invariant-loop-page
invariant-loop-page l = record {
  holds : Holds l.self l.rows.pairs;
  columns : l.self.columns ≡ l.fn.self.columns;
  some : length l.self.buckets ≡ length l.fn.self.buckets;
  below : (before : List Pair) × (l.rows.pairs ≡ before ++ pairs_of l.page-items) × AllByRecursion (λ (p : Pair). p.0 < l.self.upto) (before ++ pairs_of (take l.page-index l.page-items));
}

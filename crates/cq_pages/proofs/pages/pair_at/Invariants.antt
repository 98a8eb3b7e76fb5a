use Rattle.std.proofs.Common.{◌≡◌, ◌+◌, length, drop, get_or}
use Rattle.cq_value.specs.Tables.{Pair}
use Rattle.cq_pages.specs.Pages.{pairs_of}
use Rattle.cq_pages.proofs.pages.pair_at.Given as goal

abbrev pub invariant-loop-page : goal.invariant-loop-page
invariant-loop-page l = record {
  same : (d : Pair) → get_or (pairs_of l.pages) l.place d ≡ get_or (pairs_of (drop l.page-index l.pages)) l.left d;
  long : length (pairs_of l.pages) + l.left ≡ l.place + length (pairs_of (drop l.page-index l.pages));
}

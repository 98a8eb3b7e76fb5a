use Rattle.std.proofs.Common.{◌≡◌, ◌++◌, drop}
use Rattle.std.specs.Prelude.{filter}
use Rattle.cq_value.specs.Tables.{Pair}
use Rattle.cq_pages.specs.Pages.{pairs_of}
use Rattle.cq_columnar.proofs.search.find.Given as goal

abbrev pub invariant-loop-chunk : goal.invariant-loop-chunk
invariant-loop-chunk g l = l.found ++ filter (λ (p : Pair). g.S.Search.wants l.search p.1) (pairs_of (drop l.chunk-index l.chunks)) ≡ filter (λ (p : Pair). g.S.Search.wants l.search p.1) (pairs_of l.chunks)

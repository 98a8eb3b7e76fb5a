use Rattle.std.proofs.Common.{◌+◌, ◌∙◌, ◌++◌, Bool, drop, ap}
use Rattle.std.specs.Prelude.{filter}
use Rattle.cq_value.specs.Tables.{Pair}
use Rattle.cq_pages.specs.Pages.{pairs_of}
use Rattle.cq_columnar.proofs.SearchLaws.{found_rest}
use Rattle.cq_columnar.proofs.search.find.Goals as goal

pub loop-chunk-preserved : goal.loop-chunk-preserved
loop-chunk-preserved g c =
    let q : Pair → Bool = λ p. g.S.Search.wants c.args.search.now p.1 in
    ap (λ ps. ps ++ filter q (pairs_of (drop (c.loop-chunk.chunk-index + 1) c.args.chunks.now))) c.in_ok-look.ensures
    ∙ found_rest q c.args.chunks.now c.loop-chunk.chunk-index c.chunk-item.result c.chunk-item.result c.loop-chunk.found c.loop-chunk-test.true c.chunk-item.is
    ∙ c.loop-chunk.invariant

use Rattle.std.proofs.Common.{◌≡◌, ◌+◌, refl, ◌∙◌, arith}
use Rattle.cq_combine.proofs.StepLaws.{combining_more}
use Rattle.cq_combine.proofs.queries.all_combining.Goals as goal

pub loop-agg-preserved : goal.loop-agg-preserved
loop-agg-preserved c =
    let e = combining_more c.args.at c.args.aggs.now c.loop-agg.agg-index c.agg-item.result (omega arith) in
    let n : c.in_ok-place.place ≡ c.args.at + c.loop-agg.agg-index = c.in_ok-place.ensures ∙ c.loop-agg.invariant.1 in
    (rw (c.in_ok-put.ensures.ok, c.combining.ensures, e, ← c.agg-item.is, c.loop-agg.invariant.0, n) refl, rw (c.from-next-in-loop-agg.ensures, n) (omega arith))

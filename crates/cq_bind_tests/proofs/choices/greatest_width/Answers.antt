use Rattle.std.proofs.Common.{arith}
use Rattle.cq_bind_tests.proofs.Results.{greatest_more}
use Rattle.cq_bind_tests.proofs.choices.greatest_width.Goals as goal

pub loop-item-preserved : goal.loop-item-preserved
loop-item-preserved c =
    let e = greatest_more c.args.items.now c.loop-item.item-index c.item-item.result (omega arith) in
    rw (e, ← c.item-item.is) (omega arith)

use Rattle.std.proofs.Common.{arith}
use Rattle.cq_bind_tests.proofs.Results.{greatest_more_in}
use Rattle.cq_bind_tests.proofs.choices.greatest_in.Goals as goal

pub loop-arm-preserved : goal.loop-arm-preserved
loop-arm-preserved c =
    let e = greatest_more_in c.args.arms.now c.loop-arm.arm-index c.arm-item.result (omega arith) in
    rw (e, ← c.arm-item.is) (omega arith)

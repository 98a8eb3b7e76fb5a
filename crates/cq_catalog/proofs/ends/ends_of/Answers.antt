use Rattle.std.proofs.Common.{arith}
use Rattle.cq_catalog.proofs.RangeLaws.{from_push}
use Rattle.cq_catalog.proofs.ends.ends_of.Goals as goal

pub loop-index-preserved : goal.loop-index-preserved
loop-index-preserved c = grind (arith, from_push c.args.count 0 c.loop-index.index)

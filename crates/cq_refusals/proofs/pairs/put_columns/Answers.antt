use Rattle.std.proofs.Common.{rules, arith, ◌++◌}
use Rattle.cq_refusals.proofs.NumberLaws.{one_put, pairs_from}
use Rattle.cq_refusals.proofs.pairs.put_columns.Goals as goal

pub loop-other-preserved : goal.loop-other-preserved
loop-other-preserved c =
    one_put c.args.column c.loop-other.other c.args.end c.loop-other.pairs c.put.new.self (c.args.pairs.now ++ pairs_from c.args.column c.args.start c.args.end) (omega arith) (search rules) c.loop-other.invariant

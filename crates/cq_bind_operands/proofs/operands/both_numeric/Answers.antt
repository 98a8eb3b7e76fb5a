use Rattle.cq_bind_operands.proofs.Truths.{both_numbers_is}
use Rattle.cq_bind_operands.proofs.operands.both_numeric.Goals as goal

pub returns : goal.returns
returns c = both_numbers_is c.args.a c.args.b c.args.at _ _ _ c.numeric-first.ensures c.numeric-second.ensures c.both.ensures

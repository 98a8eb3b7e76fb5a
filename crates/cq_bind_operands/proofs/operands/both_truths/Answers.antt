use Rattle.cq_bind_operands.proofs.Truths.{both_truths_is}
use Rattle.cq_bind_operands.proofs.operands.both_truths.Goals as goal

pub returns : goal.returns
returns c = both_truths_is c.args.a c.args.b c.args.at _ _ _ c.truth-first.ensures c.truth-second.ensures c.both.ensures

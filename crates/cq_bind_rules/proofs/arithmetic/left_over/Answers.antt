use Rattle.cq_bind_rules.proofs.Divisions.{left_over_is}
use Rattle.cq_bind_rules.proofs.arithmetic.left_over.Goals as goal

pub returns : goal.returns
returns c = left_over_is _ c.args.a c.args.b c.args.divisor c.args.at _ c.are_numbers-fit.ensures c.remainder_if.ensures

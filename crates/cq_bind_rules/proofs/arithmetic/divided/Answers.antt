use Rattle.cq_bind_rules.proofs.Divisions.{divided_is}
use Rattle.cq_bind_rules.proofs.arithmetic.divided.Goals as goal

pub returns : goal.returns
returns c = divided_is _ c.args.a c.args.b c.args.divisor c.args.at _ c.are_numbers-fit.ensures c.quotient_if.ensures

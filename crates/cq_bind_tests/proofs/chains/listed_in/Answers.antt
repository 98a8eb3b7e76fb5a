use Rattle.cq_bind_tests.proofs.ChainLaws.{denied_is}
use Rattle.cq_bind_tests.proofs.chains.listed_in.Goals as goal

pub returns : goal.returns
returns c = denied_is c.args.negate _ _ _ c.in_ok-test.ensures c.in_ok-negated_if.ensures

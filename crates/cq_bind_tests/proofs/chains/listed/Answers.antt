use Rattle.std.proofs.Common.{sym, ◌∙◌}
use Rattle.cq_bind_tests.proofs.ChainLaws.{listed_is}
use Rattle.cq_bind_tests.proofs.chains.listed.Goals as goal

pub returns : goal.returns
returns c = listed_is c.args.negate c.args.x _ c.args.items c.args.at _ (rw c.as_slice.ensures at (sym c.do_agree.ensures ∙ c.if-not-do_agree.false)) c.expr-x.ensures c.listed_in-bound.ensures

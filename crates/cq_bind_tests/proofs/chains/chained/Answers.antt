use Rattle.cq_bind_tests.proofs.ChainLaws.{none_left, all_left}
use Rattle.std.proofs.Common.{sym, ◌∙◌}
use Rattle.cq_bind_tests.proofs.chains.chained.Goals as goal

pub returns-then-count-eq0 : goal.returns-then-count-eq0
returns-then-count-eq0 c = none_left c.args.any c.args.parts (sym c.len-count.ensures ∙ c.if-count-eq0.true)

pub returns : goal.returns
returns c = all_left c.args.any c.args.parts _ _ c.len-count.ensures c.joined_last.ensures.value

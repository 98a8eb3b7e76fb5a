use Rattle.std.proofs.Common.{true, map, ◌∙◌}
use Rattle.cq_bind_tests.specs.Chains.{equality}
use Rattle.cq_bind_tests.proofs.ChainLaws.{only_conditions}
use Rattle.cq_bind_tests.proofs.chains.any_of.Goals as goal

pub returns : goal.returns
returns c = c.cond.ensures ∙ only_conditions true (map (equality c.args.x.now) c.args.items) _ _ _ c.in_ok-parts.ensures c.chained.ensures c.in_ok-b.ensures

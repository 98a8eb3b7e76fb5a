use Rattle.std.proofs.Common.{subst, sym}
use Rattle.cq_bind_expressions.proofs.Productions.{or_by, and_by, not_by, is_by, compare_by, tested_by}
use Rattle.cq_bind_expressions.proofs.nodes.node.Goals as goal

pub returns-in-Or : goal.returns-in-Or
returns-in-Or g c = or_by _ _ _ _ _ _ _ _ c.in-Or.is c.get.ensures c.chain.ensures

pub returns-in-And : goal.returns-in-And
returns-in-And g c = and_by _ _ _ _ _ _ _ _ c.in-And.is c.get-in-And.ensures c.chain-in-And.ensures

pub returns-in-Not : goal.returns-in-Not
returns-in-Not g c = not_by _ _ _ _ _ _ _ _ c.in-Not.is c.get-in-Not.ensures c.not.ensures

pub returns-in-Is : goal.returns-in-Is
returns-in-Is g c = is_by _ _ _ _ _ _ _ _ c.in-Is.is c.get-in-Is.ensures c.null_tests.ensures

pub returns-in-Compare : goal.returns-in-Compare
returns-in-Compare g c = compare_by _ _ _ _ _ _ _ _ _ _ _ c.in-Compare.is c.get-in-Compare.ensures c.get-in-Compare-2.ensures c.compare.ensures

pub returns-in-Tested : goal.returns-in-Tested
returns-in-Tested g c = tested_by _ _ _ _ _ _ _ _ _ _ c.in-Tested.is c.get-in-Tested.ensures c.tested.ensures

pub chain-requires-clause-rest : goal.chain-requires-clause-rest
chain-requires-clause-rest g c = (c.requires.or _ _ c.in-Or.is).1

pub chain-requires-in-And-clause-rest : goal.chain-requires-in-And-clause-rest
chain-requires-in-And-clause-rest g c = (c.requires.and _ _ c.in-And.is).1

pub compare-requires-clause-left : goal.compare-requires-clause-left
compare-requires-clause-left g c = subst (g.N.Nested.may_read c.args.nested.now) (sym c.get-in-Compare.ensures) (c.requires.compare _ _ _ _ c.in-Compare.is).0

pub compare-requires-clause-right : goal.compare-requires-clause-right
compare-requires-clause-right g c = subst (g.N.Nested.may_read c.args.nested.now) (sym c.get-in-Compare-2.ensures) (c.requires.compare _ _ _ _ c.in-Compare.is).1

pub tested-requires-clause-operand : goal.tested-requires-clause-operand
tested-requires-clause-operand g c = subst (g.N.Nested.may_read c.args.nested.now) (sym c.get-in-Tested.ensures) (c.requires.tested _ _ _ _ c.in-Tested.is).0

pub tested-requires-clause-asked : goal.tested-requires-clause-asked
tested-requires-clause-asked g c = (c.requires.tested _ _ _ _ c.in-Tested.is).1

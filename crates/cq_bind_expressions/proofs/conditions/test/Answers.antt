use Rattle.std.proofs.Common.{subst, sym}
use Rattle.cq_bind_expressions.proofs.Productions.{test_Between_by}
use Rattle.cq_bind_expressions.proofs.conditions.test.Goals as goal

pub returns-in-Between : goal.returns-in-Between
returns-in-Between g c = test_Between_by _ _ _ _ _ _ _ _ _ _ _ _ c.in-Between.is c.get-in-Between.ensures c.get-in-Between-2.ensures c.between.ensures

pub between-requires-clause-low : goal.between-requires-clause-low
between-requires-clause-low g c = subst (g.N.Nested.may_read c.args.nested.now) (sym c.get-in-Between.ensures) (c.requires.between _ _ c.in-Between.is).0

pub between-requires-clause-high : goal.between-requires-clause-high
between-requires-clause-high g c = subst (g.N.Nested.may_read c.args.nested.now) (sym c.get-in-Between-2.ensures) (c.requires.between _ _ c.in-Between.is).1

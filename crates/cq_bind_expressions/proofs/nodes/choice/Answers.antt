use Rattle.cq_bind_expressions.proofs.Productions.{node_by, case_is, aggregate_by}
use Rattle.cq_bind_expressions.proofs.nodes.choice.Goals as goal

pub returns-in-Case : goal.returns-in-Case
returns-in-Case g c = node_by _ _ _ _ _ _ _ c.in-Case.is (case_is _ _ _) c.case.ensures

pub returns-in-Aggregate : goal.returns-in-Aggregate
returns-in-Aggregate g c = aggregate_by _ _ _ _ _ _ _ _ _ c.in-Aggregate.is c.get.ensures c.aggregate.ensures

pub case-requires-clause-arms : goal.case-requires-clause-arms
case-requires-clause-arms g c = (c.requires.case _ _ _ c.in-Case.is).0

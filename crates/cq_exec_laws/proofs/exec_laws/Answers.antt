use Rattle.cq_exec_laws.proofs.Bounds.{plans_are_bound}
use Rattle.cq_exec_laws.proofs.Ordering.{computing_yields}
use Rattle.cq_exec_laws.proofs.Nested.{nested_is_scoped, nested_is_outermost}
use Rattle.cq_exec_laws.proofs.WholeOrder.{plans_are_ordered}
use Rattle.cq_exec_laws.proofs.exec_laws.Goals as goal

pub returns-clause-computing : goal.returns-clause-computing
returns-clause-computing c = computing_yields

pub returns-clause-ordered : goal.returns-clause-ordered
returns-clause-ordered c = plans_are_ordered

pub returns-clause-scoped : goal.returns-clause-scoped
returns-clause-scoped c = nested_is_scoped

pub returns-clause-outermost : goal.returns-clause-outermost
returns-clause-outermost c = nested_is_outermost

pub returns-clause-bounds : goal.returns-clause-bounds
returns-clause-bounds c = plans_are_bound

use Rattle.std.proofs.Common.{rules}
use Rattle.cq_relations.proofs.FromNodes.{outputs_is}
use Rattle.cq_exec.proofs.SpreadNodes.{opened_sub, opened_cross, opened_inner, opened_left, relations_cross, relations_inner, relations_left}
use Rattle.cq_exec.proofs.spread.+opening.Goals as goal

pub returns-in_ok-take-in-Sub-clause-from : goal.returns-in_ok-take-in-Sub-clause-from
returns-in_ok-take-in-Sub-clause-from t c = rw (c.in-Sub.is, opened_sub, outputs_is) (search rules)

pub returns-in_ok-new-in-Cross-2-clause-from : goal.returns-in_ok-new-in-Cross-2-clause-from
returns-in_ok-new-in-Cross-2-clause-from t c = rw (c.in-Cross.is, opened_cross) (search rules)

pub returns-in_ok-new-in-Cross-2-clause-next : goal.returns-in_ok-new-in-Cross-2-clause-next
returns-in_ok-new-in-Cross-2-clause-next t c = rw (c.in-Cross.is, relations_cross) (search rules)

pub returns-in_ok-copy-in-Inner-clause-from : goal.returns-in_ok-copy-in-Inner-clause-from
returns-in_ok-copy-in-Inner-clause-from t c = rw (c.in-Inner.is, opened_inner) (search rules)

pub returns-in_ok-copy-in-Inner-clause-next : goal.returns-in_ok-copy-in-Inner-clause-next
returns-in_ok-copy-in-Inner-clause-next t c = rw (c.in-Inner.is, relations_inner) (search rules)

pub returns-in_ok-copy-in-Left-clause-from : goal.returns-in_ok-copy-in-Left-clause-from
returns-in_ok-copy-in-Left-clause-from t c = rw (c.in-Left.is, opened_left) (search rules)

pub returns-in_ok-copy-in-Left-clause-next : goal.returns-in_ok-copy-in-Left-clause-next
returns-in_ok-copy-in-Left-clause-next t c = rw (c.in-Left.is, relations_left) (search rules)

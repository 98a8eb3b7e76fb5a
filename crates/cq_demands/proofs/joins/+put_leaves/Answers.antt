use Rattle.std.proofs.Common.{rules, append_assoc, arith}
use Rattle.cq_demands.proofs.Nodes.{leaves_cross, leaves_inner, leaves_left, columns_cross, columns_inner, columns_left}
use Rattle.cq_demands.proofs.joins.+put_leaves.Goals as goal

pub returns-in_ok-middle-in-Cross-clause-leaves : goal.returns-in_ok-middle-in-Cross-clause-leaves
returns-in_ok-middle-in-Cross-clause-leaves t c = rw (c.in-Cross.is, leaves_cross) (search (rules, append_assoc))

pub returns-in_ok-middle-in-Cross-clause-end : goal.returns-in_ok-middle-in-Cross-clause-end
returns-in_ok-middle-in-Cross-clause-end t c = rw (c.in-Cross.is, columns_cross) (search (rules, arith))

pub returns-in_ok-middle-in-Inner-clause-leaves : goal.returns-in_ok-middle-in-Inner-clause-leaves
returns-in_ok-middle-in-Inner-clause-leaves t c = rw (c.in-Inner.is, leaves_inner) (search (rules, append_assoc))

pub returns-in_ok-middle-in-Inner-clause-end : goal.returns-in_ok-middle-in-Inner-clause-end
returns-in_ok-middle-in-Inner-clause-end t c = rw (c.in-Inner.is, columns_inner) (search (rules, arith))

pub returns-in_ok-middle-in-Left-clause-leaves : goal.returns-in_ok-middle-in-Left-clause-leaves
returns-in_ok-middle-in-Left-clause-leaves t c = rw (c.in-Left.is, leaves_left) (search (rules, append_assoc))

pub returns-in_ok-middle-in-Left-clause-end : goal.returns-in_ok-middle-in-Left-clause-end
returns-in_ok-middle-in-Left-clause-end t c = rw (c.in-Left.is, columns_left) (search (rules, arith))

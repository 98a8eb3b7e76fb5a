use Rattle.std.proofs.Common.{rules, append_assoc}
use Rattle.cq_demands.proofs.Nodes.{ties_cross, ties_inner, ties_left}
use Rattle.cq_demands.proofs.joins.+put_on_ties.Goals as goal

pub returns-in_ok-put_on_ties-in-Cross : goal.returns-in_ok-put_on_ties-in-Cross
returns-in_ok-put_on_ties-in-Cross t c = rw (c.in-Cross.is, ties_cross) (search (rules, append_assoc))

pub returns-in_ok-put_on_ties-in-Inner-2 : goal.returns-in_ok-put_on_ties-in-Inner-2
returns-in_ok-put_on_ties-in-Inner-2 t c = rw (c.in-Inner.is, ties_inner) (search (rules, append_assoc))

pub returns-in-Left : goal.returns-in-Left
returns-in-Left t c = rw (c.in-Left.is, ties_left) (search rules)

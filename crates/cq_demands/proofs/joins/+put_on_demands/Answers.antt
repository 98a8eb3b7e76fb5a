use Rattle.std.proofs.Common.{rules, append_assoc}
use Rattle.cq_demands.proofs.Nodes.{demands_cross, demands_inner, demands_left}
use Rattle.cq_demands.proofs.joins.+put_on_demands.Goals as goal

pub returns-in_ok-put_on_demands-in-Cross : goal.returns-in_ok-put_on_demands-in-Cross
returns-in_ok-put_on_demands-in-Cross t c = rw (c.in-Cross.is, demands_cross) (search (rules, append_assoc))

pub returns-in_ok-put_on_demands-in-Inner-2 : goal.returns-in_ok-put_on_demands-in-Inner-2
returns-in_ok-put_on_demands-in-Inner-2 t c = rw (c.in-Inner.is, demands_inner) (search (rules, append_assoc))

pub returns-in-Left : goal.returns-in-Left
returns-in-Left t c = rw (c.in-Left.is, demands_left) (search rules)

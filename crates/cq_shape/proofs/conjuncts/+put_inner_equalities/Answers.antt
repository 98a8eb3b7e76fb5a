use Rattle.std.proofs.Common.{rules, append_assoc}
use Rattle.cq_shape.proofs.Nodes.{equalities_cross, equalities_inner, equalities_left}
use Rattle.cq_shape.proofs.conjuncts.+put_inner_equalities.Goals as goal

pub returns-in_ok-put_inner_equalities-in-Cross : goal.returns-in_ok-put_inner_equalities-in-Cross
returns-in_ok-put_inner_equalities-in-Cross t c = rw (c.in-Cross.is, equalities_cross) (search (rules, append_assoc))

pub returns-in_ok-put_inner_equalities-in-Inner-2 : goal.returns-in_ok-put_inner_equalities-in-Inner-2
returns-in_ok-put_inner_equalities-in-Inner-2 t c = rw (c.in-Inner.is, equalities_inner) (search (rules, append_assoc))

pub returns-in-Left : goal.returns-in-Left
returns-in-Left t c = rw (c.in-Left.is, equalities_left) (search rules)

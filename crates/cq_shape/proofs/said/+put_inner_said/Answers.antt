use Rattle.std.proofs.Common.{rules, append_assoc}
use Rattle.cq_shape.proofs.Nodes.{said_cross, said_inner, said_left}
use Rattle.cq_shape.proofs.said.+put_inner_said.Goals as goal

pub returns-in_ok-put_inner_said-in-Cross : goal.returns-in_ok-put_inner_said-in-Cross
returns-in_ok-put_inner_said-in-Cross t c = rw (c.in-Cross.is, said_cross) (search (rules, append_assoc))

pub returns-in_ok-put_inner_said-in-Inner-2 : goal.returns-in_ok-put_inner_said-in-Inner-2
returns-in_ok-put_inner_said-in-Inner-2 t c = rw (c.in-Inner.is, said_inner) (search (rules, append_assoc))

pub returns-in-Left : goal.returns-in-Left
returns-in-Left t c = rw (c.in-Left.is, said_left) (search rules)

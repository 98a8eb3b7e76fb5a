use Rattle.std.proofs.Common.{rules, append_assoc}
use Rattle.cq_shape.proofs.Nodes.{said_and}
use Rattle.cq_shape.proofs.said.+put_said.Goals as goal

pub returns-in_ok-put_said-in-And : goal.returns-in_ok-put_said-in-And
returns-in_ok-put_said-in-And t c = rw (c.in-And.is, said_and) (search (rules, append_assoc))

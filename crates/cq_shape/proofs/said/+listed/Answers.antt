use Rattle.std.proofs.Common.{rules}
use Rattle.cq_shape.proofs.Nodes.{in_list_or}
use Rattle.cq_shape.proofs.said.+listed.Goals as goal

pub returns-in_ok-first-in-Or : goal.returns-in_ok-first-in-Or
returns-in_ok-first-in-Or t c = rw (c.in-Or.is, in_list_or) (search rules)

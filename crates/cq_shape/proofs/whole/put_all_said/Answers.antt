use Rattle.std.proofs.Common.{rules, append_assoc}
use Rattle.cq_shape.proofs.Nodes.{said_whole}
use Rattle.cq_shape.proofs.whole.put_all_said.Goals as goal

pub returns : goal.returns
returns c = rw said_whole (search (rules, append_assoc))

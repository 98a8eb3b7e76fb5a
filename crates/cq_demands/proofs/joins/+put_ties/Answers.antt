use Rattle.std.proofs.Common.{rules, append_assoc}
use Rattle.cq_demands.proofs.Nodes.{ties_and}
use Rattle.cq_demands.proofs.joins.+put_ties.Goals as goal

pub returns-in_ok-put_ties-in-And : goal.returns-in_ok-put_ties-in-And
returns-in_ok-put_ties-in-And t c = rw (c.in-And.is, ties_and) (search (rules, append_assoc))

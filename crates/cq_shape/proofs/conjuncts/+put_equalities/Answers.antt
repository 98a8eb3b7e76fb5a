use Rattle.std.proofs.Common.{rules, append_assoc}
use Rattle.cq_shape.proofs.Nodes.{equalities_and}
use Rattle.cq_shape.proofs.conjuncts.+put_equalities.Goals as goal

pub returns-in_ok-put_equalities-in-And : goal.returns-in_ok-put_equalities-in-And
returns-in_ok-put_equalities-in-And t c = rw (c.in-And.is, equalities_and) (search (rules, append_assoc))

use Rattle.std.proofs.Common.{rules}
use Rattle.cq_planning.specs.Conjuncts.{conjuncts, equalities}
use Rattle.cq_planning.specs.ValueSets.{sets_said}
use Rattle.cq_shape.proofs.Nodes.{equalities_and, said_and}
use Rattle.cq_plan.proofs.claims.+claim_of.Goals as goal

pub returns-in-And : goal.returns-in-And
returns-in-And t c =
    rw (c.in-And.is, equalities_and, said_and)
    (c.both_claims.ensures c.args.column (equalities (conjuncts c.in-And.a)) (equalities (conjuncts c.in-And.b)) (sets_said (conjuncts c.in-And.a)) (sets_said (conjuncts c.in-And.b)) (search rules) (search rules))

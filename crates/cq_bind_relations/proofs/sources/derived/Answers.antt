use Rattle.cq_bind_calls.proofs.Loops.{binds_then, passed}
use Rattle.cq_bind_relations.proofs.sources.derived.Goals as goal

pub returns : goal.returns
returns g c = passed _ _ _ _ _ _ c.in_ok-check_one_more.ensures (binds_then _ _ _ _ _ _ c.in_ok-block.ensures (c.subquery_relation.ensures _))

use Rattle.cq_bind_relations.proofs.FromLaws.{with_joins, without_joins}
use Rattle.cq_bind_relations.proofs.relations.with_joins.Goals as goal

pub returns-in_err-relation : goal.returns-in_err-relation
returns-in_err-relation g c = without_joins _ _ _ _ _ c.relation_of.new.found _ _ _ c.in_err-relation.ensures c.from_residual.ensures.1

pub returns : goal.returns
returns g c = with_joins _ _ _ _ _ _ _ _ _ c.in_ok-relation.ensures c.through_of.ensures

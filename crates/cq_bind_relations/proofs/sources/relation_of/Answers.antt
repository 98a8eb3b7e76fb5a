use Rattle.cq_bind_relations.proofs.FromLaws.{by_table, by_alias, by_subquery}
use Rattle.cq_bind_relations.proofs.sources.relation_of.Goals as goal

pub returns-in-Table : goal.returns-in-Table
returns-in-Table g c = by_table _ _ _ _ _ _ _ c.in-Table.is (c.table_relation.ensures _)

pub returns-in-TableAs : goal.returns-in-TableAs
returns-in-TableAs g c = by_alias _ _ _ _ _ _ _ _ _ c.in-TableAs.is (c.table_relation-in-TableAs.ensures _)

pub returns-in-Subquery : goal.returns-in-Subquery
returns-in-Subquery g c = by_subquery _ _ _ _ _ _ _ _ _ _ _ c.in-Subquery.is c.get.ensures c.derived.ensures

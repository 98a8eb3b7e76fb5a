use Rattle.cq_bind_names.proofs.Readings.{passed}
use Rattle.cq_bind_names.proofs.relations.table_relation.Goals as goal

pub returns : goal.returns
returns c = passed _ _ _ c.named_relation.result c.in_ok-check_one_more.ensures c.named_relation.ensures

use Rattle.cq_bind_statements.proofs.ColumnLaws.{count_next}
use Rattle.cq_bind_statements.proofs.columns.counted.Goals as goal

pub loop-i-preserved : goal.loop-i-preserved
loop-i-preserved c = count_next c.loop-i.i c.loop-i.places c.put.new.self c.loop-i.invariant c.in_ok-put.ensures.ok

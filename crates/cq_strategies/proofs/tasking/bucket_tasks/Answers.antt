use Rattle.std.proofs.Common.{rules}
use Rattle.cq_strategies.proofs.TaskLaws.{next_bucket}
use Rattle.cq_strategies.proofs.tasking.bucket_tasks.Goals as goal

pub loop-index-preserved : goal.loop-index-preserved
loop-index-preserved c = next_bucket c.loop-index.index c.loop-index.tasks c.put.new.self c.loop-index.invariant (search rules)

use Rattle.std.proofs.Common.{rules, append_assoc}
use Rattle.cq_planner.proofs.TouchLaws.{touches_is}
use Rattle.cq_planner.proofs.reading.+touches.Goals as goal

pub put_touches-returns : goal.put_touches-returns
put_touches-returns t c = rw touches_is (search (rules, append_assoc))

use Rattle.std.proofs.Common.{◌≡◌, ◌++◌}
use Rattle.cq_refusals.proofs.NumberLaws.{pairs_from}
use Rattle.cq_refusals.proofs.pairs.put_columns.Given as goal

abbrev pub invariant-loop-other : goal.invariant-loop-other
invariant-loop-other l = l.pairs ++ pairs_from l.column l.other l.end ≡ l.fn.pairs ++ pairs_from l.column l.start l.end

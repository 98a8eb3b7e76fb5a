use Rattle.std.proofs.Common.{◌≡◌, take, map}
use Rattle.cq_queries.proofs.sorting.cut_rows.Given as goal

abbrev pub invariant-loop-row : goal.invariant-loop-row
invariant-loop-row l = l.all ≡ map (λ row. take l.shown row) l.yielded

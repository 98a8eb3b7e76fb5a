use Rattle.std.proofs.Common.{◌≡◌, ◌+◌, ◌≤◌, length}
use Rattle.cq_value.proofs.row.finish.Given as goal

abbrev pub invariant-loop-values : goal.invariant-loop-values
invariant-loop-values l = record {
  moved : l.rows.list ≡ l.yielded;
  room : length l.fn.drafts ≤ l.rows.room + length l.yielded;
}

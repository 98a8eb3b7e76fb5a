use Rattle.std.proofs.Common.{◌≡◌, length, drop}
use Rattle.cq_reading.specs.Statements.{put_values}
use Rattle.cq_bind_statements.proofs.rows.put_values.Given as goal

abbrev pub invariant-loop-v : goal.invariant-loop-v
invariant-loop-v l = (l.places ≡ drop (length l.yielded) l.columns) × (l.row ≡ put_values l.fn.row l.columns l.yielded)

use Rattle.std.proofs.Common.{◌≡◌, drop, fold, None}
use Rattle.std.specs.Prelude.{filter}
use Rattle.cq_copy.specs.Rows.{is_missing, lower}
use Rattle.cq_copy.proofs.columns.missing.Given as goal

abbrev pub invariant-loop-column : goal.invariant-loop-column
invariant-loop-column l = fold lower l.first (filter (is_missing l.fn.table l.fn.listed) (drop l.column-index l.column-items)) ≡ fold lower None (filter (is_missing l.fn.table l.fn.listed) l.column-items)

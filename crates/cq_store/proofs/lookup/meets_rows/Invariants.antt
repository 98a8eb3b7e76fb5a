use Rattle.std.proofs.Common.{◌≡◌, false, take}
use Rattle.cq_store.specs.Stores.{meets_any}
use Rattle.cq_store.proofs.lookup.meets_rows.Given as goal

abbrev pub invariant-loop-row : goal.invariant-loop-row
invariant-loop-row l = meets_any l.table.pairs l.key (take l.row-index l.rows) ≡ false

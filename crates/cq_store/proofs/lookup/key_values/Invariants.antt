use Rattle.std.proofs.Common.{◌≡◌, take}
use Rattle.cq_store.specs.Stores.{values_at}
use Rattle.cq_store.proofs.lookup.key_values.Given as goal

abbrev pub invariant-loop-column : goal.invariant-loop-column
invariant-loop-column l = l.values ≡ values_at (take l.column-index l.key) l.row

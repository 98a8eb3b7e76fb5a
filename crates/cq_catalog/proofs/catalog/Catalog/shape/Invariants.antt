use Rattle.std.proofs.Common.{◌≡◌, map, take}
use Rattle.cq_value.specs.declared.schema.Column.{Column}
use Rattle.cq_catalog.proofs.catalog.Catalog.shape.Given as goal

abbrev pub invariant-loop-column : goal.invariant-loop-column
invariant-loop-column l = l.kinds ≡ map (λ (c : Column). c.kind) (take l.column-index l.info.columns)

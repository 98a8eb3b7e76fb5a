use Rattle.std.proofs.Common.{◌≡◌, take, map}
use Rattle.cq_reading.specs.Scopes.{column_source}
use Rattle.cq_bind_names.proofs.relations.table_sources.Given as goal

abbrev pub invariant-loop-column : goal.invariant-loop-column
invariant-loop-column l = l.sources ≡ map (column_source l.relation) (take l.column-index l.table.columns)

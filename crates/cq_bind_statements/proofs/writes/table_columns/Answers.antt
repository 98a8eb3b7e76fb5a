use Rattle.std.proofs.Common.{List, subst}
use Rattle.cq_value.specs.declared.schema.Column.{Column}
use Rattle.cq_reading.specs.Outcomes.{Judges}
use Rattle.cq_reading.specs.Statements.{columns_of}
use Rattle.cq_bind_statements.proofs.writes.table_columns.Goals as goal

pub returns : goal.returns
returns c = subst (λ (z : List Column). Judges (columns_of z c.args.columns.now) c.columns_of.result) c.as_slice.ensures c.columns_of.ensures

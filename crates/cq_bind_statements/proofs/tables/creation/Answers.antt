use Rattle.std.proofs.Common.{List, subst}
use Rattle.cq_grammar.specs.declared.name.Name.{Name}
use Rattle.cq_grammar.specs.declared.statement.ColumnDef.{ColumnDef}
use Rattle.cq_reading.specs.Outcomes.{Judges}
use Rattle.cq_reading.specs.Statements.{creation}
use Rattle.cq_bind_statements.proofs.tables.creation.Goals as goal

pub returns : goal.returns
returns c =
    subst (λ (z : List Name). Judges (creation c.args.catalog.now.tables c.args.name.now c.args.columns.now z) c.creation_of.result) c.as_slice-2.ensures
    (subst (λ (z : List ColumnDef). Judges (creation c.args.catalog.now.tables c.args.name.now z c.as_slice-2.result.now) c.creation_of.result) c.as_slice.ensures c.creation_of.ensures)

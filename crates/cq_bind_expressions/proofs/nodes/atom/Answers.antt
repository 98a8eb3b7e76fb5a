use Rattle.cq_bind_looks.proofs.Looks.{node_Column, node_ColumnOf}
use Rattle.cq_bind_expressions.proofs.Productions.{node_by}
use Rattle.cq_bind_expressions.proofs.nodes.atom.Goals as goal

pub returns-in-Column : goal.returns-in-Column
returns-in-Column c = λ found. node_by _ _ _ _ _ _ _ c.in-Column.is (node_Column _) (c.column.ensures found)

pub returns-in-ColumnOf : goal.returns-in-ColumnOf
returns-in-ColumnOf c = λ found. node_by _ _ _ _ _ _ _ c.in-ColumnOf.is (node_ColumnOf _ _) (c.column_of.ensures found)

use Rattle.cq_move_laws.proofs.Tables.{group_has_tables}
use Rattle.cq_move_laws.proofs.tables_law.Goals as goal

pub returns : goal.returns
returns g c = group_has_tables g.S.Store.state

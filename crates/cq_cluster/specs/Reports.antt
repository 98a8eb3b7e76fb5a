-- The table that a move is answered, before its numbers are known.
use Rattle.std.specs.Prelude.{◌≡◌, ◌≤◌, [], ◌∷◌}
use Rattle.cq_history.specs.Standing.{report_names, report_row}
use Rattle.cq_cluster.specs.declared.report.ReportTable.{ReportTable}

-- its columns' names, a row of zeros, and room for a row
pub record IsOpenReport (t : ReportTable) : Type 0 where
  pub names : t.names ≡ report_names
  pub rows : t.rows ≡ report_row (record { copied = 0; caught = 0; last = 0 }) ∷ []
  pub empty : t.room.list ≡ []
  pub room : 1 ≤ t.room.room

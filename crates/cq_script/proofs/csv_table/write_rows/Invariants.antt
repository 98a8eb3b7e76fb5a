use Rattle.std.proofs.Common.{◌≡◌, ◌++◌, drop, map}
use Rattle.std.specs.Prelude.{flat_map}
use Rattle.cq_script.specs.Texts.{csv_line, csv_value}
use Rattle.cq_script.specs.Writers.{IsAtFront, shown}
use Rattle.cq_script.proofs.csv_table.write_rows.Given as goal

abbrev pub invariant-loop-row : goal.invariant-loop-row
invariant-loop-row l = IsAtFront l.writer × (shown l.writer ++ flat_map (λ row. csv_line (map csv_value row)) (drop l.row-index l.rows) ≡ shown l.fn.writer ++ flat_map (λ row. csv_line (map csv_value row)) l.rows)

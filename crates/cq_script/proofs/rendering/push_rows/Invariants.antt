use Rattle.std.proofs.Common.{◌≡◌, ◌++◌, drop}
use Rattle.std.specs.Prelude.{flat_map}
use Rattle.cq_script.specs.Texts.{row_line}
use Rattle.cq_script.proofs.rendering.push_rows.Given as goal

abbrev pub invariant-loop-row : goal.invariant-loop-row
invariant-loop-row l = l.out.items ++ flat_map row_line (drop l.row-index l.rows) ≡ l.fn.out.items ++ flat_map row_line l.rows

use Rattle.std.proofs.Common.{◌≡◌, ◌++◌, map, take, drop}
use Rattle.cq_pages.specs.Pages.{pairs_of}
use Rattle.cq_pages.specs.Shared.{row_lent, rows_of_parts}
use Rattle.cq_pages.proofs.shared.lend_rows.Given as goal

abbrev pub invariant-loop-row : goal.invariant-loop-row
invariant-loop-row l = map row_lent l.all ≡ map row_lent l.initial.all ++ take l.row-index l.rows

use Rattle.std.proofs.Common.{◌≡◌, ◌++◌, map, take, drop}
use Rattle.cq_pages.specs.Pages.{pairs_of}
use Rattle.cq_pages.specs.Shared.{row_lent, rows_of_parts}
use Rattle.cq_pages.proofs.shared.copy_all.Given as goal

abbrev pub invariant-loop-lent : goal.invariant-loop-lent
invariant-loop-lent l = l.all ≡ map row_lent (take l.lent-index l.rows)

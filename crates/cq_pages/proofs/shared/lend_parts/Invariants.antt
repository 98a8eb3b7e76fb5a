use Rattle.std.proofs.Common.{◌≡◌, ◌++◌, map, take, drop}
use Rattle.cq_pages.specs.Pages.{pairs_of}
use Rattle.cq_pages.specs.Shared.{row_lent, rows_of_parts}
use Rattle.cq_pages.proofs.shared.lend_parts.Given as goal

abbrev pub invariant-loop-part : goal.invariant-loop-part
invariant-loop-part l = map row_lent l.all ≡ map row_lent l.initial.all ++ rows_of_parts (take l.part-index l.parts)

use Rattle.std.proofs.Common.{◌≡◌, ◌++◌, map, take, drop}
use Rattle.cq_pages.specs.Pages.{pairs_of}
use Rattle.cq_pages.specs.Shared.{row_lent, rows_of_parts}
use Rattle.cq_pages.proofs.shared.lend_page.Given as goal

abbrev pub invariant-loop-pair : goal.invariant-loop-pair
invariant-loop-pair l = map row_lent l.all ≡ map row_lent l.initial.all ++ map (λ p. p.1) (take l.pair-index l.page)

use Rattle.std.proofs.Common.{◌≡◌, ◌++◌, map, take, drop}
use Rattle.cq_pages.specs.Pages.{pairs_of}
use Rattle.cq_pages.specs.Shared.{row_lent, rows_of_parts}
use Rattle.cq_pages.proofs.shared.lend_pages.Given as goal

abbrev pub invariant-loop-page : goal.invariant-loop-page
invariant-loop-page l = map row_lent l.all ≡ map row_lent l.initial.all ++ map (λ p. p.1) (pairs_of (take l.page-index l.pages))

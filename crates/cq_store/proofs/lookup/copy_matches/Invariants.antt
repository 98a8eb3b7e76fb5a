use Rattle.std.proofs.Common.{◌≡◌, take}
use Rattle.std.specs.Prelude.{filter}
use Rattle.cq_value.specs.Tables.{Pair}
use Rattle.cq_pages.specs.Pages.{pairs_of}
use Rattle.cq_store.specs.Stores.{has_values}
use Rattle.cq_store.proofs.lookup.copy_matches.Given as goal

abbrev pub invariant-loop-page : goal.invariant-loop-page
invariant-loop-page l = l.found ≡ filter (λ (p : Pair). has_values l.wanted p.1) (pairs_of (take l.page-index l.pages))

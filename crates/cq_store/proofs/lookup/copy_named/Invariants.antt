use Rattle.std.proofs.Common.{◌≡◌, filter, take}
use Rattle.std.specs.List.{flat_map}
use Rattle.cq_value.specs.Tables.{Pair}
use Rattle.cq_store.specs.Stores.{has_values}
use Rattle.cq_pages.specs.Pages.{named}
use Rattle.cq_store.proofs.lookup.copy_named.Given as goal

abbrev pub invariant-loop-id : goal.invariant-loop-id
invariant-loop-id l = l.found ≡ flat_map (λ id. filter (λ (p : Pair). has_values l.wanted p.1) (named id l.rows.pairs)) (take l.id-index l.ids)

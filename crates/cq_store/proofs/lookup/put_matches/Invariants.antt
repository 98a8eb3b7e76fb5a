use Rattle.std.proofs.Common.{◌≡◌, ◌++◌, take}
use Rattle.std.specs.Prelude.{filter}
use Rattle.cq_value.specs.Tables.{Pair}
use Rattle.cq_store.specs.Stores.{has_values}
use Rattle.cq_store.proofs.lookup.put_matches.Given as goal

abbrev pub invariant-loop-id : goal.invariant-loop-id
invariant-loop-id l = l.found ≡ l.fn.found ++ filter (λ (p : Pair). has_values l.wanted p.1) (take l.id-index l.page)

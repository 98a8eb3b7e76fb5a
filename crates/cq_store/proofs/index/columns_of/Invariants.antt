use Rattle.std.proofs.Common.{◌≡◌, ℕ, map, take}
use Rattle.cq_value.specs.declared.value.Value.{Value}
use Rattle.cq_store.proofs.index.columns_of.Given as goal

abbrev pub invariant-loop-column : goal.invariant-loop-column
invariant-loop-column l = l.columns ≡ map (λ (p : ℕ × Value). p.0) (take l.column-index l.wanted)

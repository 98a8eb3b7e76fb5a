use Rattle.std.proofs.Common.{◌≡◌, ℕ, map, take}
use Rattle.cq_value.specs.declared.value.Value.{Value}
use Rattle.cq_store.proofs.index.are_columns.Given as goal

abbrev pub invariant-loop-place : goal.invariant-loop-place
invariant-loop-place l = take l.place l.columns ≡ map (λ (p : ℕ × Value). p.0) (take l.place l.wanted)

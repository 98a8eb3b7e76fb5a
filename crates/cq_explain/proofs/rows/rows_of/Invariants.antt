use Rattle.std.proofs.Common.{◌≡◌, ℕ, List, [], ◌∷◌, map}
use Rattle.cq_value.specs.declared.value.Value.TheVariants as value
use Rattle.cq_explain.proofs.rows.rows_of.Given as goal

abbrev pub invariant-loop-line : goal.invariant-loop-line
invariant-loop-line l = l.rows ≡ map (λ (line : List ℕ). value.Text line ∷ []) l.yielded

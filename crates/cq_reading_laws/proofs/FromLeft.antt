-- Chains from left to right, as sums and products are read.
use Rattle.std.proofs.Common.{◌≡◌, Bool, true, false, ◌||◌, List, [], ◌∷◌, map, refl, ◌∙◌}
use Rattle.std.specs.List.{AllByRecursion}
use Rattle.cq_reading.specs.declared.bound.Bound.{Bound}
use Rattle.cq_reading.specs.Steps.{Reading}
use Rattle.cq_reading.specs.Scopes.{Context}
use Rattle.cq_reading.specs.Parts.{Part}
use Rattle.cq_reading.specs.Expressions as e

only : (b : Bool) → b ≡ (b || false)
only true = refl
only false = refl

any_behind : (a b c : Bool) → ((a || (b || false)) || c) ≡ (a || (b || c))
any_behind true b c = refl
any_behind false true c = refl
any_behind false false c = refl

module _ {A : Type 0} (part : A → Part) (step : Context → Bound → A → Reading Bound) where
  -- what holds of the first part, and of each front with one operand more, holds of the chain
  pub from_left_keeps : (P : Part → Type 0) → ((before : Part) (p : A) → P before → P (part p) → P (e.further part step before p))
      → (rest : List A) (before : Part) → P before → AllByRecursion (λ p. P (part p)) rest → P (e.from_left part step before rest)
  from_left_keeps P one [] before h k = h
  from_left_keeps P one (p ∷ more) before h k = from_left_keeps P one more (e.further part step before p) (one before p h k.0) k.1

  -- an aggregate stands in it where it stands in an operand
  pub from_left_aggregates : (rest : List A) (before : Part) → (e.from_left part step before rest).aggregates ≡ e.any_aggregates (before ∷ map part rest)
  from_left_aggregates [] before = only before.aggregates
  from_left_aggregates (p ∷ more) before = from_left_aggregates more (e.further part step before p) ∙ any_behind before.aggregates (part p).aggregates (e.any_aggregates (map part more))

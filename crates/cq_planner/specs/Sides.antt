-- What code finds of a relation before it knows whether it stays in its block.
use Rattle.std.specs.Prelude.{ℕ, List, [], ◌∷◌, Bool, if◌then◌else◌, Option, None, Some}
use Rattle.cq_planning.specs.ValueSets.{ValueSet}
use Rattle.cq_planning.specs.Relations.{OuterJoin}
use Rattle.cq_plan.specs.declared.sets.Begun.{Begun}

-- the LEFT JOIN of which a relation is the right side, where it is one, by the first column of the left side and the equalities of the ON
abbrev pub outer_by : Bool → ℕ → List (ℕ × ℕ) → Option OuterJoin
outer_by is_right low pairs = if is_right then Some (record { left = low; equalities = pairs }) else None

-- the value set of the first of these relations
abbrev pub first_set : List Begun → ValueSet
first_set [] = None
first_set (r ∷ rs) = r.set

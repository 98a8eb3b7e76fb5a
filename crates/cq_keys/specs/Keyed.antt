-- Groups of rows, found by their keys.
use Rattle.std.specs.Prelude.{◌≡◌, ℕ, ◌+◌, List, [], ◌∷◌, ◌++◌, Option, None, Some, if◌then◌else◌}
use Rattle.std.specs.Option.{option_map}
use Rattle.std.specs.HashMap.{HashMap, get}
use Rattle.cq_meaning.specs.declared.Group.{Group}
use Rattle.cq_meaning.specs.Values.{Row, same_row}
use Rattle.cq_keys.specs.declared.key.RowKey.{RowKey}

-- the row goes into the group of its keys, or into a new one
abbrev pub put_in_group : Row → Row → List Group → List Group
put_in_group key row [] = record { keys = key; rows = row ∷ [] } ∷ []
put_in_group key row (g ∷ gs) = if same_row key g.keys then record { keys = g.keys; rows = g.rows ++ row ∷ [] } ∷ gs else g ∷ put_in_group key row gs

-- the rows of the group with these keys
abbrev pub rows_with : Row → List Group → List Row
rows_with key [] = []
rows_with key (g ∷ gs) = if same_row key g.keys then g.rows else rows_with key gs

-- the place of the group with these keys
abbrev pub place_with : Row → List Group → Option ℕ
place_with key [] = None
place_with key (g ∷ gs) = if same_row key g.keys then Some 0 else option_map (λ i. i + 1) (place_with key gs)

-- what a map has at a key is the place of the group with these keys
abbrev pub AreTheirPlaces : {S : Type 0} → List Group → HashMap RowKey ℕ S → Type 0
AreTheirPlaces gs places = (q : RowKey) → get (λ a b. same_row a.row b.row) places q ≡ place_with q.row gs

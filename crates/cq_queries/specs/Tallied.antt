-- Groups by their keys, each with the number of its rows and its aggregates in place of the rows.
use Rattle.std.specs.Prelude.{◌≡◌, ℕ, ◌+◌, ◌-◌, ◌<◌, ◌^◌, List, [], ◌∷◌, ◌++◌, map, length, All, Option, None, Some, if◌then◌else◌, nat_lt, Bool}
use Rattle.std.specs.Option.{option_map}
use Rattle.std.specs.HashMap.{HashMap, get}
use Rattle.cq_tree.specs.declared.query.Agg.{Agg}
use Rattle.cq_meaning.specs.declared.Group.{Group}
use Rattle.cq_meaning.specs.Values.{Row, Results, same_row}
use Rattle.cq_queries.specs.declared.tallying.TalliedGroup.{TalliedGroup}
use Rattle.cq_queries.specs.declared.lent_key.LentKey.{LentKey}
use Rattle.cq_queries.specs.LentKeys.{row_of}
use Rattle.cq_queries.specs.Tallies.{Tally, tally_over, tally_with, CanTally}

-- what is kept of a group
abbrev pub tallied : Results → List Agg → Group → TalliedGroup
tallied results aggs g = record { keys = g.keys; rows = length g.rows; tallies = map (tally_over results g.rows) aggs }

-- a group of no rows
abbrev pub unseen : Results → List Agg → Row → TalliedGroup
unseen results aggs key = record { keys = key; rows = 0; tallies = map (tally_over results []) aggs }

abbrev pub grown : Results → Row → TalliedGroup → TalliedGroup
grown results row g = record { keys = g.keys; rows = g.rows + 1; tallies = map (tally_with results row) g.tallies }

-- its keys and then its aggregates
abbrev pub row_of_tallied : TalliedGroup → Row
row_of_tallied g = g.keys ++ map (λ (t : Tally). t.1) g.tallies

abbrev pub is_large_tallied : TalliedGroup → Bool
is_large_tallied g = nat_lt (2 ^ 31) g.rows

-- the group with the keys of another, or else that one
abbrev pub found_or : TalliedGroup → List TalliedGroup → TalliedGroup
found_or new [] = new
found_or new (g ∷ gs) = if same_row new.keys g.keys then g else found_or new gs

-- the group with the keys of another is changed, or else that one is, and comes last
abbrev pub put_changed : (TalliedGroup → TalliedGroup) → TalliedGroup → List TalliedGroup → List TalliedGroup
put_changed change new [] = change new ∷ []
put_changed change new (g ∷ gs) = if same_row new.keys g.keys then change g ∷ gs else g ∷ put_changed change new gs

-- the place of the group with these keys
abbrev pub place_of : Row → List TalliedGroup → Option ℕ
place_of key [] = None
place_of key (g ∷ gs) = if same_row key g.keys then Some 0 else option_map (λ i. i + 1) (place_of key gs)

abbrev pub AreTheirPlaces : {S : Type 0} → List TalliedGroup → HashMap LentKey ℕ S → Type 0
AreTheirPlaces gs places = (q : LentKey) → get (λ a b. same_row (row_of a) (row_of b)) places q ≡ place_of (row_of q) gs

-- what a group needs for a row more
abbrev pub CanGrow : Results → Row → TalliedGroup → Type 0
CanGrow results row g = (g.rows < 2 ^ 64 - 1) × All (CanTally results row) g.tallies

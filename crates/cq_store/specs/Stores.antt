-- What a store holds: the rows of one shard, on one node, and the changes staged for them.
use Rattle.std.specs.Prelude.{◌≡◌, ◌<◌, ◌≤◌, ◌⊎◌, ℕ, Bool, true, IsTrue, List, [], map, slice_index_or}
use Rattle.std.specs.List.{list_all, list_any}
use Rattle.std.specs.Ordering.{is_eq}
use Rattle.cq_value.specs.declared.change.Change.{Change}
use Rattle.cq_value.specs.declared.value.Value.{Value}
use Rattle.cq_value.specs.declared.value.Value.TheVariants.{Null}
use Rattle.cq_value.specs.Order.{value_cmp}
use Rattle.cq_value.specs.Tables.{Pair, Table, empty_table}

-- the node that the store is on, the shard that it keeps (0: none), the shard's rows, the changes staged, how many calls
-- failed, and whether no call ever fails
pub record StoreState : Type 0 where
  pub node : ℕ
  pub shard : ℕ
  pub rows : Table
  pub staged : List Change
  pub faults : ℕ
  pub steady : Bool

-- a spare store keeps no shard, is empty, and has nothing staged
pub record IsSpare (s : StoreState) : Type 0 where
  pub spare : s.shard ≡ 0
  pub empty : s.rows ≡ empty_table
  pub nothing : s.staged ≡ []

-- a count that rose, or that stands at the last value that it can have
abbrev pub Rose : ℕ → ℕ → Type 0
Rose before after = (before < after) ⊎ ((before ≡ 18446744073709551615) × (after ≡ 18446744073709551615))

-- a call made the state as wanted, but for the count of faults, which doesn't fall, and in a steady store stays
pub record Becomes (old want new : StoreState) : Type 0 where
  pub state : new ≡ record want { faults = new.faults }
  pub counts : old.faults ≤ new.faults
  pub steady : IsTrue old.steady → new.faults ≡ old.faults

-- whether a row has this value in a column, NULL being itself; past the row's end stands NULL
abbrev pub has_value : ℕ → Value → List Value → Bool
has_value column value row = is_eq (value_cmp (slice_index_or row column Null) value)

-- whether a row has each of these values in its column
abbrev pub has_values : List (ℕ × Value) → List Value → Bool
has_values values row = list_all (λ (p : ℕ × Value). has_value p.0 p.1 row) values

-- a row's values in the columns of a key, each with its column, NULL past the row's end
abbrev pub values_at : List ℕ → List Value → List (ℕ × Value)
values_at key row = map (λ (place : ℕ). (place, slice_index_or row place Null)) key

-- whether one of the pairs' rows has a row's values in the columns of a key
abbrev pub meets_one : List Pair → List ℕ → List Value → Bool
meets_one pairs key row = list_any (λ (p : Pair). has_values (values_at key row) p.1) pairs

-- whether one of the pairs' rows has the values of one of these rows in the columns of a key
abbrev pub meets_any : List Pair → List ℕ → List (List Value) → Bool
meets_any pairs key rows = list_any (λ (row : List Value). meets_one pairs key row) rows

-- a spare store of a node that never fails
abbrev pub steady_spare : ℕ → StoreState
steady_spare node = record { node = node; shard = 0; rows = empty_table; staged = []; faults = 0; steady = true }

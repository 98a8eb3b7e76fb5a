-- Shard groups that a statement holds alone, by their places.
use Rattle.std.specs.Prelude.{◌≡◌, ◌≢◌, ⊤, ℕ, List, [], length, Option, Some, None, slice_get}
use Rattle.std.specs.List.{AllByRecursion}
use Rattle.cq_value.specs.Tables.{empty_table}
use Rattle.cq_store.specs.Stores.{StoreState}
use Rattle.cq_group.specs.declared.group.GroupState.{GroupState}
use Rattle.cq_group.specs.declared.start.MoveWhy.{MoveWhy}
use Rattle.cq_group.specs.declared.start.MoveWhy.TheVariants as why
use Rattle.cq_group.specs.Groups.{stores_of}
use Rattle.cq_group.specs.Calls.{GroupGoesOn}
use Rattle.cq_group.specs.Resting.{IsResting, HasFailedAt}
use Rattle.cq_reach.specs.Seen.{Seen, seen_of}
use Rattle.cq_move_calls.specs.Moving.{AreSteadyOn}

-- a group that is known as it is
abbrev pub seen_in : {X : Type 0} → Option (GroupState X) → Seen
seen_in None = record { journal = record { number = 0; opening = 0; base = λ table. empty_table; entries = [] }; tables = []; nodes = 0 }
seen_in (Some g) = seen_of g

-- the group of this number is there, and rests
abbrev pub RestsAt : {X : Type 0} → (X → StoreState) → ℕ → List (GroupState X) → Type 0
RestsAt {X} state group groups = (g : GroupState X) × (slice_get groups group ≡ Some g) × IsResting state g

-- a call for the group of this number leaves the others as they are
pub record AreKept {X : Type 0} (group : ℕ) (old new : List (GroupState X)) : Type 0 where
  pub count : length new ≡ length old
  pub others : (at : ℕ) → at ≢ group → slice_get new at ≡ slice_get old at

-- the group of this number goes on
abbrev pub GoesOnAt : {X : Type 0} → (X → StoreState) → ℕ → List (GroupState X) → List (GroupState X) → Type 0
GoesOnAt {X} state group old new = (g h : GroupState X) → slice_get old group ≡ Some g → slice_get new group ≡ Some h → GroupGoesOn state g h

-- a move didn't begin since a store of the group failed
abbrev pub HasFailedBy : {X : Type 0} → (X → StoreState) → ℕ → MoveWhy → List (GroupState X) → List (GroupState X) → Type 0
HasFailedBy state group (why.Worker failure) old new = HasFailedAt state group failure old new
HasFailedBy state group w old new = ⊤

-- the stores of the node that groups have are steady
abbrev pub GroupsAreSteady : {X : Type 0} → (X → StoreState) → ℕ → List (GroupState X) → Type 0
GroupsAreSteady {X} state node groups = AllByRecursion (λ (g : GroupState X). AreSteadyOn state node (stores_of g)) groups

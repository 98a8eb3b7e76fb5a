-- Several shard groups between two statements, and after one.
use Rattle.std.specs.Prelude.{◌≡◌, ℕ, List, map, length, Some, slice_get}
use Rattle.cq_tree.specs.declared.failure.StoreFailure.{StoreFailure}
use Rattle.cq_journal.specs.Records.{Journal}
use Rattle.cq_journal.specs.Stations.{node_of}
use Rattle.cq_store.specs.Stores.{StoreState}
use Rattle.cq_group.specs.declared.group.GroupState.{GroupState}
use Rattle.cq_group.specs.Groups.{IsKept, IsQuiet, journal_of, stores_of}
use Rattle.cq_group.specs.Calls.{GroupGoesOn, SomeZip, Lifted, Failed}

-- the journals of groups, in their order
abbrev pub journals_of : {X : Type 0} → List (GroupState X) → List Journal
journals_of {X} groups = map (λ (g : GroupState X). journal_of g) groups

-- what a group keeps between two statements: its stores hold what its journal leaves, nothing is staged, and it is where its journal says
pub record IsResting {X : Type 0} (state : X → StoreState) (g : GroupState X) : Type 0 where
  pub kept : IsKept state g
  pub quiet : IsQuiet state g
  pub placed : node_of (journal_of g) ≡ g.node

abbrev pub AreResting : {X : Type 0} → (X → StoreState) → List (GroupState X) → Type 0
AreResting {X} state groups = (i : ℕ) (g : GroupState X) → slice_get groups i ≡ Some g → IsResting state g

-- the groups after a statement: each is as it was but for its entries and the rows of its stores, and rests again
pub record GoOn {X : Type 0} (state : X → StoreState) (old new : List (GroupState X)) : Type 0 where
  pub count : length new ≡ length old
  pub each : (i : ℕ) (g h : GroupState X) → slice_get old i ≡ Some g → slice_get new i ≡ Some h → GroupGoesOn state g h × IsResting state h

-- meanwhile a store of the group at this place failed so, which isn't steady
pub record HasFailedAt {X : Type 0} (state : X → StoreState) (place : ℕ) (failure : StoreFailure) (old new : List (GroupState X)) : Type 0 where
  pub was : GroupState X
  pub is : GroupState X
  pub there : slice_get old place ≡ Some was
  pub here : slice_get new place ≡ Some is
  pub failed : SomeZip (Lifted state (Failed failure)) (stores_of was) (stores_of is)

-- of some group
abbrev pub HasFailed : {X : Type 0} → (X → StoreState) → StoreFailure → List (GroupState X) → List (GroupState X) → Type 0
HasFailed state failure old new = (place : ℕ) × HasFailedAt state place failure old new

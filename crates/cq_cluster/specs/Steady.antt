-- Nodes whose stores never fail: what a call leaves of them, and that no answer names one.
use Rattle.std.specs.Prelude.{◌≡◌, ℕ, IsTrue, List}
use Rattle.std.specs.List.{AllByRecursion}
use Rattle.cq_answer.specs.declared.answer.Answer.{Answer}
use Rattle.cq_answer.specs.declared.answer.Answer.TheVariants as answer
use Rattle.cq_answer.specs.declared.fault.Fault.TheVariants as fault
use Rattle.cq_store.specs.Stores.{StoreState}
use Rattle.cq_store.specs.declared.worker.Worker.{Worker}
use Rattle.cq_group.specs.declared.group.GroupState.{GroupState}
use Rattle.cq_group.specs.Groups.{stores_of}
use Rattle.cq_cluster.specs.declared.cluster.Cluster.{Cluster}
use Rattle.cq_cluster.specs.declared.retired.Retired.{Retired}

-- the stores of the node among these are steady
abbrev pub AreSteady : {X : Type 0} → (X → StoreState) → ℕ → List X → Type 0
AreSteady {X} state node xs = AllByRecursion (λ (x : X). (state x).node ≡ node → IsTrue (state x).steady) xs

-- so are those in the lists of workers
abbrev pub WorkersAreSteady : {X : Type 0} → (X → StoreState) → ℕ → List (Worker X) → Type 0
WorkersAreSteady {X} state node workers = AllByRecursion (λ (w : Worker X). AreSteady state node w.stores.items) workers

-- those that groups have
abbrev pub GroupsAreSteady : {X : Type 0} → (X → StoreState) → ℕ → List (GroupState X) → Type 0
GroupsAreSteady {X} state node groups = AllByRecursion (λ (g : GroupState X). AreSteady state node (stores_of g)) groups

-- those that are retired
abbrev pub RetiredAreSteady : {X : Type 0} → (X → StoreState) → ℕ → List (Retired X) → Type 0
RetiredAreSteady {X} state node retired = AllByRecursion (λ (r : Retired X). (state r.store).node ≡ node → IsTrue (state r.store).steady) retired

-- and all that a cluster has
pub record IsSteadyAt {X : Type 0} (state : X → StoreState) (cl : Cluster X) (node : ℕ) : Type 0 where
  pub groups : GroupsAreSteady state node cl.groups.items
  pub workers : WorkersAreSteady state node cl.workers.items
  pub retired : RetiredAreSteady state node cl.retired.items

-- a node whose stores were all steady has only steady stores still
abbrev pub KeepsSteady : {X : Type 0} → (X → StoreState) → Cluster X → Cluster X → Type 0
KeepsSteady state old new = (node : ℕ) → IsSteadyAt state old node → IsSteadyAt state new node

-- the answer says that a store of this node failed
abbrev pub NamesNode : Answer → ℕ → Type 0
NamesNode (answer.Failed (fault.Worker failure)) node = failure.node ≡ node
NamesNode (answer.Failed (fault.Retired failure)) node = failure.node ≡ node
NamesNode a node = ⊥

-- it says so of no node whose stores are all steady
abbrev pub NamesNoSteady : {X : Type 0} → (X → StoreState) → Cluster X → Answer → Type 0
NamesNoSteady state cl a = (node : ℕ) → IsSteadyAt state cl node → NamesNode a node → ⊥

-- a statement that is answered so: nodes whose stores were all steady stay so, and the answer names none of them
pub record SparesSteady {X : Type 0} (state : X → StoreState) (a : Answer) (old new : Cluster X) : Type 0 where
  pub keeps : KeepsSteady state old new
  pub names : NamesNoSteady state old a

-- ---- stores in hand

-- the stores that are taken out of a list, and those that stay in it, are as steady as its stores were
abbrev pub ArePartedSteady : {X : Type 0} → (X → StoreState) → List X → List X → List X → Type 0
ArePartedSteady state old taken left = (node : ℕ) → AreSteady state node old → AreSteady state node taken × AreSteady state node left

-- the stores of a list are as steady as those that it had and those that were put in
abbrev pub AreJoinedSteady : {X : Type 0} → (X → StoreState) → List X → List X → List X → Type 0
AreJoinedSteady state old given new = (node : ℕ) → AreSteady state node old → AreSteady state node given → AreSteady state node new

-- the same of stores that are taken out of workers' lists
abbrev pub AreTakenSteady : {X : Type 0} → (X → StoreState) → List (Worker X) → List X → List (Worker X) → Type 0
AreTakenSteady state old taken new = (node : ℕ) → WorkersAreSteady state node old → AreSteady state node taken × WorkersAreSteady state node new

-- and of those that are given to workers
abbrev pub AreGivenSteady : {X : Type 0} → (X → StoreState) → List (Worker X) → List X → List (Worker X) → Type 0
AreGivenSteady state old given new = (node : ℕ) → WorkersAreSteady state node old → AreSteady state node given → WorkersAreSteady state node new

-- groups and workers, of which stores went to and fro
abbrev pub StaySteady : {X : Type 0} → (X → StoreState) → List (GroupState X) → List (Worker X) → List (GroupState X) → List (Worker X) → Type 0
StaySteady state groups workers new_groups new_workers =
    (node : ℕ) → GroupsAreSteady state node groups → WorkersAreSteady state node workers → GroupsAreSteady state node new_groups × WorkersAreSteady state node new_workers

-- groups that got stores for others
abbrev pub AreExchangedSteady : {X : Type 0} → (X → StoreState) → List (GroupState X) → List X → List (GroupState X) → List X → Type 0
AreExchangedSteady state groups given new_groups back =
    (node : ℕ) → GroupsAreSteady state node groups → AreSteady state node given → GroupsAreSteady state node new_groups × AreSteady state node back

-- stores of which some are retired
abbrev pub AreSetAsideSteady : {X : Type 0} → (X → StoreState) → List (Retired X) → List X → List (Retired X) → List X → Type 0
AreSetAsideSteady state retired stores new_retired new_stores =
    (node : ℕ) → RetiredAreSteady state node retired → AreSteady state node stores → RetiredAreSteady state node new_retired × AreSteady state node new_stores

-- a cluster to which stores come back that were taken
abbrev pub TakesBackSteady : {X : Type 0} → (X → StoreState) → List X → Cluster X → Cluster X → Type 0
TakesBackSteady state given old new = (node : ℕ) → IsSteadyAt state old node → AreSteady state node given → IsSteadyAt state new node

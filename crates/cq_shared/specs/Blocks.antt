-- The groups and workers that the sessions of a block share, as it is opened and as it is closed.
use Rattle.std.specs.Prelude.{◌≡◌, ℕ, List, [], map}
use Rattle.std.specs.List.{AllZip, AllByRecursion}
use Rattle.atomic_table.specs.Seated.{TableId}
use Rattle.cq_tree.specs.declared.journal.Entry.{Entry}
use Rattle.cq_store.specs.Stores.{StoreState}
use Rattle.cq_store.specs.declared.worker.Worker.{Worker}
use Rattle.cq_group.specs.declared.group.GroupState.{GroupState}
use Rattle.cq_group.specs.Groups.{entries_of, stores_of}
use Rattle.cq_group.specs.Resting.{IsResting}
use Rattle.cq_cell.specs.declared.view.Key.{Key}
use Rattle.cq_cell.specs.Many.{AreOpened, AllFirst, HaveClosed}
use Rattle.cq_move_calls.specs.Moving.{AreSteadyOn}
use Rattle.cq_shared.specs.declared.content.Shard.{Shard}
use Rattle.cq_shared.specs.declared.worker.Stock.{Stock}
use Rattle.cq_shared.specs.Terms.{Terms}
use Rattle.cq_shared.specs.Errands.{sent_by, AreOfNode, IsBench, WorkerPass}
use Rattle.cq_shared.specs.Notes.{who_of, IsShard}
use Rattle.cq_shared.specs.Seen.{Pass}

-- a group that sessions may share by these rules: nothing is staged in it, its stores hold what its journal leaves, its entries are allowed, and its stores
-- on nodes where all are to be steady are so
pub record MayShare {X C : Type 0} (state : X → StoreState) (terms : C → Terms) (rules : C) (g : GroupState X) : Type 0 where
  pub resting : IsResting state g
  pub kinds : AllByRecursion (λ (e : Entry). (terms rules).allows g.journal.group e.kind) (entries_of g)
  pub steady : (node : ℕ) → (terms rules).steady node → AreSteadyOn state node (stores_of g)

-- a worker that sessions may share by these rules: its stores are spare and of its node, and where all stores of a node are to be steady, they are
abbrev pub MaySpare : {X C : Type 0} → (X → StoreState) → (C → Terms) → C → Worker X → Type 0
MaySpare state terms rules w = AreOfNode state w.node w.stores.items × ((node : ℕ) → (terms rules).steady node → AreSteadyOn state node w.stores.items)

abbrev pub group_in : {X C : Type 0} → Shard X C → GroupState X
group_in x = x.group

-- a group with the rules by which it is shared
abbrev pub IsShared : {X C : Type 0} → C → GroupState X → Shard X C → Type 0
IsShared rules g x = (x.group ≡ g) × (x.rules.value ≡ rules)

abbrev pub worker_in : {X C : Type 0} → Stock X C → Worker X
worker_in x = x.worker

-- a worker with the rules by which it is shared
abbrev pub IsStock : {X C : Type 0} → C → Worker X → Stock X C → Type 0
IsStock rules w x = (x.worker ≡ w) × (x.rules.value ≡ rules)

-- cells were opened for these groups, under these rules, and each session has a pass to each, which has seen nothing
pub record AreShared {X C : Type 0} (numbers : List ℕ) (rules : C) (groups : List (GroupState X)) (cs : List (TableId × Key (Shard X C))) (roots : List (Pass X C)) (rows : List (List (Pass X C))) : Type 0 where
  pub shards : List (Shard X C)
  pub are : AllZip (IsShared rules) groups shards
  pub opened : AreOpened numbers [] shards cs roots
  pub passes : AllFirst numbers cs numbers rows

-- groups came back from their cells: each stands for its cell's history, of which the sessions' passes know their own notes and a beginning
pub record HaveParted {X C : Type 0} (state : X → StoreState) (terms : C → Terms) (cs : List (TableId × Key (Shard X C))) (groups : List (GroupState X)) (rows : List (List (Pass X C))) : Type 0 where
  pub shards : List (Shard X C)
  pub are : groups ≡ map group_in shards
  pub closed : HaveClosed who_of (IsShard state terms) cs shards rows

-- the same for workers
pub record AreStocked {X C : Type 0} (numbers : List ℕ) (rules : C) (workers : List (Worker X)) (cs : List (TableId × Key (Stock X C))) (roots : List (WorkerPass X C)) (rows : List (List (WorkerPass X C))) : Type 0 where
  pub stocks : List (Stock X C)
  pub are : AllZip (IsStock rules) workers stocks
  pub opened : AreOpened numbers [] stocks cs roots
  pub passes : AllFirst numbers cs numbers rows

pub record HaveReturned {X C : Type 0} (state : X → StoreState) (terms : C → Terms) (cs : List (TableId × Key (Stock X C))) (workers : List (Worker X)) (rows : List (List (WorkerPass X C))) : Type 0 where
  pub stocks : List (Stock X C)
  pub are : workers ≡ map worker_in stocks
  pub closed : HaveClosed sent_by (IsBench state terms) cs stocks rows

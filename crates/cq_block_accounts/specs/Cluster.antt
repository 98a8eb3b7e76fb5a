-- The cluster behind a block: its groups and the workers of the run are those that came back, the retired stores of its sessions stand behind those before, and all else is as it was.
use Rattle.std.specs.Prelude.{◌≡◌, ◌⊎◌, ◌+◌, ◌++◌, ◌<◌, ◌≤◌, ℕ, List, length, take, drop, None}
use Rattle.std.specs.List.{AllByRecursion, sum_by}
use Rattle.cq_tree.specs.declared.journal.EntryKind.{EntryKind}
use Rattle.cq_catalog.specs.Contents.{Contents}
use Rattle.cq_answer.specs.declared.answered.Answered.{Answered}
use Rattle.cq_answer.specs.declared.answered.Settings.{Settings}
use Rattle.cq_journal.specs.Records.{Journal}
use Rattle.cq_journal.specs.Stations.{moving_of}
use Rattle.cq_store.specs.Stores.{StoreState}
use Rattle.cq_store.specs.declared.worker.Worker.{Worker}
use Rattle.cq_history.specs.Journals.{journal_in}
use Rattle.cq_history.specs.Legality.{IsLegal, IsLegalKind}
use Rattle.cq_history.specs.Refusals.{rules}
use Rattle.cq_history.specs.Phases.{MayBeInBlock}
use Rattle.cq_history.specs.Room.{stores_on}
use Rattle.cq_history.specs.Run.{Run}
use Rattle.cq_cell.specs.Lists.{Distinct}
use Rattle.cq_cluster.specs.declared.cluster.Cluster.{Cluster}
use Rattle.cq_cluster.specs.declared.retired.Retired.{Retired}
use Rattle.cq_cluster.specs.Cluster.{IsSound, HasStores, KeepsStores, journals, retired_nodes, run_of}
use Rattle.cq_cluster.specs.Steady.{GroupsAreSteady, WorkersAreSteady, IsSteadyAt, KeepsSteady, NamesNoSteady}
use Rattle.cq_shared.specs.Terms.{Terms}
use Rattle.cq_shared.specs.Blocks.{MayShare, MaySpare}
use Rattle.cq_block_laws.specs.Laws.{HaveFree}
use Rattle.cq_block_laws.specs.Closing.{Session, History, numbers_of, answers_of, IsClosed}
use Rattle.cq_block_laws.specs.Serving.{Opening}
use Rattle.cq_block_laws.specs.Sessions.{retired_by, HasRun}
use Rattle.cq_place_laws.specs.Placing.{arrives, leaves, nodes_in}
use Rattle.cq_block_accounts.specs.Accounts.{MayRetire}

module _ {X : Type 0} where
  -- the workers that a run uses, and those that it doesn't
  abbrev pub used_workers : Cluster X → List (Worker X)
  used_workers cl = take cl.nodes cl.workers.items

  abbrev pub unused_workers : Cluster X → List (Worker X)
  unused_workers cl = drop cl.nodes cl.workers.items

-- ---- before a block

-- terms that a cluster keeps: an entry is allowed that its catalogue allows, and nodes are to be steady of which all stores of the groups and of the run's workers are
pub record AreKeptBy {X : Type 0} (state : X → StoreState) (cl : Cluster X) (terms : Terms) : Type 0 where
  pub allows : (g : ℕ) (kind : EntryKind) → IsLegalKind cl.catalog g kind → terms.allows g kind
  pub steady : (node : ℕ) → terms.steady node → GroupsAreSteady state node cl.groups.items × WorkersAreSteady state node (used_workers cl)

module _ {X : Type 0} (state : X → StoreState) (C : Type 0) (terms : C → Terms) where
  -- between two phases sessions may share the groups of a cluster and the workers of the run under such terms
  abbrev pub ClusterMayBeShared : Type 0
  ClusterMayBeShared = (cl : Cluster X) (rules : C) → IsSound state cl → AreKeptBy state cl (terms rules) → ((g : ℕ) → IsLegal cl.catalog g (journal_in (journals cl) g)) →
      AllByRecursion (MayShare state terms rules) cl.groups.items × AllByRecursion (MaySpare state terms rules) (used_workers cl)

-- and each of these workers has as many stores as are spare
abbrev pub WorkersAreFree : {X : Type 0} → (X → StoreState) → Type 0
WorkersAreFree {X} state = (cl : Cluster X) (initial : Settings) (entry : List (Worker X)) (o : Opening) → IsSound state cl → HasStores state entry cl → o.environment.catalog ≡ cl.catalog → o.environment.retired ≡ retired_nodes cl →
    o.journals ≡ journals cl → HaveFree (run_of cl.nodes initial entry) o (used_workers cl)

-- ---- behind a block

-- the cluster behind a block to which these workers came back, and whose sessions retired these stores
pub record IsBehind {X : Type 0} (returned : List (Worker X)) (more : List (Retired X)) (old new : Cluster X) : Type 0 where
  pub workers : new.workers.items ≡ returned ++ unused_workers old
  pub retired : new.retired.items ≡ old.retired.items ++ more
  pub catalog : new.catalog ≡ old.catalog
  pub nodes : new.nodes ≡ old.nodes

-- what the log tells of the groups' journals behind a block: no move is in flight, each group is where it was or on a node of the run, and what was on a node
-- and came there by the block's answers is what is on it and what left
pub record AreAtRest (c : Contents) (nodes : ℕ) (block : List Answered) (old new : List Journal) : Type 0 where
  pub still : (g : ℕ) → moving_of (journal_in new g) ≡ None
  pub used : (g : ℕ) → g < length old → (nodes_in new g ≡ nodes_in old g) ⊎ ((1 ≤ nodes_in new g) × (nodes_in new g ≤ nodes))
  pub placed : (node : ℕ) → 1 ≤ node → stores_on c (nodes_in new) node + sum_by (leaves c node) block ≡ stores_on c (nodes_in old) node + sum_by (arrives c node) block

-- a cluster stays sound, with all its stores, and nodes whose stores were all steady stay so: none of these answers names one
pub record StaysSound {X : Type 0} (state : X → StoreState) (answers : List Answered) (old new : Cluster X) : Type 0 where
  pub sound : IsSound state new
  pub stores : KeepsStores state old new
  pub steady : KeepsSteady state old new
  pub names : AllByRecursion (λ (a : Answered). NamesNoSteady state old a.answer) answers

module _ {X : Type 0} (state : X → StoreState) (C : Type 0) (terms : C → Terms) where
  -- the cluster to which the groups and workers of a block come back is sound
  abbrev pub BlockLeavesCluster : Type 0
  BlockLeavesCluster = (o : Opening) (sessions : List Session) (old new : Cluster X) (returned : List (Worker X)) →
      (h : HasRun state terms rules old.nodes o old.groups.items (used_workers old) sessions new.groups.items returned) → o.environment.catalog ≡ old.catalog → Distinct (numbers_of sessions) →
      IsBehind returned (retired_by h.lasts) old new → AreAtRest old.catalog old.nodes (answers_of sessions) (journals old) (journals new) → ((node : ℕ) → IsSteadyAt state old node → (terms h.shared_by).steady node) → IsSound state old →
      StaysSound state (answers_of sessions) old new

-- ---- the environment

-- the answers of a closed block are such as may retire stores
abbrev pub ClosedMayRetire : Type 0
ClosedMayRetire = (run : Run) (o : Opening) (h : History) (sessions : List Session) (new : List Journal) → IsClosed rules run o h sessions new → AllByRecursion (λ (a : Answered). MayBeInBlock a.bound) (answers_of sessions) →
    AllByRecursion MayRetire (answers_of sessions)

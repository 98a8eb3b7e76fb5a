-- What the sessions of a block did to a coordinator, side by side.
use Rattle.std.specs.Prelude.{◌≡◌, ◌++◌, ℕ, List, length, take, drop}
use Rattle.std.specs.List.{flat_map}
use Rattle.cq_answer.specs.declared.answered.Answered.{Answered}
use Rattle.cq_store.specs.Stores.{StoreState}
use Rattle.cq_store.specs.declared.worker.Worker.{Worker}
use Rattle.cq_coordinator.specs.declared.coordinator.Coordinator.{Coordinator}
use Rattle.cq_block.specs.declared.drafts.SessionDrafts.{SessionDrafts}
use Rattle.cq_block.specs.Running.{HasRunSessions}

-- how many statements sessions have
abbrev pub drafts_in : List SessionDrafts → ℕ
drafts_in sessions = length (flat_map (λ (one : SessionDrafts). one.drafts.items) sessions)

-- the catalogue, the nodes and the settings are the same
pub record KeepsScene {X : Type 0} (old new : Coordinator X) : Type 0 where
  pub catalog : new.cluster.catalog ≡ old.cluster.catalog
  pub nodes : new.cluster.nodes ≡ old.cluster.nodes
  pub settings : new.settings ≡ old.settings

-- the sessions ran over the groups and the workers that the run uses, which came back, and their answers and retired stores were put last
pub record RunsBeside {X : Type 0} (state : X → StoreState) (sessions : List SessionDrafts) (old new : Coordinator X) (before after : List Answered) : Type 0 where
  pub keeps : KeepsScene old new
  pub returned : List (Worker X)
  pub workers : new.cluster.workers.items ≡ returned ++ drop old.cluster.nodes old.cluster.workers.items
  pub ran : HasRunSessions state old.cluster.catalog old.cluster.nodes old.settings sessions old.cluster.groups.items new.cluster.groups.items (take old.cluster.nodes old.cluster.workers.items) returned before after old.cluster.retired.items new.cluster.retired.items

-- nothing was done
pub record IsAsBefore {X : Type 0} (old new : Coordinator X) (before after : List Answered) : Type 0 where
  pub keeps : KeepsScene old new
  pub groups : new.cluster.groups.items ≡ old.cluster.groups.items
  pub workers : new.cluster.workers.items ≡ old.cluster.workers.items
  pub retired : new.cluster.retired.items ≡ old.cluster.retired.items
  pub log : after ≡ before

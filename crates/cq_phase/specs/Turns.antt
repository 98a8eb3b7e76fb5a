-- What one statement does to a coordinator, and what a phase does.
use Rattle.std.specs.Prelude.{◌≡◌, ℕ, List, [], ◌∷◌, ◌++◌}
use Rattle.std.specs.List.{AllZip}
use Rattle.cq_answer.specs.declared.answered.Answered.{Answered}
use Rattle.cq_answer.specs.declared.answered.Settings.{Settings}
use Rattle.cq_bound_laws.specs.Laws.{HasColumns}
use Rattle.cq_history.specs.Journals.{journal_in}
use Rattle.cq_history.specs.Legality.{IsLegal, IsKeyed}
use Rattle.cq_history.specs.Log.{IsAnswered}
use Rattle.cq_history.specs.Phases.{who_of}
use Rattle.cq_history.specs.Refusals.{rules}
use Rattle.cq_store.specs.Stores.{StoreState}
use Rattle.cq_store.specs.declared.worker.Worker.{Worker}
use Rattle.cq_cluster.specs.Cluster.{IsSound, HasStores, KeepsStores, run_of}
use Rattle.cq_cluster.specs.Accounts.{IsNext, AreAccounted, Retires}
use Rattle.cq_cluster.specs.Steady.{SparesSteady}
use Rattle.cq_coordinator.specs.Coordination.{environment, journals}
use Rattle.cq_coordinator.specs.declared.coordinator.Coordinator.{Coordinator}
use Rattle.cq_script.specs.declared.reader.Placed.{Placed}
use Rattle.cq_phase.specs.Phases.{by_session, IsAnswerTo, IsRunning}

-- a coordinator that the next statement of a phase may find
pub record IsReady {X : Type 0} (state : X → StoreState) (co : Coordinator X) : Type 0 where
  pub sound : IsSound state co.cluster
  pub legal : (g : ℕ) → IsLegal co.cluster.catalog g (journal_in (journals co) g)
  pub keyed : (table : ℕ) → IsKeyed co.cluster.catalog table
  pub columns : HasColumns co.cluster.catalog

-- a statement is answered so
pub record TakesTurn {X : Type 0} (state : X → StoreState) (old new : Coordinator X) (a : Answered) : Type 0 where
  pub answered : (initial : Settings) (entry : List (Worker X)) → HasStores state entry old.cluster →
      IsAnswered rules (run_of old.cluster.nodes initial entry) (environment old) (environment new) (who_of a) (journals old) (journals new) a.bound a.answer
  pub settings : a.settings ≡ old.settings
  pub sound : IsSound state new.cluster
  pub stores : KeepsStores state old.cluster new.cluster
  pub accounted : (answers : List Answered) → IsNext (who_of a) a answers → AreAccounted state old.cluster.catalog answers old.cluster.groups.items →
      AreAccounted state new.cluster.catalog (answers ++ a ∷ []) new.cluster.groups.items
  pub retires : Retires (who_of a) a.answer old.cluster.retired.items new.cluster.retired.items
  pub steady : SparesSteady state a.answer old.cluster new.cluster

-- a phase was run: each of its statements is answered, and what stood before it stands behind it
pub record RunsPhase {X : Type 0} (state : X → StoreState) (ps : List Placed) (old new : Coordinator X) (before after : List Answered) : Type 0 where
  pub more : List Answered
  pub log : after ≡ before ++ more
  pub answers : AllZip (IsAnswerTo old.cluster.catalog.tables) (by_session ps) more
  pub running : (initial : Settings) (entry : List (Worker X)) → IsRunning state initial entry old before → IsRunning state initial entry new after
  pub nodes : new.cluster.nodes ≡ old.cluster.nodes

-- none was: what stood stands
pub record RunsNothing {X : Type 0} (state : X → StoreState) (old new : Coordinator X) (before after : List Answered) : Type 0 where
  pub log : after ≡ before
  pub running : (initial : Settings) (entry : List (Worker X)) → IsRunning state initial entry old before → IsRunning state initial entry new after
  pub nodes : new.cluster.nodes ≡ old.cluster.nodes

-- The phases of a script as they run: what stands between two of them, and how one is answered.
use Rattle.std.specs.Prelude.{◌≡◌, ℕ, List, [], ◌∷◌, filter, nat_eq}
use Rattle.std.specs.List.{flat_map}
use Rattle.cq_answer.specs.declared.answered.Answered.{Answered}
use Rattle.cq_answer.specs.declared.answered.Settings.{Settings}
use Rattle.cq_catalog.specs.declared.info.TableInfo.{TableInfo}
use Rattle.cq_history.specs.Log.{IsConsistent}
use Rattle.cq_history.specs.Refusals.{rules}
use Rattle.cq_store.specs.Stores.{StoreState}
use Rattle.cq_store.specs.declared.worker.Worker.{Worker}
use Rattle.cq_cluster.specs.Cluster.{IsSound, HasStores, run_of}
use Rattle.cq_cluster.specs.Accounts.{AreAccounted, AreRetired}
use Rattle.cq_coordinator.specs.Coordination.{environment, journals}
use Rattle.cq_coordinator.specs.declared.coordinator.Coordinator.{Coordinator}
use Rattle.cq_script.specs.declared.reader.Placed.{Placed}
use Rattle.cq_session.specs.Responses.{ReadsAs}
use Rattle.cq_phase.specs.Steady.{IsSteadySoFar}

-- ---- the order in which a phase is answered

-- the statements of a session
abbrev pub of_session : ℕ → List Placed → List Placed
of_session s ps = filter (λ (p : Placed). nat_eq p.session s) ps

-- session after session; what is outside blocks has session 0
abbrev pub sessions : List ℕ
sessions = 0 ∷ 1 ∷ 2 ∷ 3 ∷ 4 ∷ 5 ∷ 6 ∷ 7 ∷ 8 ∷ []

abbrev pub by_session : List Placed → List Placed
by_session ps = flat_map (λ s. of_session s ps) sessions

-- the answer to a statement, whose text was read over these tables
pub record IsAnswerTo (tables : List TableInfo) (p : Placed) (a : Answered) : Type 0 where
  pub session : a.session ≡ p.session
  pub statement : a.statement ≡ p.number
  pub phase : a.phase ≡ p.phase
  pub reads : ReadsAs p.session a.bound a.answer p.item.text p.item.copied tables

-- ---- between two phases

-- over workers that were handed in so: the answers and the journals fit together, and the coordinator keeps its groups and stores
pub record IsRunning {X : Type 0} (state : X → StoreState) (initial : Settings) (entry : List (Worker X)) (co : Coordinator X) (answers : List Answered) : Type 0 where
  pub consistent : IsConsistent rules (run_of co.cluster.nodes initial entry) (environment co) answers (journals co)
  pub sound : IsSound state co.cluster
  pub stores : HasStores state entry co.cluster
  pub accounted : AreAccounted state co.cluster.catalog answers co.cluster.groups.items
  pub retired : AreRetired answers co.cluster.retired.items
  pub steady : IsSteadySoFar state entry co.cluster answers

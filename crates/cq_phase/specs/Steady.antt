-- The nodes whose stores were all handed in steady, and the answers of a run.
use Rattle.std.specs.Prelude.{ℕ, List}
use Rattle.std.specs.List.{AllByRecursion}
use Rattle.cq_answer.specs.declared.answered.Answered.{Answered}
use Rattle.cq_store.specs.Stores.{StoreState}
use Rattle.cq_store.specs.declared.worker.Worker.{Worker}
use Rattle.cq_cluster.specs.declared.cluster.Cluster.{Cluster}
use Rattle.cq_cluster.specs.Steady.{IsSteadyAt, NamesNode, WorkersAreSteady}

-- where all stores of a node that were handed in are steady, no answer names the node
abbrev pub NameNoSteady : {X : Type 0} → (X → StoreState) → List (Worker X) → List Answered → Type 0
NameNoSteady state entry answers = (node : ℕ) → WorkersAreSteady state node entry → AllByRecursion (λ (a : Answered). NamesNode a.answer node → ⊥) answers

-- and all stores that a cluster has of it are steady still
pub record IsSteadySoFar {X : Type 0} (state : X → StoreState) (entry : List (Worker X)) (cl : Cluster X) (answers : List Answered) : Type 0 where
  pub names : NameNoSteady state entry answers
  pub keeps : (node : ℕ) → WorkersAreSteady state node entry → IsSteadyAt state cl node

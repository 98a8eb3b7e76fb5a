-- A run's answers name no node whose stores were all handed in steady: before the first.
use Rattle.std.proofs.Common.{◌≡◌, List, [], sym, subst}
use Rattle.std.specs.List.{AllByRecursion}
use Rattle.cq_answer.specs.declared.answered.Answered.{Answered}
use Rattle.cq_store.specs.Stores.{StoreState}
use Rattle.cq_store.specs.declared.worker.Worker.{Worker}
use Rattle.cq_group.specs.declared.group.GroupState.{GroupState}
use Rattle.cq_cluster.specs.declared.cluster.Cluster.{Cluster}
use Rattle.cq_cluster.specs.declared.retired.Retired.{Retired}
use Rattle.cq_cluster.specs.Steady.{GroupsAreSteady, NamesNode, RetiredAreSteady, WorkersAreSteady}
use Rattle.cq_phase.specs.Steady.{IsSteadySoFar, NameNoSteady}

module _ {X : Type 0} (state : X → StoreState) (entry : List (Worker X)) where
  -- none is named where none is answered
  pub none_named : (answers : List Answered) → answers ≡ [] → NameNoSteady state entry answers
  none_named answers none node steady = subst (AllByRecursion (λ (a : Answered). NamesNode a.answer node → ⊥)) (sym none) tt

  pub steady_new : (cl : Cluster X) (answers : List Answered) → cl.groups.items ≡ [] → cl.workers.items ≡ entry → cl.retired.items ≡ [] → answers ≡ [] → IsSteadySoFar state entry cl answers
  steady_new cl answers groups workers retired none = record {
    names = none_named answers none;
    keeps = λ node steady. record {
      groups = subst (λ (gs : List (GroupState X)). GroupsAreSteady state node gs) (sym groups) tt;
      workers = subst (λ (ws : List (Worker X)). WorkersAreSteady state node ws) (sym workers) steady;
      retired = subst (λ (rs : List (Retired X)). RetiredAreSteady state node rs) (sym retired) tt;
    };
  }

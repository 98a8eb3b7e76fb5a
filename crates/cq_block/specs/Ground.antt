-- What the sessions of a block agree on as they share groups and workers.
use Rattle.std.specs.Prelude.{◌≡◌, ◌≤◌, ℕ, true, List}
use Rattle.cq_tree.specs.declared.journal.EntryKind.{EntryKind}
use Rattle.cq_tree.specs.declared.journal.EntryKind.TheVariants.{Write}
use Rattle.cq_catalog.specs.Contents.{Contents}
use Rattle.cq_store.specs.Stores.{StoreState}
use Rattle.cq_store.specs.declared.worker.Worker.{Worker}
use Rattle.cq_group.specs.declared.group.GroupState.{GroupState}
use Rattle.cq_group.specs.Moves.{is_of_move}
use Rattle.cq_history.specs.Legality.{IsLegalKind}
use Rattle.cq_cluster.specs.Steady.{GroupsAreSteady, WorkersAreSteady}
use Rattle.cq_shared.specs.Terms.{Terms}
use Rattle.cq_block.specs.declared.legality.Ground.{Ground}

-- the kinds of entries are those that the catalogue allows, the steady nodes those whose stores all were as the block was opened, and groups are moved to nodes that the run uses
abbrev pub terms_of : {X : Type 0} → (X → StoreState) → Ground X → Terms
terms_of state c = record {
  allows = IsLegalKind c.catalog.value;
  steady = λ node. GroupsAreSteady state node c.groups.value.items × WorkersAreSteady state node c.workers.value.items;
  reaches = λ node. node ≤ c.nodes;
}

-- each step of a move is allowed
pub step_allowed : {X : Type 0} (state : X → StoreState) (c : Ground X) (n : ℕ) (kind : EntryKind) → is_of_move kind ≡ true → (terms_of state c).allows n kind
step_allowed state c n (Write op reply) step = absurd (cc step)
step_allowed state c n kind step = tt

-- the ground over so many nodes, this catalogue, these groups and these workers
pub record IsGroundOf {X : Type 0} (n : ℕ) (c : Contents) (gs : List (GroupState X)) (ws : List (Worker X)) (ground : Ground X) : Type 0 where
  pub nodes : ground.nodes ≡ n
  pub catalog : ground.catalog.value ≡ c
  pub groups : ground.groups.value.items ≡ gs
  pub workers : ground.workers.value.items ≡ ws

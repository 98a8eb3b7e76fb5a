-- The stores of a group that isn't a reference group are on its node.
use Rattle.std.proofs.Common.{◌≡◌, ◌∙◌, ◌+◌, ◌<◌, inl, inr, ℕ, if◌then◌else◌, List, [], ◌∷◌, map, ap, arith}
use Rattle.std.specs.List.{AllByRecursion, flat_map}
use Rattle.std.proofs.lemmas.Bool.Decides.{eqb_tells}
use Rattle.cq_value.specs.declared.schema.Shape.{Shape}
use Rattle.cq_tree.specs.declared.journal.Entry.{Entry}
use Rattle.cq_store.specs.Stores.{StoreState}
use Rattle.cq_group.specs.declared.group.GroupTable.{GroupTable}
use Rattle.cq_group.specs.declared.group.GroupState.{GroupState}
use Rattle.cq_group.specs.Groups.{entries_of, stores_of, copies_of, node_at, AreReplicasFrom, IsTableKept}
use Rattle.cq_group.specs.Resting.{IsResting}
use Rattle.cq_group.proofs.Zips.{all_append}

node_there : (node place : ℕ) → 0 < node → node_at node place ≡ node
node_there node place some = elim (eqb_tells node 0) [ inl p ↦ absurd (let none = p.1 in omega (arith, some, none)) | inr p ↦ ap (λ b. if b then place + 1 else node) p.0 ]

module _ {X : Type 0} (state : X → StoreState) where
  replicas_there : (place node : ℕ) (es : List Entry) (table : ℕ) (shape : Shape) (shard : ℕ) (xs : List X) → 0 < node → AreReplicasFrom place node es table shape shard (map state xs) →
      AllByRecursion (λ (x : X). (state x).node ≡ node) xs
  replicas_there place node es table shape shard [] some h = tt
  replicas_there place node es table shape shard (x ∷ xs) some h = (h.0.of_node ∙ node_there node place some, replicas_there (place + 1) node es table shape shard xs some h.1)

  tables_there : (node copies : ℕ) (es : List Entry) (ts : List (GroupTable X)) → 0 < node → AllByRecursion (IsTableKept state node copies es) ts →
      AllByRecursion (λ (x : X). (state x).node ≡ node) (flat_map (λ (t : GroupTable X). t.stores.items) ts)
  tables_there node copies es [] some h = tt
  tables_there node copies es (t ∷ ts) some h =
      all_append (λ (x : X). (state x).node ≡ node) t.stores.items (flat_map (λ (u : GroupTable X). u.stores.items) ts)
      (replicas_there 0 node es t.table t.shape t.shard t.stores.items some h.0.replicas) (tables_there node copies es ts some h.1)

  pub stores_there : (g : GroupState X) → IsResting state g → 0 < g.node → AllByRecursion (λ (x : X). (state x).node ≡ g.node) (stores_of g)
  stores_there g h some = tables_there g.node (copies_of g) (entries_of g) g.tables.items some h.kept.tables

-- The stores of a table that is added to a group, and those of one that is taken out again.
use Rattle.std.specs.Prelude.{◌≡◌, ◌+◌, ◌<◌, ℕ, ⊤, List, [], ◌∷◌, ◌++◌, length, map}
use Rattle.std.specs.List.{AllByRecursion, AllZip}
use Rattle.cq_value.specs.Tables.{empty_table}
use Rattle.cq_tree.specs.declared.journal.Entry.{Entry}
use Rattle.cq_journal.specs.Laws.{IsNoWriteOf}
use Rattle.cq_store.specs.Stores.{StoreState, IsSpare}
use Rattle.cq_group.specs.declared.group.GroupState.{GroupState}
use Rattle.cq_group.specs.Groups.{Outline, outlines, entries_of, stores_of, node_at}
use Rattle.cq_group.specs.Calls.{Lifted, Releases}

-- a store of a new table: on its node, adopted under the shard id, empty, with nothing staged
pub record IsFresh (node shard : ℕ) (s : StoreState) : Type 0 where
  pub of_node : s.node ≡ node
  pub of_shard : s.shard ≡ shard
  pub empty : s.rows ≡ empty_table
  pub nothing : s.staged ≡ []

-- the stores from a place on
abbrev pub AreFreshFrom : ℕ → ℕ → ℕ → List StoreState → Type 0
AreFreshFrom place node shard [] = ⊤
AreFreshFrom place node shard (s ∷ ss) = IsFresh (node_at node place) shard s × AreFreshFrom (place + 1) node shard ss

-- the shard id of the first store
abbrev pub first_shard : {X : Type 0} → (X → StoreState) → List X → ℕ
first_shard state [] = 0
first_shard state (x ∷ xs) = (state x).shard

-- the stores of a new table: as many as the group's tables have, all under one shard id
pub record AreFresh {X : Type 0} (state : X → StoreState) (node copies : ℕ) (stores : List X) : Type 0 where
  pub complete : length stores ≡ copies
  pub adopted : 0 < first_shard state stores
  pub each : AreFreshFrom 0 node (first_shard state stores) (map state stores)

-- there is a table, and no entry is a write of the one that was added last
pub record EndsUnwritten {X : Type 0} (g : GroupState X) : Type 0 where
  pub others : List Outline
  pub last : Outline
  pub tables : outlines g ≡ others ++ last ∷ []
  pub unwritten : AllByRecursion (λ (e : Entry). IsNoWriteOf last.0 e.kind) (entries_of g)

-- the table that was added last is gone, and the stores that it had are these, released
pub record LosesLast {X : Type 0} (state : X → StoreState) (old new : GroupState X) (stores : List X) : Type 0 where
  pub last : Outline
  pub tables : outlines old ≡ outlines new ++ last ∷ []
  pub held : List X
  pub rest : stores_of old ≡ stores_of new ++ held
  pub released : AllZip (Lifted state Releases) held stores

-- spare stores from a place on, each on its node
abbrev pub AreSpareFrom : ℕ → ℕ → List StoreState → Type 0
AreSpareFrom place node [] = ⊤
AreSpareFrom place node (s ∷ ss) = IsSpare s × (s.node ≡ node_at node place) × AreSpareFrom (place + 1) node ss

-- What a store of chunks holds.
use Rattle.std.specs.Prelude.{ℕ, true, List, []}
use Rattle.cq_value.specs.declared.change.Change.{Change}
use Rattle.cq_store.specs.Stores.{StoreState}
use Rattle.cq_columnar.specs.Layouts.{Layout, table_of, empty_layout}

-- what a store of chunks holds: its node, its shard, its rows chunk by chunk, and the changes staged
pub record ColumnState : Type 0 where
  pub node : ℕ
  pub shard : ℕ
  pub layout : Layout
  pub staged : List Change

-- as any store's; it never fails
abbrev pub held : ColumnState → StoreState
held s = record { node = s.node; shard = s.shard; rows = table_of s.layout; staged = s.staged; faults = 0; steady = true }

-- a spare store of a node
abbrev pub spare : ℕ → ColumnState
spare node = record { node = node; shard = 0; layout = empty_layout; staged = [] }

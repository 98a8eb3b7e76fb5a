-- A shard group as far as a session knows it.
use Rattle.std.specs.Prelude.{◌≡◌, ◌<◌, ◌≤◌, ◌⊎◌, ℕ, List, [], ◌∷◌, map, IsSome}
use Rattle.cq_value.specs.Tables.{Table, rows_of}
use Rattle.cq_value.specs.declared.schema.Shape.{Shape}
use Rattle.cq_meaning.specs.Values.{Row}
use Rattle.cq_tree.specs.declared.failure.StoreFailure.{StoreFailure}
use Rattle.cq_tree.specs.declared.journal.EntryKind.{EntryKind}
use Rattle.cq_tree.specs.declared.journal.Who.{Who}
use Rattle.cq_journal.specs.Journals.{replay_from}
use Rattle.cq_journal.specs.Records.{Journal}
use Rattle.cq_journal.specs.Stations.{node_of}
use Rattle.cq_store.specs.Stores.{Rose}
use Rattle.cq_history.specs.Journals.{with_entries}
use Rattle.cq_history.specs.Faults.{IsOnNode}
use Rattle.cq_group.specs.declared.group.GroupState.{GroupState}
use Rattle.cq_group.specs.Groups.{Outline, outlines, shape_at, or_no_shape, journal_of}

-- its journal, its tables, and on how many nodes a reference group is
pub record Seen : Type 0 where
  pub journal : Journal
  pub tables : List Outline
  pub nodes : ℕ

-- a group that is held alone is known as it is
abbrev pub seen_of : {X : Type 0} → GroupState X → Seen
seen_of g = record { journal = journal_of g; tables = outlines g; nodes = g.nodes }

abbrev pub all_seen : {X : Type 0} → List (GroupState X) → List Seen
all_seen {X} groups = map (λ (g : GroupState X). seen_of g) groups

abbrev pub journals_in : List Seen → List Journal
journals_in groups = map (λ (s : Seen). s.journal) groups

-- with these entries of a statement behind it
abbrev pub with_kinds : Who → List EntryKind → Seen → Seen
with_kinds who kinds s = record s { journal = with_entries who kinds s.journal }

-- ---- its tables

abbrev pub HasTable : Seen → ℕ → Type 0
HasTable s table = IsSome (shape_at s.tables table)

abbrev pub shape_seen : Seen → ℕ → Shape
shape_seen s table = or_no_shape (shape_at s.tables table)

-- what its journal leaves of a table
abbrev pub held : Seen → ℕ → Table
held s table = replay_from table (shape_seen s table) (s.journal.base table) s.journal.entries

abbrev pub captured : Seen → ℕ → ℕ × List Row
captured s table = (table, rows_of (held s table))

-- ---- its stores

-- where it is a reference group, this is one of its nodes
abbrev pub IsNear : ℕ → Seen → Type 0
IsNear near s = node_of s.journal ≡ 0 → (0 < near) × (near ≤ s.nodes)

-- the shard is one of these tables'
abbrev pub IsShardOf : List Outline → ℕ → Type 0
IsShardOf [] shard = ⊥
IsShardOf (o ∷ tables) shard = (shard ≡ o.2) ⊎ IsShardOf tables shard

-- a store of the group failed
pub record FailsIn (s : Seen) (f : StoreFailure) : Type 0 where
  pub shard : IsShardOf s.tables f.shard
  pub node : IsOnNode s.nodes s.journal f.node
  pub rose : Rose f.before f.after

-- What a shard group keeps between two calls, and what a staged write adds to it.
use Rattle.std.specs.Prelude.{◌≡◌, ◌+◌, ◌<◌, ◌≤◌, ℕ, ⊤, IsTrue, Bool, true, false, List, [], ◌∷◌, length, map, nat_eq, if◌then◌else◌, IsSome, Option, Some, None, vec_capacity}
use Rattle.std.specs.List.{AllByRecursion, flat_map}
use Rattle.cq_value.specs.declared.schema.Shape.{Shape}
use Rattle.cq_value.specs.Changes.{applied}
use Rattle.cq_value.specs.Tables.{empty_table}
use Rattle.cq_tree.specs.declared.journal.Entry.{Entry}
use Rattle.cq_tree.specs.declared.journal.EntryKind.{EntryKind}
use Rattle.cq_tree.specs.declared.journal.EntryKind.TheVariants.{Read, Write, MoveStart, CatchUp, Cutover, MoveStop}
use Rattle.cq_tree.specs.declared.write.Reply.{Reply}
use Rattle.cq_tree.specs.declared.write.ShardOp.{ShardOp}
use Rattle.cq_meaning.specs.Effects.{effect, reply_of, table_of, inserts}
use Rattle.cq_journal.specs.Journals.{most_ids, replay, EachReplied}
use Rattle.cq_journal.specs.Records.{Journal}
use Rattle.cq_store.specs.Stores.{StoreState}
use Rattle.cq_group.specs.Moves.{IsMoveKept, KeepsChanges}
use Rattle.cq_group.specs.declared.group.GroupTable.{GroupTable}
use Rattle.cq_group.specs.declared.group.GroupState.{GroupState}

-- the group's entries
abbrev pub entries_of : {X : Type 0} → GroupState X → List Entry
entries_of g = g.journal.entries.list

-- its journal, whose entries began with nothing
abbrev pub journal_of : {X : Type 0} → GroupState X → Journal
journal_of g = record { number = g.journal.group; opening = g.journal.opening; base = λ table. empty_table; entries = entries_of g }

-- the tables of a group, without their stores: number, shape, shard id and number of stores
abbrev pub Outline : Type 0
Outline = ℕ × Shape × ℕ × ℕ

abbrev pub outline : {X : Type 0} → GroupTable X → Outline
outline t = (t.table, t.shape, t.shard, length t.stores.items)

abbrev pub outlines : {X : Type 0} → GroupState X → List Outline
outlines g = map outline g.tables.items

-- the shape of a table by its number, in a list of outlines
abbrev pub shape_at : List Outline → ℕ → Option Shape
shape_at [] table = None
shape_at (o ∷ os) table = if nat_eq o.0 table then Some o.1 else shape_at os table

abbrev pub or_no_shape : Option Shape → Shape
or_no_shape None = record { key = []; kinds = [] }
or_no_shape (Some shape) = shape

abbrev pub shapes : {X : Type 0} → GroupState X → ℕ → Shape
shapes g table = or_no_shape (shape_at (outlines g) table)

-- whether the table is in the group
abbrev pub HasTable : {X : Type 0} → GroupState X → ℕ → Type 0
HasTable g table = IsSome (shape_at (outlines g) table)

-- the node of the store at a place in a table's list: the group's, or in a reference group the nodes 1, 2 and so on
abbrev pub node_at : ℕ → ℕ → ℕ
node_at node place = if nat_eq node 0 then place + 1 else node

-- how many stores each table has
abbrev pub copies_of : {X : Type 0} → GroupState X → ℕ
copies_of g = if nat_eq g.node 0 then g.nodes else 1

-- a store of the table holds what the entries leave of it, on its node and under its shard id
pub record IsReplica (node : ℕ) (entries : List Entry) (table : ℕ) (shape : Shape) (shard : ℕ) (s : StoreState) : Type 0 where
  pub of_node : s.node ≡ node
  pub of_shard : s.shard ≡ shard
  pub holds : s.rows ≡ replay table shape entries

-- the stores from a place on
abbrev pub AreReplicasFrom : ℕ → ℕ → List Entry → ℕ → Shape → ℕ → List StoreState → Type 0
AreReplicasFrom place node entries table shape shard [] = ⊤
AreReplicasFrom place node entries table shape shard (s ∷ ss) =
    IsReplica (node_at node place) entries table shape shard s × AreReplicasFrom (place + 1) node entries table shape shard ss

-- a table's next id is its replay's, and it has all its stores, which hold the replay
pub record IsTableKept {X : Type 0} (state : X → StoreState) (node copies : ℕ) (entries : List Entry) (t : GroupTable X) : Type 0 where
  pub numbered : t.next ≡ (replay t.table t.shape entries).next
  pub ids : t.next ≤ most_ids
  pub some_shard : 0 < t.shard
  pub some_store : 0 < copies
  pub complete : length t.stores.items ≡ copies
  pub replicas : AreReplicasFrom 0 node entries t.table t.shape t.shard (map state t.stores.items)

-- no two tables of the group have one number
abbrev pub AreDistinct : List Outline → Type 0
AreDistinct [] = ⊤
AreDistinct (o ∷ os) = (shape_at os o.0 ≡ None) × AreDistinct os

-- a write's table is among these
abbrev pub IsNamed : List Outline → EntryKind → Type 0
IsNamed os Read = ⊤
IsNamed os (Write op reply) = IsSome (shape_at os (table_of op))
IsNamed os (MoveStart node) = ⊤
IsNamed os CatchUp = ⊤
IsNamed os Cutover = ⊤
IsNamed os MoveStop = ⊤

-- the group's stores, in order of its tables
abbrev pub stores_of : {X : Type 0} → GroupState X → List X
stores_of {X} g = flat_map (λ (t : GroupTable X). t.stores.items) g.tables.items

-- what a group keeps, whatever is staged: each reply in its journal is that of the write's effect on a table that is there,
-- each table has its stores, which hold the journal's replay, there is room to hand the stores back, and a move is in flight
-- where the journal says so
pub record IsKept {X : Type 0} (state : X → StoreState) (g : GroupState X) : Type 0 where
  pub replied : EachReplied (shapes g) (entries_of g)
  pub named : AllByRecursion (λ (e : Entry). IsNamed (outlines g) e.kind) (entries_of g)
  pub tables : AllByRecursion (IsTableKept state g.node (copies_of g) (entries_of g)) g.tables.items
  pub distinct : AreDistinct (outlines g)
  pub room : length (stores_of g) ≤ vec_capacity g.room
  pub unused : g.room.items ≡ []
  pub move : IsMoveKept (shapes g) (journal_of g) g.node g.journal.entries.room g.moving

-- nothing is staged in a table's stores
abbrev pub IsTableQuiet : {X : Type 0} → (X → StoreState) → GroupTable X → Type 0
IsTableQuiet {X} state t = AllByRecursion (λ (x : X). (state x).staged ≡ []) t.stores.items

abbrev pub IsQuiet : {X : Type 0} → (X → StoreState) → GroupState X → Type 0
IsQuiet state g = AllByRecursion (IsTableQuiet state) g.tables.items

-- a write is staged: in each store of its table what is staged makes its effect, and in the other tables nothing is staged
abbrev pub IsStagedIn : Bool → ShardOp → Shape → StoreState → Type 0
IsStagedIn true op shape s = applied s.rows s.staged ≡ effect op s.rows shape
IsStagedIn false op shape s = s.staged ≡ []

abbrev pub IsTableStaged : {X : Type 0} → (X → StoreState) → ShardOp → GroupTable X → Type 0
IsTableStaged {X} state op t = AllByRecursion (λ (x : X). IsStagedIn (nat_eq t.table (table_of op)) op t.shape (state x)) t.stores.items

-- a write is ready to be committed with this reply: there is room for its entry and one more, the reply is that of its effect,
-- its ids suffice, it is staged, and a move in flight has its row changes
pub record IsReady {X : Type 0} (state : X → StoreState) (g : GroupState X) (op : ShardOp) (reply : Reply) : Type 0 where
  pub room : 1 < g.journal.entries.room
  pub there : HasTable g (table_of op)
  pub replied : reply ≡ reply_of op (replay (table_of op) (shapes g (table_of op)) (entries_of g)) (shapes g (table_of op))
  pub ids : (replay (table_of op) (shapes g (table_of op)) (entries_of g)).next + length (inserts op) ≤ most_ids
  pub staged : AllByRecursion (IsTableStaged state op) g.tables.items
  pub logged : KeepsChanges op (replay (table_of op) (shapes g (table_of op)) (entries_of g)) (shapes g (table_of op)) g.moving

-- every store is steady
abbrev pub IsSteady : {X : Type 0} → (X → StoreState) → GroupState X → Type 0
IsSteady {X} state g = AllByRecursion (λ (t : GroupTable X). AllByRecursion (λ (x : X). IsTrue (state x).steady) t.stores.items) g.tables.items

-- what no call but `open` changes: the group's number, its opening, its nodes; and what no call but `add_table` does: its tables
pub record IsSameGroup {X : Type 0} (old new : GroupState X) : Type 0 where
  pub number : new.journal.group ≡ old.journal.group
  pub opening : new.journal.opening ≡ old.journal.opening
  pub node : new.node ≡ old.node
  pub nodes : new.nodes ≡ old.nodes
  pub tables : outlines new ≡ outlines old

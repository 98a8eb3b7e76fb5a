-- What comes to another node in a move of a shard group.
use Rattle.std.specs.Prelude.{◌≡◌, ◌≢◌, ◌<◌, ◌≤◌, ◌⊎◌, ℕ, ⊤, Option, Some, None, List, [], ◌∷◌, length, sum_by, vec_capacity}
use Rattle.std.specs.List.{AllByRecursion, AllZip, flat_map}
use Rattle.cq_value.specs.declared.change.Change.{Change}
use Rattle.cq_value.specs.Tables.{empty_table}
use Rattle.cq_value.specs.Changes.{applied, Fit}
use Rattle.cq_tree.specs.declared.journal.Entry.{Entry}
use Rattle.cq_journal.specs.Journals.{replay}
use Rattle.cq_journal.specs.Stations.{moving_of}
use Rattle.cq_change.specs.declared.log.TableChange.{TableChange}
use Rattle.cq_change.specs.Logs.{changes_in}
use Rattle.cq_store.specs.Stores.{StoreState, Becomes, IsSpare}
use Rattle.cq_group.specs.declared.group.GroupState.{GroupState}
use Rattle.cq_group.specs.declared.group.GroupTable.{GroupTable}
use Rattle.cq_group.specs.declared.group.GroupError.{GroupError}
use Rattle.cq_group.specs.declared.group.GroupError.TheVariants as error
use Rattle.cq_group.specs.declared.incoming.IncomingTable.{IncomingTable}
use Rattle.cq_group.specs.declared.incoming.Incoming.{Incoming}
use Rattle.cq_group.specs.declared.start.MoveWhy.{MoveWhy}
use Rattle.cq_group.specs.declared.start.MoveWhy.TheVariants as why
use Rattle.cq_group.specs.declared.moving.Moving.{Moving}
use Rattle.cq_group.specs.Groups.{Outline, journal_of, stores_of}
use Rattle.cq_group.specs.Calls.{Rests, Lifted, Blames, Takes, first_rows}

-- a store that a table's shard comes to: on its node, under the shard's id, with nothing staged; the pending changes fit its rows, and applied give what the entries leave of the table
pub record IsArriving (node : ℕ) (entries : List Entry) (o : Outline) (pending : List Change) (s : StoreState) : Type 0 where
  pub of_node : s.node ≡ node
  pub of_shard : s.shard ≡ o.2
  pub adopted : 0 < s.shard
  pub nothing : s.staged ≡ []
  pub fit : Fit s.rows pending
  pub gives : applied s.rows pending ≡ replay o.0 o.1 entries

-- a table of the group, with one such store
pub record IsIncomingTable {X : Type 0} (state : X → StoreState) (node : ℕ) (entries : List Entry) (o : Outline) (t : IncomingTable X) : Type 0 where
  pub table : t.table ≡ o.0
  pub shard : t.shard ≡ o.2
  pub one : length t.stores.items ≡ 1
  pub stores : AllByRecursion (λ (x : X). IsArriving node entries o t.pending (state x)) t.stores.items

-- the stores that come in, in order of the tables
abbrev pub arriving : {X : Type 0} → Incoming X → List X
arriving {X} i = flat_map (λ (t : IncomingTable X). t.stores.items) i.tables.items

-- each table of the group comes to a node, up to these entries, and there is room to hand the stores back
pub record IsIncoming {X : Type 0} (state : X → StoreState) (node : ℕ) (entries : List Entry) (os : List Outline) (i : Incoming X) : Type 0 where
  pub tables : AllZip (IsIncomingTable state node entries) os i.tables.items
  pub room : length (arriving i) ≤ vec_capacity i.room
  pub unused : i.room.items ≡ []

-- nothing is pending
abbrev pub IsSettled : {X : Type 0} → Incoming X → Type 0
IsSettled {X} i = AllByRecursion (λ (t : IncomingTable X). t.pending ≡ []) i.tables.items

-- the pending changes can be staged in each store
abbrev pub CanSettle : {X : Type 0} → (X → StoreState) → Incoming X → Type 0
CanSettle {X} state i = AllByRecursion (λ (t : IncomingTable X). AllByRecursion (λ (x : X). Takes t.pending (state x)) t.stores.items) i.tables.items

-- changes are made in a store
abbrev pub Makes : List Change → StoreState → StoreState → Type 0
Makes changes old new = Becomes old (record old { rows = applied old.rows changes; staged = [] }) new

-- a table whose pending changes were made in its stores
pub record IsSettledTable {X : Type 0} (state : X → StoreState) (old new : IncomingTable X) : Type 0 where
  pub table : new.table ≡ old.table
  pub shard : new.shard ≡ old.shard
  pub pending : new.pending ≡ []
  pub stores : AllZip (Lifted state (Makes old.pending)) old.stores.items new.stores.items

-- a table as it was, but for its stores' counts of faults
pub record IsWaitingTable {X : Type 0} (state : X → StoreState) (old new : IncomingTable X) : Type 0 where
  pub table : new.table ≡ old.table
  pub shard : new.shard ≡ old.shard
  pub pending : new.pending ≡ old.pending
  pub stores : AllZip (Lifted state Rests) old.stores.items new.stores.items

abbrev pub IsSettledOrWaits : {X : Type 0} → (X → StoreState) → IncomingTable X → IncomingTable X → Type 0
IsSettledOrWaits state old new = IsSettledTable state old new ⊎ IsWaitingTable state old new

-- a table whose changes in a log are pending
abbrev pub with_due : {X : Type 0} → List TableChange → IncomingTable X → IncomingTable X
with_due log t = record t { pending = changes_in t.table log }

-- how many rows the entries leave of the tables
abbrev pub rows_in : List Entry → List Outline → ℕ
rows_in entries os = sum_by (λ (o : Outline). length (replay o.0 o.1 entries).pairs) os

-- a table that will come to another node, whose store isn't there yet: the pending changes make of an empty table what the entries leave
pub record IsLeaving {X : Type 0} (entries : List Entry) (o : Outline) (t : IncomingTable X) : Type 0 where
  pub table : t.table ≡ o.0
  pub shard : t.shard ≡ o.2
  pub fit : Fit empty_table t.pending
  pub gives : applied empty_table t.pending ≡ replay o.0 o.1 entries
  pub empty : t.stores.items ≡ []
  pub room : 0 < vec_capacity t.stores

-- spare stores of a node
abbrev pub AreSpareOn : {X : Type 0} → (X → StoreState) → ℕ → List X → Type 0
AreSpareOn {X} state node stores = AllByRecursion (λ (x : X). IsSpare (state x) × ((state x).node ≡ node)) stores

-- a store adopted under some shard's id
abbrev pub Adopts : StoreState → StoreState → Type 0
Adopts old new = Becomes old (record old { shard = new.shard }) new

-- what comes to another node of a table, without its store: the pending changes make of an empty table the rows of the first store
pub record IsOutgoing {X : Type 0} (state : X → StoreState) (t : GroupTable X) (u : IncomingTable X) : Type 0 where
  pub table : u.table ≡ t.table
  pub shard : u.shard ≡ t.shard
  pub fit : Fit empty_table u.pending
  pub gives : applied empty_table u.pending ≡ first_rows state t.stores.items
  pub empty : u.stores.items ≡ []
  pub room : 0 < vec_capacity u.stores

-- a table that has got a store, which adopted its shard's id
pub record IsFilled {X : Type 0} (state : X → StoreState) (x : X) (old new : IncomingTable X) : Type 0 where
  pub store : X
  pub table : new.table ≡ old.table
  pub shard : new.shard ≡ old.shard
  pub pending : new.pending ≡ old.pending
  pub stores : new.stores.items ≡ store ∷ []
  pub adopted : Becomes (state x) (record (state x) { shard = old.shard }) (state store)

-- tables that have got these stores, one each
abbrev pub AreFilled : {X : Type 0} → (X → StoreState) → List X → List (IncomingTable X) → List (IncomingTable X) → Type 0
AreFilled state [] [] [] = ⊤
AreFilled state (x ∷ xs) (t ∷ ts) (u ∷ us) = IsFilled state x t u × AreFilled state xs ts us
AreFilled state _ _ _ = ⊥

-- a move of the group from a node to another can begin: none is in flight, the group is on that node, and the other is another
pub record CanStart {X : Type 0} (g : GroupState X) (to from : ℕ) : Type 0 where
  pub free : moving_of (journal_of g) ≡ None
  pub there : g.node ≡ from
  pub other : from ≢ to

-- why a move didn't begin, in this order
abbrev pub RefusesMove : {X : Type 0} → (X → StoreState) → GroupState X → GroupState X → ℕ → ℕ → MoveWhy → Type 0
RefusesMove state old new to from (why.Moving by) = moving_of (journal_of old) ≡ Some by
RefusesMove state old new to from (why.NotThere node) = (moving_of (journal_of old) ≡ None) × (node ≡ old.node) × (node ≢ from)
RefusesMove state old new to from (why.SameNode node) = (moving_of (journal_of old) ≡ None) × (node ≡ old.node) × (node ≡ from) × (node ≡ to)
RefusesMove state old new to from (why.Worker failure) = CanStart old to from × Blames state (error.Worker failure) (stores_of old) (stores_of new)
RefusesMove state old new to from why.Memory = CanStart old to from

-- what an error tells of a move that it kept from beginning
abbrev pub why_told : GroupError → MoveWhy
why_told (error.Worker failure) = why.Worker failure
why_told error.Memory = why.Memory

-- what comes in is as it was
pub record IsSameIncoming {X : Type 0} (old new : Incoming X) : Type 0 where
  pub tables : new.tables.items ≡ old.tables.items
  pub due : new.due ≡ old.due
  pub room : new.room ≡ old.room

-- the log of a move
abbrev pub move_log : Option Moving → List TableChange
move_log None = []
move_log (Some m) = m.log.list

-- tables with the stores that came in for them, and what came in with the stores that the tables had
abbrev pub with_stores : {X : Type 0} → List (GroupTable X) → List (IncomingTable X) → List (GroupTable X)
with_stores [] us = []
with_stores (t ∷ ts) [] = t ∷ ts
with_stores (t ∷ ts) (u ∷ us) = record t { stores = u.stores } ∷ with_stores ts us

abbrev pub without_stores : {X : Type 0} → List (GroupTable X) → List (IncomingTable X) → List (IncomingTable X)
without_stores [] us = us
without_stores (t ∷ ts) [] = []
without_stores (t ∷ ts) (u ∷ us) = record u { stores = t.stores } ∷ without_stores ts us

-- a group that went to another node: its number, its opening and its nodes stay
pub record IsExchanged {X : Type 0} (old new : GroupState X) : Type 0 where
  pub number : new.journal.group ≡ old.journal.group
  pub opening : new.journal.opening ≡ old.journal.opening
  pub nodes : new.nodes ≡ old.nodes

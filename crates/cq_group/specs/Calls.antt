-- What a call makes of the stores of a group.
use Rattle.std.specs.Prelude.{◌≡◌, ◌<◌, ◌≤◌, ◌⊎◌, ℕ, ⊤, false, List, [], ◌∷◌, length, take, drop, nat_eq, if◌then◌else◌}
use Rattle.std.specs.List.{AllZip, AllByRecursion}
use Rattle.cq_value.specs.declared.change.Change.{Change}
use Rattle.cq_value.specs.declared.value.Value.{Value}
use Rattle.cq_value.specs.Tables.{Table, IsAscending, empty_table, rows_of}
use Rattle.cq_value.specs.Changes.{applied, Fit}
use Rattle.cq_tree.specs.declared.failure.StoreFailure.{StoreFailure}
use Rattle.cq_tree.specs.declared.write.ShardOp.{ShardOp}
use Rattle.cq_meaning.specs.Effects.{inserts, table_of, IsSafeWrite}
use Rattle.cq_journal.specs.Journals.{replay}
use Rattle.cq_journal.specs.Replies.{IsMade, IsRefusal}
use Rattle.cq_store.specs.Stores.{StoreState, Becomes, Rose}
use Rattle.cq_store.specs.declared.store.StoreError.{StoreError}
use Rattle.cq_store.specs.declared.store.StoreError.TheVariants as call
use Rattle.cq_tree.specs.declared.write.Reply.{Reply}
use Rattle.cq_tree.specs.declared.write.Reply.TheVariants.{Count, Duplicate, OutOfRange}
use Rattle.cq_group.specs.Moves.{IsSameMove}
use Rattle.cq_group.specs.Groups.{stores_of, IsTableQuiet, IsQuiet, IsReady, IsSameGroup, IsSteady, shapes, entries_of}
use Rattle.cq_group.specs.declared.group.GroupError.{GroupError}
use Rattle.cq_group.specs.declared.group.GroupError.TheVariants.{Worker, Memory}
use Rattle.cq_group.specs.declared.group.Staged.{Staged}
use Rattle.cq_group.specs.declared.group.Staged.TheVariants.{Ready, Refused, NoIds}
use Rattle.cq_group.specs.declared.group.GroupTable.{GroupTable}
use Rattle.cq_group.specs.declared.group.GroupState.{GroupState}

-- nothing but the count of faults changes
abbrev pub Rests : StoreState → StoreState → Type 0
Rests old new = Becomes old old new

-- the staged changes are dropped
abbrev pub Discards : StoreState → StoreState → Type 0
Discards old new = Becomes old (record old { staged = [] }) new

-- the staged changes are made
abbrev pub Commits : StoreState → StoreState → Type 0
Commits old new = Becomes old (record old { rows = applied old.rows old.staged; staged = [] }) new

-- the store is spare again
abbrev pub Releases : StoreState → StoreState → Type 0
Releases old new = Becomes old (record old { shard = 0; rows = empty_table; staged = [] }) new

-- these changes are staged
abbrev pub Stages : List Change → StoreState → StoreState → Type 0
Stages changes old new = Becomes old (record old { staged = changes }) new

-- the rows stay, whatever is staged
abbrev pub KeepsRows : StoreState → StoreState → Type 0
KeepsRows old new = Becomes old (record old { staged = new.staged }) new

-- the store is on its node, under its shard id, and its count of faults didn't fall
abbrev pub GoesOn : StoreState → StoreState → Type 0
GoesOn old new = Becomes old (record old { rows = new.rows; staged = new.staged }) new

-- two stores whose states are related
abbrev pub Lifted : {X : Type 0} → (X → StoreState) → (StoreState → StoreState → Type 0) → X → X → Type 0
Lifted state R x y = R (state x) (state y)

-- a table as it was, but for its next id and its stores, which are related one by one
pub record IsSameTable {X : Type 0} (R : X → X → Type 0) (old new : GroupTable X) : Type 0 where
  pub table : new.table ≡ old.table
  pub shape : new.shape ≡ old.shape
  pub shard : new.shard ≡ old.shard
  pub stores : AllZip R old.stores.items new.stores.items

-- a table as it was, with its next id, but for its stores
pub record IsRestingTable {X : Type 0} (R : X → X → Type 0) (old new : GroupTable X) : Type 0 where
  pub same : IsSameTable R old new
  pub next : new.next ≡ old.next

-- a group as it was, with its move, but for its journal and its stores, which are related one by one
pub record IsSameBut {X : Type 0} (R : X → X → Type 0) (old new : GroupState X) : Type 0 where
  pub node : new.node ≡ old.node
  pub nodes : new.nodes ≡ old.nodes
  pub room : new.room ≡ old.room
  pub moving : IsSameMove old.moving new.moving
  pub tables : AllZip (IsRestingTable R) old.tables.items new.tables.items

-- a call leaves the group as it is, but for its entries: each of its stores goes on, and so a steady group stays steady
pub record GroupGoesOn {X : Type 0} (state : X → StoreState) (old new : GroupState X) : Type 0 where
  pub same : IsSameGroup old new
  pub stores : AllZip (Lifted state GoesOn) (stores_of old) (stores_of new)
  pub steady : IsSteady state old → IsSteady state new

-- R holds of the elements at some place of two lists
abbrev pub SomeZip : {X : Type 0} → (X → X → Type 0) → List X → List X → Type 0
SomeZip R [] ys = ⊥
SomeZip R (x ∷ xs) [] = ⊥
SomeZip R (x ∷ xs) (y ∷ ys) = R x y ⊎ SomeZip R xs ys

-- a store that isn't steady failed so meanwhile
pub record Failed (failure : StoreFailure) (old new : StoreState) : Type 0 where
  pub of_node : old.node ≡ failure.node
  pub of_shard : old.shard ≡ failure.shard
  pub unsteady : old.steady ≡ false
  pub from : old.faults ≤ failure.before
  pub rose : Rose failure.before failure.after
  pub to : failure.after ≤ new.faults

-- where an error names a worker, it is one of the stores, and failed
abbrev pub Blames : {X : Type 0} → (X → StoreState) → GroupError → List X → List X → Type 0
Blames state Memory old new = ⊤
Blames state (Worker failure) old new = SomeZip (Lifted state (Failed failure)) old new

-- what an error of a call on a store tells: which store failed, and how its count of faults rose
abbrev pub error_told : ℕ → StoreState → StoreError → GroupError
error_told before s call.Failed = Worker (record { node = s.node; shard = s.shard; before = before; after = s.faults })
error_told before s call.Memory = Memory

-- changes can be staged in a store: it keeps a shard, nothing is staged, and they fit its rows
pub record Takes (changes : List Change) (s : StoreState) : Type 0 where
  pub shard : 0 < s.shard
  pub nothing : s.staged ≡ []
  pub fits : Fit s.rows changes

-- where an error names a worker, it is on this node
abbrev pub IsOn : ℕ → GroupError → Type 0
IsOn node Memory = ⊤
IsOn node (Worker failure) = failure.node ≡ node

-- the node that a read is made on: the group's, or in a reference group the near one
abbrev pub node_read : {X : Type 0} → GroupState X → ℕ → ℕ
node_read g near = if nat_eq g.node 0 then near else g.node

-- a table's number and the rows that the group's entries leave of it
abbrev pub captured : {X : Type 0} → GroupState X → ℕ → ℕ × List (List Value)
captured g table = (table, rows_of (replay table (shapes g table) (entries_of g)))

-- the next row id that a group's entries leave of a table
abbrev pub next_id : {X : Type 0} → GroupState X → ℕ → ℕ
next_id g table = (replay table (shapes g table) (entries_of g)).next

-- a group's tables can compute a write: over each row that the entries leave of its table
abbrev pub CanCompute : {X : Type 0} → GroupState X → ShardOp → Type 0
CanCompute g op = IsSafeWrite op (replay (table_of op) (shapes g (table_of op)) (entries_of g)).pairs

-- what staging a write came to: it is made and ready, or it is refused, or its ids don't suffice; nothing is staged for a
-- write that isn't made
abbrev pub IsStaged : {X : Type 0} → (X → StoreState) → GroupState X → ShardOp → Staged → Type 0
IsStaged state g op (Ready reply) = IsMade reply × IsReady state g op reply
IsStaged state g op (Refused reply) = IsRefusal reply × IsReady state g op reply × IsQuiet state g
IsStaged state g op NoIds = IsQuiet state g

-- the rows of the first store
abbrev pub first_rows : {X : Type 0} → (X → StoreState) → List X → Table
first_rows state [] = empty_table
first_rows state (x ∷ xs) = (state x).rows

-- a table's next id is its stores', which keep a shard, hold the same rows under ids that ascend, and have nothing staged
pub record AreAlike {X : Type 0} (state : X → StoreState) (t : GroupTable X) : Type 0 where
  pub some_store : 0 < length t.stores.items
  pub numbered : t.next ≡ (first_rows state t.stores.items).next
  pub shards : AllByRecursion (λ (x : X). 0 < (state x).shard) t.stores.items
  pub rows : AllByRecursion (λ (x : X). (state x).rows ≡ first_rows state t.stores.items) t.stores.items
  pub ascends : IsAscending (first_rows state t.stores.items).pairs (first_rows state t.stores.items).next
  pub nothing : IsTableQuiet state t

-- how many row ids a write takes that is replied so
abbrev pub ids_taken : ShardOp → Reply → ℕ
ids_taken op (Count n) = length (inserts op)
ids_taken op Duplicate = 0
ids_taken op OutOfRange = 0

-- the first n elements are related to what they became, and the others are as before
pub record IsThrough {X : Type 0} (R : X → X → Type 0) (n : ℕ) (xs ys : List X) : Type 0 where
  pub done : AllZip R (take n xs) (take n ys)
  pub rest : drop n ys ≡ drop n xs

-- A move of a shard group that is in flight, and the row changes since its last entry.
use Rattle.std.specs.Prelude.{◌≡◌, ◌<◌, ◌≤◌, ℕ, ⊤, Bool, true, false, if◌then◌else◌, List, [], ◌∷◌, ◌++◌, length, fold, Option, Some, None, IfSome}
use Rattle.std.specs.List.{sum_by}
use Rattle.cq_value.specs.declared.schema.Shape.{Shape}
use Rattle.cq_value.specs.declared.change.Change.{Change}
use Rattle.cq_tree.specs.declared.journal.Entry.{Entry}
use Rattle.cq_tree.specs.declared.journal.EntryKind.{EntryKind}
use Rattle.cq_tree.specs.declared.journal.EntryKind.TheVariants.{Read, Write, MoveStart, CatchUp, Cutover, MoveStop}
use Rattle.cq_tree.specs.declared.write.Reply.{Reply}
use Rattle.cq_tree.specs.declared.write.Reply.TheVariants.{Count, Duplicate, OutOfRange}
use Rattle.cq_tree.specs.declared.write.ShardOp.{ShardOp}
use Rattle.cq_value.specs.Tables.{Table}
use Rattle.cq_value.specs.Changes.{applied, Fit}
use Rattle.cq_meaning.specs.Effects.{effect, row_changes}
use Rattle.cq_journal.specs.Journals.{replay}
use Rattle.cq_journal.specs.Records.{Journal}
use Rattle.cq_journal.specs.Stations.{station_of, moving_of}
use Rattle.cq_change.specs.declared.log.TableChange.{TableChange}
use Rattle.cq_change.specs.Logs.{logged, Leads}
use Rattle.cq_group.specs.declared.moving.Moving.{Moving}

-- an entry with which a move begins, goes on or ends
abbrev pub is_of_move : EntryKind → Bool
is_of_move Read = false
is_of_move (Write op reply) = false
is_of_move (MoveStart node) = true
is_of_move CatchUp = true
is_of_move Cutover = true
is_of_move MoveStop = true

-- entries, those up to the last one of a move and those since
pub record Parted : Type 0 where
  pub upto : List Entry
  pub since : List Entry

abbrev pub with_entry : Parted → Entry → Parted
with_entry p e = if is_of_move e.kind then record { upto = p.upto ++ (p.since ++ e ∷ []); since = [] } else record { upto = p.upto; since = p.since ++ e ∷ [] }

abbrev pub parted : List Entry → Parted
parted es = fold with_entry (record { upto = []; since = [] }) es

-- the entries up to the last one of a move
abbrev pub upto_move : List Entry → List Entry
upto_move es = (parted es).upto

-- the entries since then
abbrev pub since_move : List Entry → List Entry
since_move es = (parted es).since

-- how many rows a write with this reply changed
abbrev pub rows_counted : Reply → ℕ
rows_counted (Count n) = n
rows_counted Duplicate = 0
rows_counted OutOfRange = 0

abbrev pub rows_changed : EntryKind → ℕ
rows_changed Read = 0
rows_changed (Write op reply) = rows_counted reply
rows_changed (MoveStart node) = 0
rows_changed CatchUp = 0
rows_changed Cutover = 0
rows_changed MoveStop = 0

-- how many rows the writes since a move's last entry changed
abbrev pub changed_since : List Entry → ℕ
changed_since es = sum_by (λ (e : Entry). rows_changed e.kind) (since_move es)

-- a log has the row changes since a move's last entry: from what each table held then they lead to what it holds
pub record IsLogged (shapes : ℕ → Shape) (es : List Entry) (log : List TableChange) : Type 0 where
  pub leads : (table : ℕ) → Leads table log (replay table (shapes table) (upto_move es)) (replay table (shapes table) es)
  pub counted : length log ≡ changed_since es

-- a move is in flight as the journal says, of a group that isn't a reference group; its log is kept, and there is room for one more entry
pub record IsInFlight (shapes : ℕ → Shape) (j : Journal) (node room : ℕ) (m : Moving) : Type 0 where
  pub mover : moving_of j ≡ Some m.who
  pub target : (station_of j).target ≡ m.to
  pub somewhere : 0 < m.to
  pub distributed : 0 < node
  pub logged : IsLogged shapes j.entries m.log.list
  pub slot : 0 < room

-- where the journal says so, a move is in flight
abbrev pub IsMoveKept : (ℕ → Shape) → Journal → ℕ → ℕ → Option Moving → Type 0
IsMoveKept shapes j node room None = moving_of j ≡ None
IsMoveKept shapes j node room (Some m) = IsInFlight shapes j node room m

-- the move is the same, with the same log
pub record HasSameLog (old new : Moving) : Type 0 where
  pub who : new.who ≡ old.who
  pub to : new.to ≡ old.to
  pub log : new.log.list ≡ old.log.list

abbrev pub IsSameMove : Option Moving → Option Moving → Type 0
IsSameMove None None = ⊤
IsSameMove None (Some new) = ⊥
IsSameMove (Some old) None = ⊥
IsSameMove (Some old) (Some new) = HasSameLog old new

-- there is room for so many changes in the log of a move in flight
abbrev pub HasRoom : ℕ → Option Moving → Type 0
HasRoom n None = ⊤
HasRoom n (Some m) = n ≤ m.log.room

-- a move in flight keeps these changes of a staged write, and there is room for them
abbrev pub WillLog : List Change → Option Moving → Type 0
WillLog changes None = ⊤
WillLog changes (Some m) = (m.staged ≡ Some changes) × (length changes ≤ m.log.room)

-- it keeps the row changes of a staged write, which fit the table and make of it what the write does
pub record KeepsChanges (op : ShardOp) (t : Table) (shape : Shape) (moving : Option Moving) : Type 0 where
  pub changes : List Change
  pub listed : changes ≡ row_changes op t shape
  pub fitting : Fit t changes
  pub changed : applied t changes ≡ effect op t shape
  pub kept : WillLog changes moving

abbrev pub CanLog : Option Moving → Type 0
CanLog None = ⊤
CanLog (Some m) = IfSome m.staged (λ changes. length changes ≤ m.log.room)

-- the log of a move in flight has these changes of a table more
pub record HasLogged (table : ℕ) (changes : List Change) (old new : Moving) : Type 0 where
  pub who : new.who ≡ old.who
  pub to : new.to ≡ old.to
  pub log : new.log.list ≡ old.log.list ++ logged table changes

abbrev pub Logs : ℕ → List Change → Option Moving → Option Moving → Type 0
Logs table changes None None = ⊤
Logs table changes None (Some new) = ⊥
Logs table changes (Some old) None = ⊥
Logs table changes (Some old) (Some new) = HasLogged table changes old new

-- the log of a move in flight is empty
pub record HasNoLog (old new : Moving) : Type 0 where
  pub who : new.who ≡ old.who
  pub to : new.to ≡ old.to
  pub log : new.log.list ≡ []

abbrev pub IsCleared : Option Moving → Option Moving → Type 0
IsCleared None None = ⊤
IsCleared None (Some new) = ⊥
IsCleared (Some old) None = ⊥
IsCleared (Some old) (Some new) = HasNoLog old new

-- The calls of a move of a shard group: what each finds and enters, and what comes to the other node meanwhile.
use Rattle.std.specs.Prelude.{◌≡◌, ◌≢◌, ⊤, ℕ, IsTrue, false, List, [], ◌∷◌, Some, None, Result, Ok, Err}
use Rattle.std.specs.List.{AllByRecursion}
use Rattle.cq_tree.specs.declared.journal.Who.{Who}
use Rattle.cq_tree.specs.declared.journal.Entry.{Entry}
use Rattle.cq_tree.specs.declared.journal.EntryKind.{EntryKind}
use Rattle.cq_journal.specs.Stations.{station_of, node_of, moving_of}
use Rattle.cq_store.specs.Stores.{StoreState}
use Rattle.cq_group.specs.declared.group.GroupState.{GroupState}
use Rattle.cq_group.specs.declared.incoming.Incoming.{Incoming}
use Rattle.cq_group.specs.declared.moves.Exchanged.{Exchanged}
use Rattle.cq_group.specs.declared.start.MoveRefused.{MoveRefused}
use Rattle.cq_group.specs.declared.start.MoveWhy.{MoveWhy}
use Rattle.cq_group.specs.declared.start.MoveWhy.TheVariants as why
use Rattle.cq_group.specs.Groups.{stores_of}
use Rattle.cq_group.specs.Incoming.{IsIncoming, rows_in}
use Rattle.cq_group.specs.Moves.{is_of_move, upto_move, changed_since}
use Rattle.cq_group.specs.Resting.{IsResting}
use Rattle.cq_reach.specs.Seen.{Seen, seen_of, with_kinds, FailsIn}
use Rattle.cq_reach.specs.Outlook.{IsGrown}

-- ---- what a call finds, and what it enters

-- a call of a statement for a group: it found the group with what others had entered meanwhile, was told what is so of it, and made these entries
pub record Told (comes : Entry → Type 0) (who : Who) (kinds : List EntryKind) (fact : Seen → Type 0) (old new : Seen) : Type 0 where
  pub found : Seen
  pub grown : IsGrown comes old found
  pub so : fact found
  pub is : new ≡ with_kinds who kinds found

-- while a statement moves a group others enter no step of a move there
abbrev pub ComesAside : (Entry → Type 0) → Entry → Type 0
ComesAside comes e = comes e × (is_of_move e.kind ≡ false)

-- the kinds of a call that enters this on Ok
abbrev pub kinds_on : {V E : Type 0} → EntryKind → Result V E → List EntryKind
kinds_on kind (Ok v) = kind ∷ []
kinds_on kind (Err e) = []

abbrev pub TellsAnything : Seen → Type 0
TellsAnything s = ⊤

-- ---- a move in flight

-- this statement moves the group
abbrev pub IsMover : Who → Seen → Type 0
IsMover who s = moving_of s.journal ≡ Some who

-- what comes in in the move that is in flight: the contents of the group after the last entry of the move that is known
abbrev pub ComesIn : {X : Type 0} → (X → StoreState) → Seen → Incoming X → Type 0
ComesIn state s i = IsIncoming state (station_of s.journal).target (upto_move s.journal.entries) s.tables i

-- ---- its beginning

-- a move from a node to another can begin
pub record CouldStart (s : Seen) (to from : ℕ) : Type 0 where
  pub free : moving_of s.journal ≡ None
  pub there : node_of s.journal ≡ from
  pub other : from ≢ to

-- why a move didn't begin, in this order: the group is moved already, isn't on the first node, or is on the second; a store of it failed; or want of memory
abbrev pub RefusesStart : MoveWhy → Seen → ℕ → ℕ → Type 0
RefusesStart (why.Moving by) s to from = moving_of s.journal ≡ Some by
RefusesStart (why.NotThere node) s to from = (moving_of s.journal ≡ None) × (node ≡ node_of s.journal) × (node ≢ from)
RefusesStart (why.SameNode node) s to from = (moving_of s.journal ≡ None) × (node ≡ node_of s.journal) × (node ≡ from) × (node ≡ to)
RefusesStart (why.Worker failure) s to from = CouldStart s to from × FailsIn s failure
RefusesStart why.Memory s to from = CouldStart s to from

-- what its beginning tells: the rows of the snapshot, or why it didn't begin
abbrev pub TellsStart : {X : Type 0} → ℕ → ℕ → Result (Incoming X) (MoveRefused X) → Seen → Type 0
TellsStart to from (Ok i) s = CouldStart s to from × (i.due ≡ rows_in s.journal.entries s.tables)
TellsStart to from (Err e) s = RefusesStart e.why s to from

-- ---- catching up and cutting over

-- how many rows were changed since the move's last entry
abbrev pub TellsChanges : {E : Type 0} → Result ℕ E → Seen → Type 0
TellsChanges (Ok n) s = n ≡ changed_since s.journal.entries
TellsChanges (Err e) s = ⊤

-- these are the stores of a group that was known so, and held what its journal left
pub record HadStores {X : Type 0} (state : X → StoreState) (s : Seen) (stores : List X) : Type 0 where
  pub group : GroupState X
  pub known : seen_of group ≡ s
  pub resting : IsResting state group
  pub all : stores ≡ stores_of group

-- how many rows were changed since the move's last entry; and all stores of the group come back
abbrev pub TellsExchanged : {X E : Type 0} → (X → StoreState) → Result (Exchanged X) E → Seen → Type 0
TellsExchanged state (Ok e) s = (e.last ≡ changed_since s.journal.entries) × HadStores state s e.stores.items
TellsExchanged state (Err f) s = ⊤

-- ---- stores that never fail

-- the stores of the node among these are steady
abbrev pub AreSteadyOn : {X : Type 0} → (X → StoreState) → ℕ → List X → Type 0
AreSteadyOn {X} state node xs = AllByRecursion (λ (x : X). (state x).node ≡ node → IsTrue (state x).steady) xs

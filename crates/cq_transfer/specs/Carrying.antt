-- A move of a group that is held alone or shared: in flight, and what it comes to.
use Rattle.std.specs.Prelude.{◌≡◌, ◌≤◌, ◌⊎◌, ℕ, true, List, [], ◌∷◌, ◌++◌, length, vec_capacity}
use Rattle.std.specs.List.{AllByRecursion, AllZip}
use Rattle.cq_tree.specs.declared.journal.Who.{Who}
use Rattle.cq_tree.specs.declared.journal.Entry.{Entry}
use Rattle.cq_tree.specs.declared.journal.EntryKind.TheVariants.{CatchUp, Cutover, MoveStop}
use Rattle.cq_journal.specs.Stations.{node_of, station_of}
use Rattle.cq_history.specs.Journals.{Step}
use Rattle.cq_history.specs.Moves.{AreRounds, last_of, written_between}
use Rattle.cq_store.specs.Stores.{StoreState}
use Rattle.cq_group.specs.declared.incoming.Incoming.{Incoming}
use Rattle.cq_group.specs.declared.start.MoveWhy.{MoveWhy}
use Rattle.cq_group.specs.Calls.{GoesOn, Lifted}
use Rattle.cq_group.specs.Incoming.{IsIncoming, arriving}
use Rattle.cq_group.specs.Moves.{changed_since, parted}
use Rattle.cq_reach.specs.Seen.{Seen}
use Rattle.cq_move_calls.specs.Moving.{ComesAside, IsMover, RefusesStart, TellsAnything, Told}
use Rattle.cq_move.specs.declared.outcome.MoveReport.{MoveReport}
use Rattle.cq_move.specs.declared.outcome.Moved.{Moved}
use Rattle.cq_move.specs.declared.outcome.NotMoved.{NotMoved}
use Rattle.cq_transfer.specs.Entering.{AreBegun, Enters, HasStopped, IsBehind}
use Rattle.cq_move.specs.Outcomes.{EndsMove, IsToldBy, KeepShards}

-- a statement's move is in flight: its last entry is the last that is known, and the group's tables come in up to there
pub record IsMoving {X : Type 0} (state : X → StoreState) (who : Who) (s : Seen) (i : Incoming X) : Type 0 where
  pub mover : IsMover who s
  pub last : parted s.journal.entries ≡ record { upto = s.journal.entries; since = [] }
  pub incoming : IsIncoming state (station_of s.journal).target s.journal.entries s.tables i

-- it can be stopped, and there is room to hand the stores back
pub record CanStop {X : Type 0} (who : Who) (s : Seen) (i : Incoming X) : Type 0 where
  pub mover : IsMover who s
  pub room : length (arriving i) ≤ vec_capacity i.room
  pub unused : i.room.items ≡ []

-- others' entries and rounds of catch-up leave a group where it is
pub record Stays (s t : Seen) : Type 0 where
  pub tables : t.tables ≡ s.tables
  pub node : node_of t.journal ≡ node_of s.journal

-- a call for a move in flight: the groups are ready for the next, keep what they must, go on, and so do the stores that come in; the move can be stopped then
pub record IsUnderWay {X : Type 0} (state : X → StoreState) (who : Who) (is_ready is_kept went_on : Type 0) (s t : Seen) (i j : Incoming X) : Type 0 where
  pub ready : is_ready
  pub keeps : is_kept
  pub goes_on : went_on
  pub stays : Stays s t
  pub stop : CanStop who t j
  pub stores : AllZip (Lifted state GoesOn) (arriving i) (arriving j)

-- a round that makes so many changes
abbrev pub CatchesOnce : (Entry → Type 0) → Who → ℕ → Seen → Seen → Type 0
CatchesOnce comes who n old new = Told (ComesAside comes) who (CatchUp ∷ []) (λ s. n ≡ changed_since s.journal.entries) old new

-- a round that failed, before its entry or behind it
abbrev pub TriesOnce : (Entry → Type 0) → Who → Seen → Seen → Type 0
TriesOnce comes who old new = Told (ComesAside comes) who [] TellsAnything old new ⊎ Told (ComesAside comes) who (CatchUp ∷ []) TellsAnything old new

-- the steps of a move behind its MoveStart, to its Cutover
pub record HasFinished (comes : Entry → Type 0) (who : Who) (first : Step) (r : MoveReport) (old new : Seen) : Type 0 where
  pub rounds : List Step
  pub cutover : Step
  pub enters : Enters comes who (rounds ++ cutover ∷ []) old new
  pub catches : AllByRecursion (λ (s : Step). s.kind ≡ CatchUp) rounds
  pub settled : AreRounds 1 first rounds
  pub ends : cutover.kind ≡ Cutover
  pub caught : r.caught ≡ written_between first (last_of first rounds)
  pub last : r.last ≡ written_between (last_of first rounds) cutover

-- or to its MoveStop
pub record HasGivenUp (comes : Entry → Type 0) (who : Who) (first : Step) (old new : Seen) : Type 0 where
  pub rounds : List Step
  pub stop : Step
  pub enters : Enters comes who (rounds ++ stop ∷ []) old new
  pub catches : AllByRecursion (λ (s : Step). s.kind ≡ CatchUp) rounds
  pub begun : AreBegun 1 first rounds
  pub ends : stop.kind ≡ MoveStop

abbrev pub Finishes : (Entry → Type 0) → Who → MoveReport → Seen → Seen → Type 0
Finishes comes who r old new = (first : Step) → IsBehind who first old → HasFinished comes who first r old new

abbrev pub GivesUp : (Entry → Type 0) → Who → Seen → Seen → Type 0
GivesUp comes who old new = (first : Step) → IsBehind who first old → HasGivenUp comes who first old new

-- ---- its end

-- these are the stores that a group of so many tables had on a node
pub record AreOf {X : Type 0} (state : X → StoreState) (node n : ℕ) (stores : List X) : Type 0 where
  pub many : length stores ≡ n
  pub on : AllByRecursion (λ (x : X). (state x).node ≡ node) stores

-- a move in flight came to its Cutover: it copied the rows that were due, and these are the stores that the group had
pub record ComesToEnd {X : Type 0} (state : X → StoreState) (comes : Entry → Type 0) (who : Who) (due : ℕ) (m : Moved X) (old new : Seen) : Type 0 where
  pub copied : m.report.copied ≡ due
  pub finishes : Finishes comes who m.report old new
  pub stores : AreOf state (node_of old.journal) (length old.tables) m.stores.items

-- it is handed back: why it was stopped, and the stores that came in
pub record HandsBack {X : Type 0} (reason : MoveWhy) (given : List X) (e : NotMoved X) : Type 0 where
  pub begun : e.begun ≡ true
  pub why : e.why ≡ reason
  pub stores : e.stores.items ≡ given

-- or to its MoveStop: one of the stores that came in is blamed, or none, and they are handed back as they went on
pub record ComesToStop {X : Type 0} (state : X → StoreState) (comes : Entry → Type 0) (who : Who) (given : List X) (e : NotMoved X) (old new : Seen) : Type 0 where
  pub begun : e.begun ≡ true
  pub gives_up : GivesUp comes who old new
  pub why : IsToldBy state e.why given e.stores.items
  pub stores : AllZip (Lifted state GoesOn) given e.stores.items

-- a move that began and was stopped
pub record IsGivenUp {X : Type 0} (state : X → StoreState) (comes : Entry → Type 0) (who : Who) (from to : ℕ) (given : List X) (e : NotMoved X) (old new : Seen) : Type 0 where
  pub stopped : HasStopped comes who from to old new
  pub why : EndsMove state old.tables to e.why given e.stores.items
  pub shards : KeepShards state old.tables e.stores.items

-- a move that didn't begin: no entry is its, and the stores are as they were
pub record IsRefused {X : Type 0} (comes : Entry → Type 0) (blames : MoveWhy → Type 0) (who : Who) (from to : ℕ) (given : List X) (e : NotMoved X) (old new : Seen) : Type 0 where
  pub told : Told comes who [] (λ s. RefusesStart e.why s to from) old new
  pub failed : blames e.why
  pub stores : e.stores.items ≡ given

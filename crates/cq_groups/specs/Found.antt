-- What a query reads of several shard groups, as it found them.
use Rattle.std.specs.Prelude.{◌≡◌, ◌≤◌, ◌<◌, ⊤, ℕ, true, false, List, [], map, length, Option, Some, None, Result, Ok, Err, slice_get}
use Rattle.std.specs.List.{AllByRecursion, flat_map}
use Rattle.cq_tree.specs.declared.failure.StoreFailure.{StoreFailure}
use Rattle.cq_tree.specs.declared.journal.Entry.{Entry}
use Rattle.cq_tree.specs.declared.journal.EntryKind.TheVariants.{Read}
use Rattle.cq_tree.specs.declared.journal.Who.{Who}
use Rattle.cq_tree.specs.declared.query.Query.{Query, out-Query}
use Rattle.cq_meaning.specs.Values.{Row, Tables}
use Rattle.cq_demands.specs.JoinDemands.{Wants, narrow}
use Rattle.cq_catalog.specs.Contents.{Contents}
use Rattle.cq_journal.specs.Stations.{node_of}
use Rattle.cq_planning.specs.Database.{shape_in}
use Rattle.cq_planning.specs.Touched.{among}
use Rattle.cq_answer.specs.declared.answer.Answer.{Answer}
use Rattle.cq_answer.specs.declared.answer.Answer.TheVariants as answer
use Rattle.cq_answer.specs.declared.fault.Fault.TheVariants as fault
use Rattle.cq_history.specs.Journals.{in_each, made_by}
use Rattle.cq_history.specs.Standing.{AreAmong}
use Rattle.cq_history.specs.Deeds.{Phase}
use Rattle.cq_history.specs.Looks.{has_shard}
use Rattle.cq_history.specs.Faults.{IsShardIn, below}
use Rattle.cq_group.specs.declared.group.GroupError.{GroupError}
use Rattle.cq_group.specs.declared.group.GroupError.TheVariants as group
use Rattle.cq_group.specs.Groups.{Outline}
use Rattle.cq_reach.specs.Seen.{Seen, HasTable, shape_seen, captured}
use Rattle.cq_reach.specs.Outlook.{Outlook, Meets}
use Rattle.cq_reach.specs.Reads.{CanRead, FailsRead}
use Rattle.cq_reach.specs.Writes.{Enters}
use Rattle.cq_groups.specs.Reads.{Look, groups_in, Computes}

abbrev pub captured_of : Option Seen → List ℕ → Tables
captured_of None tables = []
captured_of (Some s) tables = map (captured s) tables

-- the rows of these tables that their groups' entries leave
abbrev pub captured_by : List Seen → List Look → Tables
captured_by groups looks = flat_map (λ (l : Look). captured_of (slice_get groups l.0) l.1) looks

-- the rows that a group's entries leave of a table
abbrev pub rows_in : Option Seen → ℕ → List Row
rows_in None table = []
rows_in (Some s) table = (captured s table).1

-- a look can be made, however a statement may find its group
pub record MayLook (node : ℕ) (o : Outlook) (l : Look) : Type 0 where
  pub within : l.0 < length o.known
  pub can : (s : Seen) → Meets o l.0 s → CanRead node l.1 s

-- one Read was entered in each of these groups
abbrev pub AreRead : Who → List ℕ → List Seen → List Seen → Type 0
AreRead who groups found new = Enters who (in_each groups (λ g. Read)) found new

-- one Read was entered in each of some of these groups
pub record AreReadInPart (who : Who) (groups : List ℕ) (found new : List Seen) : Type 0 where
  pub some : List ℕ
  pub among : AreAmong some groups
  pub grows : AreRead who some found new

-- a read of one of these groups failed, after one Read was entered in each of them before it
pub record FailsAmong (who : Who) (near : ℕ) (groups : List ℕ) (f : StoreFailure) (found new : List Seen) : Type 0 where
  pub group : ℕ
  pub there : among group groups ≡ true
  pub its : Seen
  pub at : slice_get found group ≡ Some its
  pub fails : FailsRead near f its
  pub grows : AreRead who (below group groups) found new

-- what reads by these looks came to
abbrev pub HaveRead : Who → ℕ → Wants → List Look → List Seen → List Seen → Result Tables GroupError → Type 0
HaveRead who near wants looks found new (Ok tables) = AreRead who (groups_in looks) found new × (tables ≡ narrow wants (captured_by found looks))
HaveRead who near wants looks found new (Err (group.Worker f)) = FailsAmong who near (groups_in looks) f found new
HaveRead who near wants looks found new (Err group.Memory) = AreReadInPart who (groups_in looks) found new

-- the answer of a query by its looks, from which these tables came: each was made, or memory ran out after some of them, or a store failed
-- in one of them
pub data IsComputed (who : Who) (near : ℕ) (q : Query) (looks : List Look) (db : Tables) (found new : List Seen) : Answer → Type 0 where
  done : {a : Answer} → AreRead who (groups_in looks) found new → Computes q db (out-Query q).names a → IsComputed who near q looks db found new a
  stopped : AreReadInPart who (groups_in looks) found new → IsComputed who near q looks db found new (answer.Failed fault.Memory)
  failed : {f : StoreFailure} → FailsAmong who near (groups_in looks) f found new → IsComputed who near q looks db found new (answer.Failed (fault.Worker f))

-- a group is on one node, or on all of so many, and has the tables of the catalogue that have a shard in it, with their shapes; its stores
-- keep such shards
pub record IsShaped (c : Contents) (nodes group : ℕ) (s : Seen) : Type 0 where
  pub near : node_of s.journal ≡ 0 → (1 ≤ s.nodes) × (s.nodes ≡ nodes)
  pub tables : (table : ℕ) → has_shard c group table ≡ true → HasTable s table × (shape_seen s table ≡ shape_in c table)
  pub shards : AllByRecursion (λ (o : Outline). IsShardIn c group o.2) s.tables

-- the groups are those of the catalogue
pub record AreShaped (c : Contents) (nodes : ℕ) (groups : List Seen) : Type 0 where
  pub count : length groups ≡ c.groups
  pub each : (group : ℕ) (s : Seen) → slice_get groups group ≡ Some s → IsShaped c nodes group s

-- such entries may come in this phase beside the statement's own
abbrev pub MayComeIn : Phase → Who → (Entry → Type 0) → Type 0
MayComeIn p who comes = (e : Entry) → comes e → (made_by who e ≡ false) × (among e.who.session p.sessions ≡ true)

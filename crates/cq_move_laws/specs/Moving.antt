-- A move of a shard's group in a session of a block: what is asked, and what its session knows of the group.
use Rattle.std.specs.Prelude.{◌≡◌, ◌≢◌, ◌<◌, ◌≤◌, ℕ, false, List, length, Some, None, nat_eq}
use Rattle.std.specs.List.{AllByRecursion}
use Rattle.cq_tree.specs.declared.journal.Who.{Who}
use Rattle.cq_tree.specs.declared.journal.Entry.{Entry}
use Rattle.cq_tree.specs.declared.statement.Statement.TheVariants.{Move}
use Rattle.cq_catalog.specs.Contents.{Contents}
use Rattle.cq_catalog.specs.Placement.{group_of_shard}
use Rattle.cq_answer.specs.declared.answered.Answered.{Answered}
use Rattle.cq_journal.specs.Records.{Journal}
use Rattle.cq_history.specs.Faults.{IsShardIn}
use Rattle.cq_history.specs.Journals.{journal_in}
use Rattle.cq_history.specs.Legality.{IsLegal}
use Rattle.cq_history.specs.Moves.{rows_held}
use Rattle.cq_history.specs.Phases.{who_of}
use Rattle.cq_history.specs.Room.{stores_moved}
use Rattle.cq_history.specs.Run.{Run, Rules}
use Rattle.cq_group.specs.declared.group.GroupState.{GroupState}
use Rattle.cq_group.specs.Groups.{Outline, journal_of}
use Rattle.cq_group.specs.Incoming.{rows_in}
use Rattle.cq_reach.specs.Seen.{Seen, seen_of}
use Rattle.cq_cell.specs.Lists.{NotIn}
use Rattle.cq_block_laws.specs.Serving.{Opening, Known}
use Rattle.cq_move_laws.specs.Notes.{FindsEnough}

-- a statement of a block is a move, which isn't refused before it runs
pub record IsAsked (rules : Rules) (o : Opening) (a : Answered) (shard from to : ℕ) : Type 0 where
  pub bound : a.bound ≡ Some (Move shard from to)
  pub runs : rules.refusal o.environment (Move shard from to) ≡ None

-- it is of this group, which is among those that the session knows
pub record IsOfGroup (o : Opening) (shard group : ℕ) (journals : List Journal) : Type 0 where
  pub is : group_of_shard o.environment.catalog shard ≡ Some group
  pub there : group < o.environment.catalog.groups
  pub opened : o.environment.catalog.groups ≤ length o.journals
  pub known : group < length journals

-- what a session knows of the journals goes on in one group alone
pub record GoesOnIn (group : ℕ) (s t : Seen) (old new : List Journal) : Type 0 where
  pub count : length new ≡ length old
  pub was : journal_in old group ≡ s.journal
  pub is : journal_in new group ≡ t.journal
  pub others : (g : ℕ) → nat_eq g group ≡ false → journal_in new g ≡ journal_in old g

-- an entry of another session of the block
abbrev pub ComesBeside : Opening → Who → Entry → Type 0
ComesBeside o who e = (e.who.session ≢ who.session) × (NotIn e.who.session o.sessions → ⊥)

-- a group that was opened so, as it is known behind these entries
abbrev pub seen_behind : {X : Type 0} → GroupState X → List Entry → Seen
seen_behind {X} g es = record (seen_of g) { journal = record (journal_of g) { entries = es } }

-- the tables of a group, as it is known, are those of the catalogue: their shards are its shards, and they hold as many rows
pub record HasTables (c : Contents) (group : ℕ) (s : Seen) : Type 0 where
  pub shards : AllByRecursion (λ (x : Outline). IsShardIn c group x.2) s.tables
  pub rows : (es : List Entry) → rows_in es s.tables ≡ rows_held c group (record s.journal { entries = es })

-- a move that found enough spare stores and came to its group, with what its session knew of that and knows then
pub record ReachesGroup (rules : Rules) (run : Run) (o : Opening) (a : Answered) (shard from to group : ℕ) (s t : Seen) (old new : Known) : Type 0 where
  pub asked : IsAsked rules o a shard from to
  pub of : IsOfGroup o shard group old.journals
  pub found : FindsEnough run o (who_of a) to (stores_moved o.environment.catalog (Some group)) new.errands
  pub goes_on : GoesOnIn group s t old.journals new.journals
  pub tables : HasTables o.environment.catalog group s
  pub legal : IsLegal o.environment.catalog group t.journal
  pub opened : s.journal.opening ≢ 0

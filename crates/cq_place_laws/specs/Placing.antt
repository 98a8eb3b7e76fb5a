-- Where a block leaves the shard groups, by the moves that its answers tell of.
use Rattle.std.specs.Prelude.{◌≡◌, ◌≢◌, ◌⊎◌, ◌+◌, ◌<◌, ◌≤◌, ℕ, Bool, true, false, List, ◌∷◌, ◌++◌, length, if◌then◌else◌}
use Rattle.std.specs.List.{AllByRecursion, sum_by}
use Rattle.cq_tree.specs.declared.journal.Entry.{Entry}
use Rattle.cq_tree.specs.declared.journal.EntryKind.TheVariants.{Cutover}
use Rattle.cq_catalog.specs.Contents.{Contents}
use Rattle.cq_answer.specs.declared.answer.Answer.{Answer}
use Rattle.cq_answer.specs.declared.answer.Answer.TheVariants.{Table}
use Rattle.cq_answer.specs.declared.answered.Answered.{Answered}
use Rattle.cq_journal.specs.Records.{Journal}
use Rattle.cq_journal.specs.Stations.{node_of}
use Rattle.cq_history.specs.Run.{Run, Rules, Environment}
use Rattle.cq_history.specs.Phases.{MayBeInBlock, IsOf}
use Rattle.cq_history.specs.Journals.{journal_in}
use Rattle.cq_history.specs.Room.{stores_on, stores_to, stores_from}
use Rattle.cq_history.specs.Log.{Era, IsConsistentIn, IsPhase}

-- a table: of a move, the report of what it did
abbrev pub is_table : Answer → Bool
is_table (Table names rows) = true
is_table a = false

-- how many stores a statement brought to the node, and how many it took away: those of its shard's group, where it made a move
abbrev pub arrives : Contents → ℕ → Answered → ℕ
arrives c node a = if is_table a.answer then stores_to c node a.bound else 0

abbrev pub leaves : Contents → ℕ → Answered → ℕ
leaves c node a = if is_table a.answer then stores_from c node a.bound else 0

abbrev pub nodes_in : List Journal → ℕ → ℕ
nodes_in journals g = node_of (journal_in journals g)

-- a block is the next phase behind what holds between two phases
pub record IsBlock (rules : Rules) (run : Run) (before : Era) (all : List Answered) (e : Environment) (answers block : List Answered) (sessions : List ℕ) (old new : List Journal) : Type 0 where
  pub was : IsConsistentIn rules run before all e answers old
  pub phase : IsPhase rules run (length before.journals) e all block sessions old new
  pub allowed : AllByRecursion (λ (a : Answered). MayBeInBlock a.bound) block

-- what was on a node and arrived there is what is on it now and left
abbrev pub BlockPlaces : Type 0
BlockPlaces = (rules : Rules) (run : Run) (before : Era) (all : List Answered) (e : Environment) (answers block : List Answered) (sessions : List ℕ) (old new : List Journal) →
    IsBlock rules run before all e answers block sessions old new → (node : ℕ) →
    stores_on e.catalog (nodes_in new) node + sum_by (leaves e.catalog node) block ≡ stores_on e.catalog (nodes_in old) node + sum_by (arrives e.catalog node) block

-- each group is where it was, or on a worker
abbrev pub BlockNodesUsed : Type 0
BlockNodesUsed = (rules : Rules) (run : Run) (before : Era) (all : List Answered) (e : Environment) (answers block : List Answered) (sessions : List ℕ) (old new : List Journal) →
    IsBlock rules run before all e answers block sessions old new → (g : ℕ) → g < length old → (nodes_in new g ≡ nodes_in old g) ⊎ ((1 ≤ nodes_in new g) × (nodes_in new g ≤ run.workers))

-- the last Cutover among entries is that of one of these statements
pub record AreCutBy (answers : List Answered) (es : List Entry) : Type 0 where
  pub front : List Entry
  pub last : Entry
  pub back : List Entry
  pub all : es ≡ front ++ last ∷ back
  pub cuts : last.kind ≡ Cutover
  pub by : IsOf answers last.who
  pub behind : AllByRecursion (λ (e : Entry). e.kind ≢ Cutover) back

-- a group was moved last by a statement of the block, or is where it was
abbrev pub BlockMovers : Type 0
BlockMovers = (rules : Rules) (run : Run) (before : Era) (all : List Answered) (e : Environment) (answers block : List Answered) (sessions : List ℕ) (old new : List Journal) →
    IsBlock rules run before all e answers block sessions old new → (g : ℕ) → g < length old →
    (more : List Entry) × (journal_in new g ≡ record (journal_in old g) { entries = (journal_in old g).entries ++ more })
    × (AreCutBy block more ⊎ (AllByRecursion (λ (e : Entry). e.kind ≢ Cutover) more × (nodes_in new g ≡ nodes_in old g)))

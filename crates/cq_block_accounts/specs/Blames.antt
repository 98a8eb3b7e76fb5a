-- What the answers of a block tell of the stores of the groups that came back: each group was moved last by a statement of the block, or the answers tell of its stores' failures.
use Rattle.std.specs.Prelude.{◌≡◌, ◌≢◌, ◌⊎◌, ◌+◌, ◌<◌, ℕ, List, ◌∷◌, ◌++◌, length}
use Rattle.std.specs.List.{AllByRecursion}
use Rattle.cq_tree.specs.declared.journal.Entry.{Entry}
use Rattle.cq_tree.specs.declared.journal.EntryKind.TheVariants.{Cutover}
use Rattle.cq_answer.specs.declared.answered.Answered.{Answered}
use Rattle.cq_answer.specs.declared.answered.Settings.{Settings}
use Rattle.cq_journal.specs.Records.{Journal}
use Rattle.cq_store.specs.Stores.{StoreState}
use Rattle.cq_store.specs.declared.worker.Worker.{Worker}
use Rattle.cq_history.specs.Run.{Run, Rules, Environment}
use Rattle.cq_history.specs.Faults.{NamesBelow}
use Rattle.cq_history.specs.Journals.{journal_in}
use Rattle.cq_history.specs.Log.{Era, IsConsistentIn}
use Rattle.cq_group.specs.declared.group.GroupState.{GroupState}
use Rattle.cq_group.specs.Groups.{entries_of}
use Rattle.cq_group.specs.Resting.{journals_of}
use Rattle.cq_cell.specs.Lists.{Distinct}
use Rattle.cq_cluster.specs.declared.cluster.Cluster.{Cluster}
use Rattle.cq_cluster.specs.Cluster.{IsSound, journals}
use Rattle.cq_cluster.specs.Accounts.{moved_by}
use Rattle.cq_shared.specs.Terms.{Terms}
use Rattle.cq_place_laws.specs.Placing.{AreCutBy}
use Rattle.cq_block_laws.specs.Serving.{Opening}
use Rattle.cq_block_laws.specs.Closing.{Session, numbers_of, answers_of, AreSessions}
use Rattle.cq_block_laws.specs.Sessions.{HasRun}
use Rattle.cq_block_accounts.specs.Accounts.{AreToldOf}

-- no group was moved last by a statement of these
abbrev pub AreNoMovers : {X : Type 0} → List Answered → List (GroupState X) → Type 0
AreNoMovers {X} block groups = AllByRecursion (λ (g : GroupState X). AllByRecursion (λ (a : Answered). a.statement ≢ moved_by (entries_of g)) block) groups

-- sessions behind these answers: no two have one number, and none of their statements moved a group before, or has the number of one that is answered
pub record AreNew {X : Type 0} (answers : List Answered) (groups : List (GroupState X)) (sessions : List Session) : Type 0 where
  pub distinct : Distinct (numbers_of sessions)
  pub movers : AreNoMovers (answers_of sessions) groups
  pub numbers : AllByRecursion (λ (a : Answered). AllByRecursion (λ (b : Answered). b.statement ≢ a.statement) answers) (answers_of sessions)

-- so are the sessions of a block
abbrev pub SessionsAreNew : Type 0 → Type 0
SessionsAreNew X = (rules : Rules) (run : Run) (before : Era) (past answers : List Answered) (e : Environment) (groups : List (GroupState X)) (count : ℕ) (given : Settings) (sessions : List Session) →
    IsConsistentIn rules run before (past ++ answers) e answers (journals_of groups) → AreSessions (length (past ++ answers) + 1) count given 1 sessions → AreNew answers groups sessions

-- a journal went on by entries with no cutover, or whose last one is of one of these statements
pub record GoesOnBy (block : List Answered) (old new : Journal) : Type 0 where
  pub more : List Entry
  pub all : new.entries ≡ old.entries ++ more
  pub cuts : AreCutBy block more ⊎ AllByRecursion (λ (e : Entry). e.kind ≢ Cutover) more

abbrev pub AllGoOnBy : List Answered → List Journal → List Journal → Type 0
AllGoOnBy block old new = (g : ℕ) → g < length old → GoesOnBy block (journal_in old g) (journal_in new g)

module _ {X : Type 0} (state : X → StoreState) (C : Type 0) (terms : C → Terms) where
  -- the answers of a block that has run tell of the stores of a cluster's groups, where the groups' journals went on by its statements
  abbrev pub BlockTells : Type 0
  BlockTells = (rules : Rules) (nodes : ℕ) (o : Opening) (cl : Cluster X) (workers : List (Worker X)) (sessions : List Session) (closed : List (GroupState X)) (returned : List (Worker X)) (phase : ℕ) (answers : List Answered) →
      HasRun state terms rules nodes o cl.groups.items workers sessions closed returned → IsSound state cl → AreNew answers cl.groups.items sessions → AllByRecursion (λ (a : Answered). a.phase ≡ phase) (answers_of sessions) →
      AllGoOnBy (answers_of sessions) (journals cl) (journals_of closed) → AreToldOf state phase answers (answers_of sessions) cl.groups.items closed

  -- they name no shard id that isn't given out
  abbrev pub BlockNamesBelow : Type 0
  BlockNamesBelow = (rules : Rules) (nodes : ℕ) (o : Opening) (cl : Cluster X) (workers : List (Worker X)) (sessions : List Session) (closed : List (GroupState X)) (returned : List (Worker X)) →
      HasRun state terms rules nodes o cl.groups.items workers sessions closed returned → IsSound state cl → AllByRecursion (λ (a : Answered). NamesBelow cl.catalog.next_shard a.answer) (answers_of sessions)

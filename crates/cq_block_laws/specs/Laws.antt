-- The laws.
use Rattle.std.specs.Prelude.{◌≡◌, ◌+◌, ◌++◌, ◌<◌, ⊤, ℕ, List, [], ◌∷◌, length, slice_get, Option, Some, None}
use Rattle.std.specs.List.{AllByRecursion}
use Rattle.cq_tree.specs.declared.statement.Statement.{Statement}
use Rattle.cq_tree.specs.declared.statement.Statement.TheVariants.{Move}
use Rattle.cq_answer.specs.declared.answered.Answered.{Answered}
use Rattle.cq_journal.specs.Records.{Journal}
use Rattle.cq_journal.specs.Stations.{moving_of}
use Rattle.cq_history.specs.Journals.{journal_in}
use Rattle.cq_history.specs.Run.{Run, Rules, Environment, after, environment_from}
use Rattle.cq_history.specs.Phases.{who_of, MayBeInBlock}
use Rattle.cq_history.specs.Deeds.{Phase}
use Rattle.cq_history.specs.Log.{Era, joined, IsLaidOut, IsConsistentIn, AreConsistent, IsAnsweredIn, IsPhase}
use Rattle.cq_cell.specs.Lists.{Distinct}
use Rattle.cq_shared.specs.declared.errand.Errand.{Errand}
use Rattle.cq_shared.specs.Terms.{Terms}
use Rattle.cq_store.specs.Stores.{StoreState}
use Rattle.cq_store.specs.declared.worker.Worker.{Worker}
use Rattle.cq_group.specs.declared.group.GroupState.{GroupState}
use Rattle.cq_group.specs.Resting.{journals_of}
use Rattle.cq_cluster.specs.Accounts.{AreRetired}
use Rattle.cq_block_laws.specs.Serving.{Opening, Known, free_first, IsPhaseOf, IsAnsweredBeside, AreAnswered}
use Rattle.cq_block_laws.specs.Closing.{Session, numbers_of, answers_of, AreApart, AreSessions, History, IsClosed}
use Rattle.cq_block_laws.specs.Sessions.{IsSpared, retired_by, HasRun, RanAt}

-- a session goes on by one more answer
abbrev pub AnswersOn : Type 0
AnswersOn = (rules : Rules) (run : Run) (o : Opening) (old mid new : Known) (answers : List Answered) (a : Answered) → AreAnswered rules run o old answers mid → IsAnsweredBeside rules run o a mid new →
    AreAnswered rules run o old (answers ++ a ∷ []) new

-- a statement that is no move notes nothing at a worker
abbrev pub IsNoMove : Option Statement → Type 0
IsNoMove (Some (Move shard from to)) = ⊥
IsNoMove bound = ⊤

-- so it is answered beside others, where it is answered in each phase of its session
abbrev pub QuietBeside : Type 0
QuietBeside = (rules : Rules) (run : Run) (o : Opening) (a : Answered) (old new : List Journal) (errands : ℕ → List Errand) → IsNoMove a.bound →
    ((p : Phase) → IsPhaseOf o a.session p → IsAnsweredIn rules run o.environment (after o.environment a.bound a.answer) p (who_of a) old new a.bound a.answer) →
    IsAnsweredBeside rules run o a (record { journals = old; errands = errands }) (record { journals = new; errands = errands })

-- statements of a block leave the catalogue and the settings
abbrev pub BlockKeeps : Type 0
BlockKeeps = (e : Environment) (block : List Answered) → AllByRecursion (λ (a : Answered). MayBeInBlock a.bound) block →
    ((environment_from e block).catalog ≡ e.catalog) × ((environment_from e block).settings ≡ e.settings)

-- a closed block is one phase behind these answers
abbrev pub BlockIsPhase : Type 0
BlockIsPhase = (rules : Rules) (run : Run) (kept count : ℕ) (before : List Answered) (o : Opening) (h : History) (sessions : List Session) (new : List Journal) → IsLaidOut run kept o.environment.catalog o.journals →
    AreSessions (length before + 1) count o.environment.settings 1 sessions → AreApart (answers_of sessions) → IsClosed rules run o h sessions new →
    IsPhase rules run kept o.environment before (answers_of sessions) (numbers_of sessions) o.journals new

-- so all is as between two phases again
abbrev pub BlockGoesOn : Type 0
BlockGoesOn = (rules : Rules) (run : Run) (eras : List Era) (answers : List Answered) (o : Opening) (h : History) (sessions : List Session) (new : List Journal) →
    AreConsistent rules run eras o.environment answers o.journals →
    AreSessions (length (joined eras ++ answers) + 1) (length (answers_of sessions)) o.environment.settings 1 sessions → AreApart (answers_of sessions) → IsClosed rules run o h sessions new →
    AreConsistent rules run eras (environment_from o.environment (answers_of sessions)) (answers ++ answers_of sessions) new

-- between two phases no statement moves a group: each has ended the moves that it began
abbrev pub MovesAreOver : Type 0
MovesAreOver = (rules : Rules) (run : Run) (before : Era) (all : List Answered) (e : Environment) (answers : List Answered) (journals : List Journal) → IsConsistentIn rules run before all e answers journals →
    (g : ℕ) → moving_of (journal_in journals g) ≡ None

-- each worker that a run uses has as many stores as are spare at the opening
abbrev pub HaveFree : {X : Type 0} → Run → Opening → List (Worker X) → Type 0
HaveFree {X} run o workers = (at : ℕ) (w : Worker X) → at < run.workers → slice_get workers at ≡ Some w → length w.stores.items ≡ free_first run o at

module _ {X : Type 0} (state : X → StoreState) (C : Type 0) (terms : C → Terms) where
  -- a block over groups and workers is closed behind what its sessions did: the notes are those of their cells
  abbrev pub BlockCloses : Type 0
  BlockCloses = (rules : Rules) (run : Run) (nodes : ℕ) (o : Opening) (opened : List (GroupState X)) (workers : List (Worker X)) (sessions : List Session) (closed : List (GroupState X)) (returned : List (Worker X)) →
      HasRun state terms rules nodes o opened workers sessions closed returned → run.workers ≡ nodes → o.journals ≡ journals_of opened → HaveFree run o workers → (h : History) × IsClosed rules run o h sessions (journals_of closed)

  -- each worker came back from its sessions, whose notes settle
  abbrev pub BlockSettles : Type 0
  BlockSettles = (rules : Rules) (nodes : ℕ) (o : Opening) (opened : List (GroupState X)) (workers : List (Worker X)) (sessions : List Session) (closed : List (GroupState X)) (returned : List (Worker X)) →
      (h : HasRun state terms rules nodes o opened workers sessions closed returned) → Distinct (numbers_of sessions) →
      (length returned ≡ length workers) × ((at : ℕ) (w v : Worker X) → slice_get workers at ≡ Some w → slice_get returned at ≡ Some v → RanAt state terms h.shared_by o (answers_of sessions) at w v)

  -- the stores that the sessions retired are those of their answers, on nodes of which not all stores are steady
  abbrev pub BlockRetiresAll : Type 0
  BlockRetiresAll = (rules : Rules) (nodes : ℕ) (o : Opening) (opened : List (GroupState X)) (workers : List (Worker X)) (sessions : List Session) (closed : List (GroupState X)) (returned : List (Worker X)) →
      (h : HasRun state terms rules nodes o opened workers sessions closed returned) → AreRetired (answers_of sessions) (retired_by h.lasts) × AllByRecursion (IsSpared state terms h.shared_by) (retired_by h.lasts)

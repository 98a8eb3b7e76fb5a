-- What a move enters in a group, between entries of others.
use Rattle.std.specs.Prelude.{◌≡◌, ◌≤◌, ◌<◌, ◌⊎◌, ◌+◌, ℕ, ⊤, true, List, [], ◌∷◌, ◌++◌, length}
use Rattle.std.specs.List.{AllByRecursion}
use Rattle.cq_tree.specs.declared.journal.Who.{Who}
use Rattle.cq_tree.specs.declared.journal.Entry.{Entry}
use Rattle.cq_tree.specs.declared.journal.EntryKind.TheVariants.{MoveStart, CatchUp, Cutover}
use Rattle.cq_journal.specs.Stations.{node_of}
use Rattle.cq_history.specs.Journals.{Step, made_by, steps_after, with_entries}
use Rattle.cq_history.specs.Moves.{IsStopped, AreRounds, last_of, most_rounds, written_between}
use Rattle.cq_group.specs.Incoming.{rows_in}
use Rattle.cq_reach.specs.Seen.{Seen}
use Rattle.cq_reach.specs.Outlook.{IsGrown}
use Rattle.cq_move.specs.declared.outcome.MoveReport.{MoveReport}

-- a statement made these steps in a group, each over what stood before it, and others made entries that may come
pub record Enters (comes : Entry → Type 0) (who : Who) (steps : List Step) (old new : Seen) : Type 0 where
  pub grown : IsGrown (λ e. (made_by who e ≡ true) ⊎ comes e) old new
  pub own : steps ≡ steps_after who old.journal grown.more

-- the journal right behind a step
abbrev pub IsBehind : Who → Step → Seen → Type 0
IsBehind who s t = t.journal ≡ with_entries who (s.kind ∷ []) s.before

-- ---- rounds of catch-up

-- rounds that were begun, from this number on, behind a step: each but the last had changes to make
abbrev pub AreBegun : ℕ → Step → List Step → Type 0
AreBegun n s [] = ⊤
AreBegun n s (t ∷ []) = n ≤ most_rounds
AreBegun n s (t ∷ u ∷ more) = (0 < written_between s t) × AreBegun (n + 1) t (u ∷ more)

-- rounds behind a step that each had changes to make
abbrev pub AreBusy : Step → List Step → Type 0
AreBusy s [] = ⊤
AreBusy s (t ∷ more) = (0 < written_between s t) × AreBusy t more

-- rounds behind a step, with so many changes
pub record HasCaught (comes : Entry → Type 0) (who : Who) (first : Step) (n : ℕ) (rounds : List Step) (old new : Seen) : Type 0 where
  pub enters : Enters comes who rounds old new
  pub catches : AllByRecursion (λ (s : Step). s.kind ≡ CatchUp) rounds
  pub behind : IsBehind who (last_of first rounds) new
  pub caught : n ≡ written_between first (last_of first rounds)
  pub far : length first.before.entries ≤ length (last_of first rounds).before.entries

-- all rounds of a move, behind its last step so far
abbrev pub Catches : (Entry → Type 0) → Who → ℕ → Seen → Seen → Type 0
Catches comes who n old new = (first : Step) → IsBehind who first old → (rounds : List Step) × HasCaught comes who first n rounds old new × AreRounds 1 first rounds

-- those that were begun when it ended early
pub record HasTried (comes : Entry → Type 0) (who : Who) (first : Step) (rounds : List Step) (old new : Seen) : Type 0 where
  pub enters : Enters comes who rounds old new
  pub catches : AllByRecursion (λ (s : Step). s.kind ≡ CatchUp) rounds
  pub begun : AreBegun 1 first rounds

abbrev pub Tries : (Entry → Type 0) → Who → Seen → Seen → Type 0
Tries comes who old new = (first : Step) → IsBehind who first old → (rounds : List Step) × HasTried comes who first rounds old new

-- ---- a whole move

-- a move that came to its end, as IsMove of cq_history has it over the tables of a catalogue
pub record HasMoved (comes : Entry → Type 0) (who : Who) (from to : ℕ) (r : MoveReport) (old new : Seen) : Type 0 where
  pub start : Step
  pub rounds : List Step
  pub cutover : Step
  pub enters : Enters comes who (start ∷ rounds ++ cutover ∷ []) old new
  pub starts : start.kind ≡ MoveStart to
  pub there : node_of start.before ≡ from
  pub catches : AllByRecursion (λ (s : Step). s.kind ≡ CatchUp) rounds
  pub ends : cutover.kind ≡ Cutover
  pub settled : AreRounds 1 start rounds
  pub copied : r.copied ≡ rows_in start.before.entries old.tables
  pub caught : r.caught ≡ written_between start (last_of start rounds)
  pub last : r.last ≡ written_between (last_of start rounds) cutover

-- a move that was given up: no round was begun behind one without changes
pub record HasStopped (comes : Entry → Type 0) (who : Who) (from to : ℕ) (old new : Seen) : Type 0 where
  pub steps : List Step
  pub enters : Enters comes who steps old new
  pub is : IsStopped from to steps
  pub begun : AreBegun 1 is.start is.rounds

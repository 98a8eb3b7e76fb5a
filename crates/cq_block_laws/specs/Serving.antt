-- What a session of a block does while it runs: its statements, over what its passes see of the shard groups and the workers.
use Rattle.std.specs.Prelude.{◌≡◌, ◌+◌, ◌-◌, ◌≤◌, ◌&&◌, ⊤, ℕ, Bool, false, not, List, [], ◌∷◌, ◌++◌, filter, nat_eq, Option, Some}
use Rattle.std.specs.List.{AllByRecursion}
use Rattle.cq_tree.specs.declared.journal.Who.{Who}
use Rattle.cq_tree.specs.declared.statement.Statement.{Statement}
use Rattle.cq_tree.specs.declared.statement.Statement.TheVariants.{Move}
use Rattle.cq_catalog.specs.Contents.{Contents}
use Rattle.cq_answer.specs.declared.answered.Answered.{Answered}
use Rattle.cq_journal.specs.Records.{Journal}
use Rattle.cq_journal.specs.Stations.{node_of}
use Rattle.cq_history.specs.Run.{Run, Rules, Environment, after}
use Rattle.cq_history.specs.Phases.{who_of}
use Rattle.cq_history.specs.Journals.{journal_in}
use Rattle.cq_history.specs.Room.{free_at, stores_to, stores_from, IsRoom}
use Rattle.cq_history.specs.Deeds.{Phase}
use Rattle.cq_history.specs.Log.{IsAnsweredIn}
use Rattle.cq_cell.specs.Lists.{StartsWith}
use Rattle.cq_shared.specs.declared.errand.Errand.{Errand}
use Rattle.cq_shared.specs.declared.errand.Errand.TheVariants as errand
use Rattle.cq_shared.specs.Errands.{sent_by, tooks, gaves}

-- a block as it is opened: the catalogue and the settings, the journals of the shard groups, and the numbers of its sessions
pub record Opening : Type 0 where
  pub environment : Environment
  pub journals : List Journal
  pub sessions : List ℕ

-- what the passes of a session have seen: the journals, and the notes of the worker at each place
pub record Known : Type 0 where
  pub journals : List Journal
  pub errands : ℕ → List Errand

-- at first nothing was noted
abbrev pub at_first : Opening → Known
at_first o = record { journals = o.journals; errands = λ at. [] }

-- ---- spare stores

-- the statement whose note it is
abbrev pub statement_in : Errand → ℕ
statement_in (errand.Took who n) = who.statement
statement_in (errand.Room who n) = who.statement
statement_in (errand.Gave who) = who.statement

abbrev pub sent_for : Who → Errand → Bool
sent_for who n = nat_eq (sent_by n) who.session && nat_eq (statement_in n) who.statement

-- how many stores of the worker at a place were spare as the block was opened
abbrev pub free_first : Run → Opening → ℕ → ℕ
free_first run o at = free_at run o.environment.catalog o.environment.retired (λ g. node_of (journal_in o.journals g)) at

-- so many were spare at some point of these notes, before the statement noted anything there
pub record WereFree (run : Run) (o : Opening) (at : ℕ) (notes : List Errand) (who : Who) (free : ℕ) : Type 0 where
  pub some : List Errand
  pub begins : StartsWith notes some
  pub before : AllByRecursion (λ n. sent_for who n ≡ false) some
  pub is : free + tooks some ≡ free_first run o at + gaves some

-- a move looks for spare stores at the node to which it goes, and found so many; other statements look for none
abbrev pub Finds : Run → Opening → (ℕ → List Errand) → Who → Option Statement → ℕ → Type 0
Finds run o errands who (Some (Move shard from to)) free = WereFree run o (to - 1) (errands (to - 1)) who free
Finds run o errands who bound free = ⊤

-- it may find so many in a phase, by what the other statements take and give
abbrev pub MayFind : Run → Opening → Phase → Option Statement → ℕ → Type 0
MayFind run o p (Some (Move shard from to)) free =
    IsRoom run o.environment.catalog o.environment.retired (λ g. node_of (journal_in o.journals g)) p.beside (to - 1) free
MayFind run o p bound free = ⊤

-- a statement's notes at the worker of a node: at no time more was taken than its move takes there and was given back, nor more given than its move gives
-- there and was taken
pub record KeepsWithin (c : Contents) (node : ℕ) (bound : Option Statement) (notes : List Errand) : Type 0 where
  pub took : (some : List Errand) → StartsWith notes some → tooks some ≤ gaves some + stores_to c node bound
  pub gave : (some : List Errand) → StartsWith notes some → gaves some ≤ tooks some + stores_from c node bound

-- what a statement noted at the worker at a place, with what sessions beside noted meanwhile
pub record Sends (c : Contents) (at : ℕ) (a : Answered) (old new : List Errand) : Type 0 where
  pub more : List Errand
  pub all : new ≡ old ++ more
  pub own : AllByRecursion (λ n. sent_by n ≡ a.session → statement_in n ≡ a.statement) more
  pub within : KeepsWithin c (at + 1) a.bound (filter (sent_for (who_of a)) more)

-- ---- statements

-- a phase, as it is for the statements of a session: it began as the block was opened, and the other sessions run beside
pub record IsPhaseOf (o : Opening) (s : ℕ) (p : Phase) : Type 0 where
  pub journals : p.journals ≡ o.journals
  pub sessions : p.sessions ≡ filter (λ t. not (nat_eq t s)) o.sessions

-- a statement of a session is answered, whichever statements run beside it, if only what it found of spare stores may be found beside them
pub record IsAnsweredBeside (rules : Rules) (run : Run) (o : Opening) (a : Answered) (old new : Known) : Type 0 where
  pub sends : (at : ℕ) → Sends o.environment.catalog at a (old.errands at) (new.errands at)
  pub free : ℕ
  pub finds : Finds run o new.errands (who_of a) a.bound free
  pub answered : (p : Phase) → IsPhaseOf o a.session p → MayFind run o p a.bound free →
      IsAnsweredIn rules run o.environment (after o.environment a.bound a.answer) p (who_of a) old.journals new.journals a.bound a.answer

-- the answers of a session, one statement after the other
abbrev pub AreAnswered : Rules → Run → Opening → Known → List Answered → Known → Type 0
AreAnswered rules run o old [] new = new ≡ old
AreAnswered rules run o old (a ∷ more) new = (mid : Known) × IsAnsweredBeside rules run o a old mid × AreAnswered rules run o mid more new

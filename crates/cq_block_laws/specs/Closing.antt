-- What is known as a block is closed: the notes of each shard group and worker, what each session has seen of them, and its answers.
use Rattle.std.specs.Prelude.{◌≡◌, ◌≢◌, ◌+◌, ◌<◌, ◌≤◌, ⊤, ℕ, List, [], ◌∷◌, ◌++◌, length, map}
use Rattle.std.specs.List.{AllByRecursion, flat_map}
use Rattle.cq_answer.specs.declared.answered.Answered.{Answered}
use Rattle.cq_answer.specs.declared.answered.Settings.{Settings}
use Rattle.cq_journal.specs.Records.{Journal}
use Rattle.cq_history.specs.Run.{Run, Rules}
use Rattle.cq_history.specs.Phases.{MayBeInBlock}
use Rattle.cq_history.specs.Journals.{journal_in}
use Rattle.cq_cell.specs.Lists.{NotIn, own, StartsWith}
use Rattle.cq_shared.specs.declared.note.Note.{Note}
use Rattle.cq_shared.specs.declared.errand.Errand.{Errand}
use Rattle.cq_shared.specs.Notes.{who_of, entries_in}
use Rattle.cq_shared.specs.Errands.{sent_by}
use Rattle.cq_block_laws.specs.Serving.{Opening, Known, at_first, AreAnswered}

-- ---- the answers of a block

-- a session's number, and its answers
pub record Session : Type 0 where
  pub number : ℕ
  pub answers : List Answered

abbrev pub numbers_of : List Session → List ℕ
numbers_of sessions = map (λ (s : Session). s.number) sessions

-- all answers, in the order of the sessions
abbrev pub answers_of : List Session → List Answered
answers_of sessions = flat_map (λ (s : Session). s.answers) sessions

-- an answer of a session, in a block of so many statements behind those of the phases before
pub record IsOfSession (first count : ℕ) (given : Settings) (s : ℕ) (a : Answered) : Type 0 where
  pub session : a.session ≡ s
  pub phase : a.phase ≡ first
  pub low : first ≤ a.statement
  pub high : a.statement < first + count
  pub settings : a.settings ≡ given
  pub allowed : MayBeInBlock a.bound

-- in the order of their statements
abbrev pub AreRising : List Answered → Type 0
AreRising [] = ⊤
AreRising (a ∷ more) = AllByRecursion (λ (b : Answered). a.statement < b.statement) more × AreRising more

-- no number stands twice
abbrev pub AreApart : List Answered → Type 0
AreApart [] = ⊤
AreApart (a ∷ more) = AllByRecursion (λ (b : Answered). a.statement ≢ b.statement) more × AreApart more

-- sessions in ascending order, each with its answers
abbrev pub AreSessions : ℕ → ℕ → Settings → ℕ → List Session → Type 0
AreSessions first count given low [] = ⊤
AreSessions first count given low (s ∷ more) =
    (low ≤ s.number) × AllByRecursion (IsOfSession first count given s.number) s.answers × AreRising s.answers × AreSessions first count given (s.number + 1) more

-- ---- what the cells tell

-- the notes of a block, from its opening to its end: of each shard group, and of the worker at each place
pub record History : Type 0 where
  pub notes : ℕ → List Note
  pub errands : ℕ → List Errand

-- the journals with the entries of these notes
pub record AreNoted (old : List Journal) (notes : ℕ → List Note) (new : List Journal) : Type 0 where
  pub count : length new ≡ length old
  pub each : (g : ℕ) → g < length old → journal_in new g ≡ record (journal_in old g) { entries = (journal_in old g).entries ++ entries_in (notes g) }

-- a session's pass has seen a beginning of the notes, in which all notes of the session stand
pub record HasSeen {N : Type 0} (who : N → ℕ) (s : ℕ) (all seen : List N) : Type 0 where
  pub begins : StartsWith all seen
  pub own : own who s seen ≡ own who s all

-- a session of a closed block: it answered from what its passes found at the opening to what they know
pub record IsServed (rules : Rules) (run : Run) (o : Opening) (h : History) (s : Session) : Type 0 where
  pub known : Known
  pub answered : AreAnswered rules run o (at_first o) s.answers known
  pub seen : ℕ → List Note
  pub journals : AreNoted o.journals seen known.journals
  pub groups : (g : ℕ) → HasSeen who_of s.number (h.notes g) (seen g)
  pub workers : (at : ℕ) → HasSeen sent_by s.number (h.errands at) (known.errands at)

-- a closed block: each session served its statements, and nobody else noted anything
pub record IsClosed (rules : Rules) (run : Run) (o : Opening) (h : History) (sessions : List Session) (new : List Journal) : Type 0 where
  pub numbers : o.sessions ≡ numbers_of sessions
  pub served : AllByRecursion (IsServed rules run o h) sessions
  pub journals : AreNoted o.journals h.notes new
  pub groups : (g n : ℕ) → NotIn n o.sessions → own who_of n (h.notes g) ≡ []
  pub workers : (at n : ℕ) → NotIn n o.sessions → own sent_by n (h.errands at) ≡ []

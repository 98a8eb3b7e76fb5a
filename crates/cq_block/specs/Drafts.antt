-- The statements of a block, as they are read before its sessions run.
use Rattle.std.specs.Prelude.{◌≡◌, ◌≤◌, ◌<◌, ℕ, List, [], filter, length, nat_eq, Some, Result, Ok, Err, map, vec_capacity}
use Rattle.std.specs.List.{AllByRecursion, AllZip}
use Rattle.cq_catalog.specs.Contents.{Contents}
use Rattle.cq_answer.specs.declared.fault.Fault.{Fault}
use Rattle.cq_history.specs.Computable.{IsComputable}
use Rattle.cq_history.specs.Faults.{IsOfReading}
use Rattle.cq_history.specs.Phases.{MayBeInBlock}
use Rattle.cq_planning.specs.Touched.{numbers}
use Rattle.cq_script.specs.declared.reader.Placed.{Placed}
use Rattle.cq_session.specs.declared.copying.Reading.{Reading}
use Rattle.cq_session.specs.Responses.{IsReadAs}
use Rattle.cq_block.specs.declared.drafts.Draft.{Draft}
use Rattle.cq_block.specs.declared.drafts.SessionDrafts.{SessionDrafts}

-- the statements of a session of a block, in order
abbrev pub of_session : ℕ → List Placed → List Placed
of_session s ps = filter (λ (p : Placed). nat_eq p.session s) ps

-- ---- one statement

-- a statement that may stand in a block, and can be computed over the catalogue; or a fault of reading
abbrev pub MayStand : Contents → Result Reading Fault → Type 0
MayStand c (Ok r) = MayBeInBlock (Some r.statement) × IsComputable c r.statement
MayStand c (Err f) = IsOfReading f

-- the draft of a statement, which was read over the catalogue
pub record IsDraftOf (c : Contents) (p : Placed) (d : Draft) : Type 0 where
  pub placed : d.placed.now ≡ p
  pub reads : IsReadAs p.session p.item.text p.item.copied c.tables d.read
  pub stands : MayStand c d.read

-- ---- a session

-- no draft, and room for each statement of the session
pub record HasRoom (ps : List Placed) (one : SessionDrafts) : Type 0 where
  pub inside : 1 ≤ one.session
  pub empty : one.drafts.items ≡ []
  pub room : length (of_session one.session ps) ≤ vec_capacity one.drafts

-- the session of this number has the drafts of its statements, in order
pub record IsDrafted (c : Contents) (ps : List Placed) (session : ℕ) (one : SessionDrafts) : Type 0 where
  pub same : one.session ≡ session
  pub drafts : AllZip (IsDraftOf c) (of_session session ps) one.drafts.items

-- ---- the sessions of a block, from 1 on

abbrev pub AreNumbered : List SessionDrafts → Type 0
AreNumbered sessions = map (λ (one : SessionDrafts). one.session) sessions ≡ numbers 1 (length sessions)

pub record HaveRooms (ps : List Placed) (sessions : List SessionDrafts) : Type 0 where
  pub numbered : AreNumbered sessions
  pub rooms : AllByRecursion (HasRoom ps) sessions

-- each session has its drafts, and no statement is of another
pub record HaveDrafts (c : Contents) (ps : List Placed) (sessions : List SessionDrafts) : Type 0 where
  pub few : length sessions ≤ 8
  pub numbered : AreNumbered sessions
  pub each : AllByRecursion (λ (one : SessionDrafts). IsDrafted c ps one.session one) sessions
  pub others : (s : ℕ) → length sessions < s → of_session s ps ≡ []

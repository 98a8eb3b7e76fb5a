-- What a query or a write over groups that sessions share needs, and what its answer is.
use Rattle.std.specs.Prelude.{◌≡◌, ◌<◌, ◌^◌, ℕ, List, Option, Some, None, length, Result, Ok, Err}
use Rattle.cq_tree.specs.declared.journal.EntryKind.{EntryKind}
use Rattle.cq_tree.specs.declared.journal.Who.{Who}
use Rattle.cq_tree.specs.declared.statement.Statement.{Statement}
use Rattle.cq_tree.specs.declared.statement.Statement.TheVariants as statement
use Rattle.cq_catalog.specs.Contents.{Contents}
use Rattle.cq_answer.specs.declared.answer.Answer.{Answer}
use Rattle.cq_answer.specs.declared.answered.Settings.{Settings}
use Rattle.cq_answer.specs.declared.fault.Fault.{Fault}
use Rattle.cq_history.specs.Computable.{IsComputable}
use Rattle.cq_history.specs.Deeds.{Phase}
use Rattle.cq_history.specs.Faults.{IsOfReading}
use Rattle.cq_history.specs.Legality.{IsKeyed, IsLegalKind}
use Rattle.cq_history.specs.Log.{IsAnsweredIn}
use Rattle.cq_history.specs.Refusals.{rules}
use Rattle.cq_history.specs.Run.{Run}
use Rattle.cq_reach.specs.Outlook.{Outlook, MayFind}
use Rattle.cq_reach.specs.Seen.{Seen, journals_in}
use Rattle.cq_groups.specs.Found.{MayComeIn}
use Rattle.cq_groups.specs.Looking.{environment_at}
use Rattle.cq_groups.specs.Served.{IsWhole}
use Rattle.cq_session.specs.declared.copying.Reading.{Reading}

-- ---- what was read

-- the bound form
abbrev pub bound_of : Result Reading Fault → Option Statement
bound_of (Ok r) = Some r.statement
bound_of (Err f) = None

-- a query or a write that can be computed over the catalogue
abbrev pub CanRun : Contents → Statement → Type 0
CanRun c (statement.Select q) = IsComputable c (statement.Select q)
CanRun c (statement.Write op) = IsComputable c (statement.Write op)
CanRun c s = ⊥

-- such a statement, or a fault of reading
abbrev pub CanAnswer : Contents → Result Reading Fault → Type 0
CanAnswer c (Ok r) = CanRun c r.statement
CanAnswer c (Err f) = IsOfReading f

-- ---- what its session knows of the groups, and may find there

-- however the statement may find the groups, they are those of the catalogue, on so many nodes, and legal; it may make each legal entry, and what
-- others enter is of sessions beside it
pub record CanServe (c : Contents) (nodes : ℕ) (who : Who) (o : Outlook) : Type 0 where
  pub some : 0 < nodes
  pub keyed : (table : ℕ) → IsKeyed c table
  pub few : length o.known < 2 ^ 32
  pub whole : (found : List Seen) → MayFind o found → IsWhole c nodes found
  pub may : (g : ℕ) (kind : EntryKind) → IsLegalKind c g kind → o.allows g kind
  pub phase : Phase
  pub beside : MayComeIn phase who o.comes

-- ---- its answer

-- it is answered in each phase in which such entries may come, and leaves the catalogue and the settings
abbrev pub IsAnsweredOver : Contents → ℕ → Settings → Who → Outlook → Outlook → Option Statement → Answer → Type 0
IsAnsweredOver c nodes settings who old new bound a =
    (p : Phase) → MayComeIn p who old.comes → (run : Run) (retired : List ℕ) → run.workers ≡ nodes →
    IsAnsweredIn rules run (environment_at c settings retired) (environment_at c settings retired) p who (journals_in old.known) (journals_in new.known) bound a

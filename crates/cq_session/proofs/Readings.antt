-- What was read of a text with its data, in a session.
use Rattle.std.proofs.Common.{◌≤◌, ℕ, List, Some, Result, Ok, Err, refl, subst}
use Rattle.std.specs.Prelude.{IfOk, IfErr}
use Rattle.cq_catalog.specs.Contents.{Contents}
use Rattle.cq_catalog.specs.Whole.{IsWhole}
use Rattle.cq_catalog.specs.declared.info.TableInfo.{TableInfo}
use Rattle.cq_tree.specs.declared.statement.Statement.{Statement}
use Rattle.cq_answer.specs.declared.fault.Fault.{Fault}
use Rattle.cq_answer.specs.declared.fault.Fault.TheVariants as fault
use Rattle.cq_statement.specs.Finding.{Reads}
use Rattle.cq_bound_laws.specs.Laws.{HasColumns}
use Rattle.cq_history.specs.Computable.{IsComputable}
use Rattle.cq_history.specs.Faults.{IsOfReading}
use Rattle.cq_history.specs.Phases.{MayBeInBlock}
use Rattle.cq_coordinator.specs.Coordination.{NeedsNoData}
use Rattle.cq_session.specs.declared.copying.Reading.{Reading}
use Rattle.cq_session.specs.Responses.{IsReadAs, reading_for}
use Rattle.cq_session.proofs.BlockLaws.{bound_outside, allowed_with}
use Rattle.cq_session.proofs.Copies.{computable_with, no_data_with}
use Rattle.cq_session.proofs.Naming.{unread_is_of_reading, session_named}

module _ (session : ℕ) (text bytes : List ℕ) where
  -- it can be computed, and has no data behind it
  pub read_computes : (c : Contents) (read : Result Reading Fault) → IsReadAs session text bytes c.tables read → IsWhole c → HasColumns c → IfOk read (λ r. IsComputable c r.statement × NeedsNoData r.statement)
  read_computes c (Ok r) h whole columns = (
    computable_with c text bytes r.statement (reading_for session text c.tables) whole columns (bound_outside text c.tables session bytes r.statement (reading_for session text c.tables) h.means h.ok) h.ok,
    no_data_with c.tables bytes r.statement (reading_for session text c.tables) h.ok,
  )
  read_computes c (Err f) h whole columns = tt

  -- in a block, it may stand there
  pub read_allowed : (tables : List TableInfo) (read : Result Reading Fault) → IsReadAs session text bytes tables read → 1 ≤ session → IfOk read (λ r. MayBeInBlock (Some r.statement))
  read_allowed tables (Ok r) h low = allowed_with text bytes tables r.statement session (reading_for session text tables) h.means h.ok low
  read_allowed tables (Err f) h low = tt

  -- or it was refused for a fault of reading
  pub read_fault : (tables : List TableInfo) (read : Result Reading Fault) → IsReadAs session text bytes tables read → IfErr read IsOfReading
  read_fault tables (Ok r) h = tt
  read_fault tables (Err f) h = unread_is_of_reading f session text bytes tables h.err

-- so is a text without its data
pub unread_text : (f : Fault) (session : ℕ) (text : List ℕ) (tables : List TableInfo) → Reads (reading_for session text tables) (Err f) → IsOfReading f
unread_text fault.Memory session text tables reads = refl
unread_text f session text tables reads = subst (λ (r : Result Statement Fault). IfErr r IsOfReading) reads (session_named session text tables)

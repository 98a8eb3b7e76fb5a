-- The row changes of one table in a log, and what a log makes of rows.
use Rattle.std.specs.Prelude.{◌≡◌, ℕ, false, List, [], ◌++◌, map, filter, nat_eq}
use Rattle.cq_value.specs.declared.change.Change.{Change}
use Rattle.cq_value.specs.Changes.{applied, Fit}
use Rattle.cq_value.specs.Tables.{Table}
use Rattle.cq_change.specs.declared.log.TableChange.{TableChange}

-- the changes of a table, in order
abbrev pub changes_in : ℕ → List TableChange → List Change
changes_in table log = map (λ (c : TableChange). c.change) (filter (λ (c : TableChange). nat_eq c.table table) log)

-- the changes of a table of this number, as a log has them
abbrev pub logged : ℕ → List Change → List TableChange
logged table changes = map (λ (c : Change). record { table = table; change = c }) changes

-- a log's changes of a table fit the rows before, and applied to them give the rows after
pub record Leads (table : ℕ) (log : List TableChange) (before after : Table) : Type 0 where
  pub fit : Fit before (changes_in table log)
  pub gives : applied before (changes_in table log) ≡ after

-- an empty log leads from rows to the same
abbrev pub EmptyLeads : Type 0
EmptyLeads = (table : ℕ) (rows : Table) → Leads table [] rows rows

-- where a log leads to rows, and more changes of the table go on from these, the log with them leads to what they give
abbrev pub LogGoesOn : Type 0
LogGoesOn = (table : ℕ) (log : List TableChange) (before after : Table) (more : List Change) → Leads table log before after → Fit after more →
    Leads table (log ++ logged table more) before (applied after more)

-- changes of other tables leave where a log leads
abbrev pub OthersStay : Type 0
OthersStay = (table other : ℕ) (log : List TableChange) (before after : Table) (more : List Change) → nat_eq other table ≡ false → Leads table log before after →
    Leads table (log ++ logged other more) before after

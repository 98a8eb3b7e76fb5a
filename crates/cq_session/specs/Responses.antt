-- What a statement's text and its data were read as, and how that is answered.
use Rattle.std.specs.Prelude.{◌≡◌, ◌<◌, ⊤, ℕ, zero, suc, Bool, true, false, if◌then◌else◌, List, [], length, slice_get, Option, Some, None, Result, Ok, Err, IfOk, IfErr}
use Rattle.cq_tree.specs.declared.statement.Statement.{Statement}
use Rattle.cq_tree.specs.declared.statement.Statement.TheVariants as statement
use Rattle.cq_tree.specs.declared.write.ShardOp.TheVariants.{Insert}
use Rattle.cq_catalog.specs.declared.info.TableInfo.{TableInfo}
use Rattle.cq_answer.specs.declared.answer.Answer.{Answer}
use Rattle.cq_answer.specs.declared.answer.Answer.TheVariants as answer
use Rattle.cq_answer.specs.declared.answer.Tag.TheVariants as tag
use Rattle.cq_answer.specs.declared.fault.Fault.{Fault}
use Rattle.cq_answer.specs.declared.fault.Fault.TheVariants as fault
use Rattle.cq_copy.specs.declared.error.CopyError.{CopyError}
use Rattle.cq_copy.specs.declared.error.CopyError.TheVariants.{Columns, BadValue, Encoding, Memory}
use Rattle.cq_copy.specs.Rows.{Row}
use Rattle.cq_copy.specs.Data.{rows_of}
use Rattle.cq_history.specs.Standing.{copied_answer}
use Rattle.cq_coordinator.specs.Coordination.{IsNoCopy}
use Rattle.cq_statement.specs.Finding.{Reads}
use Rattle.cq_statement.specs.Meanings.{Means, MeansInBlock}
use Rattle.cq_statement.specs.Reading.{reading_of, reading_in_block}
use Rattle.cq_session.specs.declared.copying.Reading.{Reading}

-- ---- a text, in a session of a block, or in session 0, which is outside blocks

-- the statement that it stands for there, or why it is refused
abbrev pub reading_for : ℕ → List ℕ → List TableInfo → Result Statement Fault
reading_for zero text tables = reading_of text tables
reading_for (suc session) text tables = reading_in_block text tables

-- the same by the grammar alone
abbrev pub MeansFor : ℕ → List ℕ → List TableInfo → Result Statement Fault → Type 0
MeansFor zero text tables read = Means text tables read
MeansFor (suc session) text tables read = MeansInBlock text tables read

-- ---- a text and its data

-- the fault of data that make no rows
abbrev pub fault_of_copy : CopyError → Fault
fault_of_copy (Columns row found) = fault.Columns row found
fault_of_copy (BadValue row column) = fault.Value row column
fault_of_copy (Encoding row) = fault.Encoding row
fault_of_copy Memory = fault.Memory

-- the INSERT of rows into the table of this number, or the fault of the data that make none
abbrev pub insertion : ℕ → Result (List Row) CopyError → Result Statement Fault
insertion table (Ok rows) = Ok (statement.Write (Insert table rows))
insertion table (Err e) = Err (fault_of_copy e)

-- the INSERT of the rows of data into a table that is there, as that of each COPY is
abbrev pub insertion_into : Option TableInfo → ℕ → List ℕ → Bool → Bool → List ℕ → Result Statement Fault
insertion_into None table columns csv header bytes = Err (fault.UnknownTable [])
insertion_into (Some t) table columns csv header bytes = insertion table (rows_of bytes t columns csv header)

-- a COPY stands for the INSERT of the rows of its data, and another statement for itself
abbrev pub with_data : List ℕ → List TableInfo → Result Statement Fault → Result Statement Fault
with_data bytes tables (Ok (statement.Copy table columns csv header)) = insertion_into (slice_get tables table) table columns csv header bytes
with_data bytes tables read = read

-- the statement that a text and its data stand for, or why they are refused: first what the text shows, and then what the data do
abbrev pub reading_with : ℕ → List ℕ → List ℕ → List TableInfo → Result Statement Fault
reading_with session text bytes tables = with_data bytes tables (reading_for session text tables)

abbrev pub is_copy : Result Statement Fault → Bool
is_copy (Ok (statement.Copy table columns csv header)) = true
is_copy read = false

-- the table of a COPY is there
abbrev pub IsThere : List TableInfo → Statement → Type 0
IsThere tables (statement.Copy table columns csv header) = table < length tables
IsThere tables s = ⊤

-- a text with its data was read so in its session
pub record IsReadAs (session : ℕ) (text bytes : List ℕ) (tables : List TableInfo) (read : Result Reading Fault) : Type 0 where
  pub ok : IfOk read (λ r. reading_with session text bytes tables ≡ Ok r.statement)
  pub copy : IfOk read (λ r. r.is_copy ≡ is_copy (reading_for session text tables))
  pub err : IfErr read (λ f. Reads (reading_with session text bytes tables) (Err f))
  pub means : MeansFor session text tables (reading_for session text tables)

-- ---- its answer

-- an answer as it is written: that of a COPY's rows as a COPY's
abbrev pub tagged : Bool → Answer → Answer
tagged copied a = if copied then copied_answer a else a

-- no success of a COPY is written as an INSERT's, and no other as a COPY's
abbrev pub IsTagged : Bool → Answer → Type 0
IsTagged true (answer.Tag (tag.Insert n)) = ⊥
IsTagged true a = ⊤
IsTagged false a = IsNoCopy a

-- the bound form is what was read. There is none where the answer is why that is refused, or memory ran out as it was read
abbrev pub IsBoundTo : Option Statement → Answer → Result Statement Fault → Type 0
IsBoundTo (Some s) a (Ok t) = s ≡ t
IsBoundTo (Some s) a (Err f) = ⊥
IsBoundTo None (answer.Failed fault.Memory) read = ⊤
IsBoundTo None a (Ok t) = ⊥
IsBoundTo None a (Err f) = a ≡ answer.Failed f

-- the bound form is what the text means in its session over these tables, with its data, and the answer is written as the text's
pub record ReadsAs (session : ℕ) (bound : Option Statement) (a : Answer) (text bytes : List ℕ) (tables : List TableInfo) : Type 0 where
  pub read : Result Statement Fault
  pub means : MeansFor session text tables read
  pub is_bound : IsBoundTo bound a (with_data bytes tables read)
  pub is_tagged : IsTagged (is_copy read) a

-- Data in CSV: the records, which are those that the reader of csv gives with its default settings, and the rows.
use Rattle.std.specs.Prelude.{◌≡◌, ℕ, ◌+◌, Bool, true, false, if◌then◌else◌, List, [], ◌∷◌, length, Option, Some, None, Result, Err}
use Rattle.std.specs.Borrow.{Bor}
use Rattle.std.specs.List.{list_all}
use Rattle.std.specs.Str.{is_utf8}
use Rattle.csv.specs.Machine.{Read}
use Rattle.csv.specs.Reading.{Ready, default_config, reader_config, reader_state, reader_trim, records_from, source_of, strip_bom}
use Rattle.csv.specs.declared.parser.State.{State}
use Rattle.csv.specs.declared.parser.State.TheVariants.{StartRecord}
use Rattle.csv.specs.declared.reader.Reader.{Reader}
use Rattle.csv.specs.declared.reader.Trim.TheVariants as trim
use Rattle.cq_catalog.specs.declared.info.TableInfo.{TableInfo}
use Rattle.cq_copy.specs.declared.error.CopyError.{CopyError}
use Rattle.cq_copy.specs.declared.error.CopyError.TheVariants.{Encoding}
use Rattle.cq_copy.specs.declared.format.Format.TheVariants as format
use Rattle.cq_copy.specs.Rows.{Row, row_of_fields, rows_from}

-- the fields of a record
abbrev pub Record : Type 0
Record = List (List ℕ)

-- the records of the data; each takes a byte at least
abbrev pub records : List ℕ → List Record
records bytes = records_from default_config (length bytes + 1) StartRecord (strip_bom bytes)

-- with a header the first record is passed over
abbrev pub under : Bool → List Record → List Record
under header [] = []
under header (r ∷ rs) = if header then rs else r ∷ rs

-- the row of a record
unfoldable pub row_of_record : TableInfo → List ℕ → ℕ → Record → Result Row CopyError
row_of_record t listed row record_ = if list_all is_utf8 record_ then row_of_fields format.Csv t listed row record_ else Err (Encoding row)

-- the rows of data in CSV
abbrev pub rows_of_csv : List ℕ → TableInfo → List ℕ → Bool → Result (List Row) CopyError
rows_of_csv bytes t listed header = rows_from (row_of_record t listed) 1 (under header (records bytes))

-- ---- a reader of data

-- it reads records with the default settings; it is in this state, and these bytes are left
pub record Reads (r : Reader (Bor (List ℕ))) (s : State) (left : List ℕ) : Type 0 where
  pub config : reader_config r ≡ default_config
  pub trim : reader_trim r ≡ trim.None
  pub ready : Ready r
  pub state : reader_state r ≡ s
  pub source : source_of (λ (b : Bor (List ℕ)). Some b.now) r ≡ Some left

-- a read gave the next record, and the reader reads on behind it; or there was none
abbrev pub Gave : Option Read → Bool → Record → Reader (Bor (List ℕ)) → Type 0
Gave None found fields r = found ≡ false
Gave (Some next) found fields r = (found ≡ true) × (fields ≡ next.0) × Reads r next.1 next.2

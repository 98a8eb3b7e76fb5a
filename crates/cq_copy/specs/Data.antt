-- The data of a COPY, in either format.
use Rattle.std.specs.Prelude.{ℕ, Bool, if◌then◌else◌, List, Result}
use Rattle.cq_catalog.specs.declared.info.TableInfo.{TableInfo}
use Rattle.cq_copy.specs.declared.error.CopyError.{CopyError}
use Rattle.cq_copy.specs.Rows.{Row, rows_of_text}
use Rattle.cq_copy.specs.Records.{rows_of_csv}

-- the rows of the data in the listed columns of the table, or the first refusal
abbrev pub rows_of : List ℕ → TableInfo → List ℕ → Bool → Bool → Result (List Row) CopyError
rows_of bytes t listed csv header = if csv then rows_of_csv bytes t listed header else rows_of_text bytes t listed

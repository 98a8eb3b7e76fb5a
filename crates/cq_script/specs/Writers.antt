-- What a writer of CSV over bytes in memory has written.
use Rattle.std.specs.Prelude.{◌≡◌, ℕ, false, List, ◌++◌, Vec}
use Rattle.csv.specs.Writing.{fields_written, has_written, writer_pending, writer_setup, writer_under}
use Rattle.csv.specs.declared.writer.Writer.{Writer}
use Rattle.cq_script.specs.Texts.{csv_writer}

abbrev pub shown : {A : Type 0} → Writer (Vec ℕ A) → List ℕ
shown w = (writer_under w).items ++ writer_pending w

-- it stands at the front of a record
pub record IsAtFront {A : Type 0} (w : Writer (Vec ℕ A)) : Type 0 where
  pub setup : writer_setup w ≡ csv_writer
  pub fields : fields_written w ≡ 0
  pub clean : has_written w ≡ false

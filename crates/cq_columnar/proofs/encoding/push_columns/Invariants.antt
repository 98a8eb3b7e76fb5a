use Rattle.std.proofs.Common.{◌≡◌, ◌-◌, ◌<◌, ◌++◌, ℕ}
use Rattle.std.specs.List.{AllByRecursion}
use Rattle.cq_columnar.specs.Chunks.{column, columns_bytes, IsValue}
use Rattle.cq_columnar.proofs.WritingLaws.{from}
use Rattle.cq_columnar.proofs.encoding.push_columns.Given as goal

abbrev pub invariant-loop-place : goal.invariant-loop-place
invariant-loop-place l = record {
  bytes : l.out.items ++ columns_bytes (l.columns - l.place) (from l.place l.rows) ≡ l.fn.out.items ++ columns_bytes l.columns (from 0 l.rows);
  are : (k : ℕ) → k < l.place → AllByRecursion IsValue (column l.rows k);
}

use Rattle.std.proofs.Common.{◌≡◌, ◌++◌, drop, map, []}
use Rattle.csv.specs.Records.{fields_of, partial_of}
use Rattle.cq_script.proofs.csv_table.fill.Given as goal

abbrev pub invariant-loop-field : goal.invariant-loop-field
invariant-loop-field g l = (partial_of l.line ≡ []) × (fields_of l.line ++ map g.F.CsvField.bytes (drop l.field-index l.fields) ≡ map g.F.CsvField.bytes l.fields)

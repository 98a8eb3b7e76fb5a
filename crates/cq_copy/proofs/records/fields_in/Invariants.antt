use Rattle.std.proofs.Common.{◌≡◌, ◌++◌, List, ℕ, Bor, drop, map}
use Rattle.csv.specs.Records.{fields_of}
use Rattle.cq_copy.proofs.records.fields_in.Given as goal

abbrev pub invariant-loop-field : goal.invariant-loop-field
invariant-loop-field l = (l.field-iterator.row.now ≡ l.fn.raw) × (map (λ (f : Bor (List ℕ)). f.now) l.fields.items ++ drop l.field-iterator.at (fields_of l.fn.raw) ≡ fields_of l.fn.raw)

use Rattle.std.proofs.Common.{◌≡◌, length}
use Rattle.cq_columnar.specs.Reading.{values_onto}
use Rattle.cq_columnar.proofs.DraftLaws.{onto_from}
use Rattle.cq_columnar.proofs.columns.push_values.Given as goal

abbrev pub invariant-loop-place : goal.invariant-loop-place
invariant-loop-place l = record {
  len : length l.drafts.items ≡ length l.fn.drafts.items;
  read : onto_from l.place l.drafts.items l.tags l.rest ≡ values_onto l.fn.drafts.items l.tags l.bytes;
}

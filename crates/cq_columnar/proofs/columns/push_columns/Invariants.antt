use Rattle.std.proofs.Common.{◌≡◌, ◌-◌}
use Rattle.cq_columnar.specs.Reading.{columns_onto}
use Rattle.cq_columnar.proofs.columns.push_columns.Given as goal

abbrev pub invariant-loop : goal.invariant-loop
invariant-loop l = columns_onto l.drafts.items (l.columns - l.counter) l.rest ≡ columns_onto l.fn.drafts.items l.columns l.bytes

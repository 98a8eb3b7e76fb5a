use Rattle.std.proofs.Common.{◌≡◌}
use Rattle.std.specs.List.{list_any}
use Rattle.std.specs.HashSet.{contains}
use Rattle.cq_meaning.specs.Values.{same_row}
use Rattle.cq_meaning.specs.Groups.{distinct}
use Rattle.cq_keys.specs.declared.key.RowKey.{RowKey}
use Rattle.cq_keys.proofs.once.distinct.Given as goal

abbrev pub invariant-loop-row : goal.invariant-loop-row
invariant-loop-row l = record {
  all : l.all ≡ distinct l.yielded;
  seen : (q : RowKey) → contains (λ a b. same_row a.row b.row) l.seen q ≡ list_any (same_row q.row) l.all;
}

use Rattle.std.proofs.Common.{◌≡◌, replicate}
use Rattle.cq_value.specs.declared.value.Value.TheVariants as value
use Rattle.cq_bind_statements.proofs.rows.nulls.Given as goal

abbrev pub invariant-loop-i : goal.invariant-loop-i
invariant-loop-i l = l.row ≡ replicate l._i value.Null

use Rattle.std.proofs.Common.{◌≡◌, map}
use Rattle.cq_value.specs.Tables.{Pair}
use Rattle.cq_group.proofs.table.rows_alone.Given as goal

abbrev pub invariant-loop-pair : goal.invariant-loop-pair
invariant-loop-pair l = l.rows ≡ map (λ (p : Pair). p.1) l.yielded

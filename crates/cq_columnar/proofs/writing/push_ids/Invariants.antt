use Rattle.std.proofs.Common.{◌≡◌, ◌++◌, map, take}
use Rattle.cq_value.specs.Tables.{Pair}
use Rattle.cq_columnar.specs.Chunks.{ids_bytes}
use Rattle.cq_columnar.proofs.writing.push_ids.Given as goal

abbrev pub invariant-loop-id : goal.invariant-loop-id
invariant-loop-id l = l.out.items ≡ l.fn.out.items ++ ids_bytes (map (λ (p : Pair). p.0) (take l.id-index l.rows))

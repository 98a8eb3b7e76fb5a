use Rattle.std.proofs.Common.{◌≡◌, ◌++◌}
use Rattle.std.specs.Prelude.{filter}
use Rattle.std.specs.Vec.Iter.{into_iter_items}
use Rattle.cq_value.specs.Tables.{Pair}
use Rattle.cq_columnar.proofs.search.push_found.Given as goal

abbrev pub invariant-loop-id : goal.invariant-loop-id
invariant-loop-id g l = l.found ++ filter (λ (p : Pair). g.S.Search.wants l.search p.1) (into_iter_items l.id-iterator) ≡ l.fn.found ++ filter (λ (p : Pair). g.S.Search.wants l.search p.1) l.fn.rows

use Rattle.std.proofs.Common.{◌≡◌, drop}
use Rattle.cq_meaning.specs.Sorting.{keys_cmp}
use Rattle.cq_queries.proofs.sorting.compare_keys.Given as goal

abbrev pub invariant-loop-key : goal.invariant-loop-key
invariant-loop-key l = keys_cmp (drop l.key-index l.keys) l.a l.b ≡ keys_cmp l.keys l.a l.b

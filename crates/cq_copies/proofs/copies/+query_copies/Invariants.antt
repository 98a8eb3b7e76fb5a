use Rattle.std.proofs.Common.{◌≡◌, take}
use Rattle.cq_copies.proofs.copies.+query_copies.Given as goal

abbrev pub invariant-copy_queries-loop-q : goal.invariant-copy_queries-loop-q
invariant-copy_queries-loop-q l = l.copies ≡ take l.q-index l.queries

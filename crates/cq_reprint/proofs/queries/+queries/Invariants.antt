use Rattle.std.proofs.Common.{◌≡◌, take}
use Rattle.cq_reprint.proofs.queries.+queries.Given as goal

abbrev pub invariant-same_queries-each : goal.invariant-same_queries-each
invariant-same_queries-each l = take l.i l.a ≡ take l.i l.b

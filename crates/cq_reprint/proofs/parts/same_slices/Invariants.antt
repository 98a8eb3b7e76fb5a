use Rattle.std.proofs.Common.{◌≡◌, take}
use Rattle.cq_reprint.proofs.parts.same_slices.Given as goal

abbrev pub invariant-each : goal.invariant-each
invariant-each g l = take l.i l.a ≡ take l.i l.b

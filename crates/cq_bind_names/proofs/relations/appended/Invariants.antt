use Rattle.std.proofs.Common.{◌≡◌, ◌++◌}
use Rattle.cq_bind_names.proofs.relations.appended.Given as goal

abbrev pub invariant-loop-item : goal.invariant-loop-item
invariant-loop-item g l = l.all ≡ l.fn.a ++ l.yielded

use Rattle.std.proofs.Common.{◌≡◌, map}
use Rattle.cq_bind_tests.specs.Chains.{part_of, equality}
use Rattle.cq_bind_tests.proofs.chains.equalities.Given as goal

abbrev pub invariant-loop-item : goal.invariant-loop-item
invariant-loop-item l = l.parts ≡ map part_of (map (equality l.x) l.yielded)

use Rattle.std.proofs.Common.{◌≡◌, [], take, drop}
use Rattle.cq_catalog.specs.Creation.{repeated_after}
use Rattle.cq_catalog.proofs.create.repeated.Given as goal

abbrev pub invariant-loop-place : goal.invariant-loop-place
invariant-loop-place l = repeated_after [] l.columns ≡ repeated_after (take l.place l.columns) (drop l.place l.columns)

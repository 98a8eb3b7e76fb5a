use Rattle.std.proofs.Common.{◌≡◌, ◌-◌, fold, take, length}
use Rattle.std.specs.Prelude.{None}
use Rattle.cq_plan.specs.Begun.{begun_by}
use Rattle.cq_plan.proofs.sets.set_at.Given as goal

abbrev pub invariant-loop-back : goal.invariant-loop-back
invariant-loop-back l = fold (begun_by l.column) None l.relations ≡ fold (begun_by l.column) None (take (length l.relations - l.back) l.relations)

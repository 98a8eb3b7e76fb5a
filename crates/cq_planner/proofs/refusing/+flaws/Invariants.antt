use Rattle.std.proofs.Common.{◌≡◌, drop}
use Rattle.cq_planner.specs.Flaws.{either, flaws_among}
use Rattle.cq_planner.proofs.refusing.+flaws.Given as goal

abbrev pub invariant-flaws_of_all-loop-plan : goal.invariant-flaws_of_all-loop-plan
invariant-flaws_of_all-loop-plan l = either l.all (flaws_among l.repartition (drop l.plan-index l.plans)) ≡ flaws_among l.repartition l.plans

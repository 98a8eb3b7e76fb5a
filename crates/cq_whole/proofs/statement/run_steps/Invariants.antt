use Rattle.std.proofs.Common.{◌≡◌, drop, length}
use Rattle.std.specs.List.{AllByRecursion}
use Rattle.cq_meaning_laws.specs.WholeRules.{with_steps, has_large_step, AreSafeSteps}
use Rattle.cq_whole.proofs.NumberLaws.{IsPlaced}
use Rattle.cq_whole.proofs.statement.run_steps.Given as goal

abbrev pub invariant-loop-step : goal.invariant-loop-step
invariant-loop-step l = record {
  safe : AreSafeSteps l.tables l.results (drop l.step-index l.steps);
  placed : AllByRecursion (IsPlaced (length l.results)) (drop l.step-index l.steps);
  made : with_steps l.tables l.results (drop l.step-index l.steps) ≡ with_steps l.tables l.fn.results l.steps;
  small : has_large_step l.tables l.results (drop l.step-index l.steps) ≡ has_large_step l.tables l.fn.results l.steps;
}

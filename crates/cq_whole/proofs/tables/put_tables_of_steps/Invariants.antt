use Rattle.std.proofs.Common.{◌≡◌, ◌++◌, drop}
use Rattle.cq_whole.specs.Tables.{tables_of_steps}
use Rattle.cq_whole.proofs.tables.put_tables_of_steps.Given as goal

abbrev pub invariant-loop-step : goal.invariant-loop-step
invariant-loop-step l = l.tables ++ tables_of_steps (drop l.step-index l.steps) ≡ l.fn.tables ++ tables_of_steps l.steps

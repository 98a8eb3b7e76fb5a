use Rattle.cq_subplan_laws.proofs.Orders.{subplans_answer}
use Rattle.cq_subplan_laws.proofs.LargeAgain.{subplans_large, steps_large}
use Rattle.cq_subplan_laws.proofs.TaskWidths.{tasks_fit}
use Rattle.cq_subplan_laws.proofs.subplan_laws.Goals as goal

pub returns-clause-answer : goal.returns-clause-answer
returns-clause-answer c = subplans_answer

pub returns-clause-large : goal.returns-clause-large
returns-clause-large c = subplans_large

pub returns-clause-large_step : goal.returns-clause-large_step
returns-clause-large_step c = steps_large

pub returns-clause-tasks : goal.returns-clause-tasks
returns-clause-tasks c = tasks_fit

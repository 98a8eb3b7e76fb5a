use Rattle.cq_reading_laws.proofs.StepQueries.{statements_bound, widths_are_there}
use Rattle.cq_reading_laws.proofs.step_laws.Goals as goal

pub returns-clause-statements : goal.returns-clause-statements
returns-clause-statements c = statements_bound

pub returns-clause-widths : goal.returns-clause-widths
returns-clause-widths c = widths_are_there

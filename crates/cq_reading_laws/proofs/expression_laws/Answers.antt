use Rattle.cq_reading_laws.proofs.FineWalk.{results_grow, expressions_bound, grouped_bound}
use Rattle.cq_reading_laws.proofs.expression_laws.Goals as goal

pub returns-clause-results : goal.returns-clause-results
returns-clause-results c = results_grow

pub returns-clause-expressions : goal.returns-clause-expressions
returns-clause-expressions c = expressions_bound

pub returns-clause-grouped : goal.returns-clause-grouped
returns-clause-grouped c = grouped_bound

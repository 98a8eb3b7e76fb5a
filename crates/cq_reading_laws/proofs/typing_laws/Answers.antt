use Rattle.cq_reading_laws.proofs.TypedWhole.{expressions_typed, grouped_typed, selects_typed}
use Rattle.cq_reading_laws.proofs.TypedStatements.{queries_typed}
use Rattle.cq_reading_laws.proofs.TypedResults.{results_there}
use Rattle.cq_reading_laws.proofs.TypedNumbers.{results_numbered}
use Rattle.cq_reading_laws.proofs.TypedWrites.{updates_typed, deletions_typed}
use Rattle.cq_reading_laws.proofs.typing_laws.Goals as goal

pub returns-clause-expressions : goal.returns-clause-expressions
returns-clause-expressions c = expressions_typed

pub returns-clause-grouped : goal.returns-clause-grouped
returns-clause-grouped c = grouped_typed

pub returns-clause-selects : goal.returns-clause-selects
returns-clause-selects c = selects_typed

pub returns-clause-queries : goal.returns-clause-queries
returns-clause-queries c = queries_typed

pub returns-clause-results : goal.returns-clause-results
returns-clause-results c = results_there

pub returns-clause-numbers : goal.returns-clause-numbers
returns-clause-numbers c = results_numbered

pub returns-clause-updates : goal.returns-clause-updates
returns-clause-updates c = updates_typed

pub returns-clause-deletions : goal.returns-clause-deletions
returns-clause-deletions c = deletions_typed

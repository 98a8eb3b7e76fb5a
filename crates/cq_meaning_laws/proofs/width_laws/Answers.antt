use Rattle.cq_meaning_laws.proofs.WidthLaws.{below, safe, safe_condition}
use Rattle.cq_meaning_laws.proofs.SafeLaws.{safe_query, query_fits, safe_write}
use Rattle.cq_meaning_laws.proofs.WholeLaws.{results_in_steps, statements_fit}
use Rattle.cq_meaning_laws.proofs.width_laws.Goals as goal

pub returns-clause-expressions : goal.returns-clause-expressions
returns-clause-expressions c ks row results e w b = (safe ks row results w e b, below ks row results w e b)

pub returns-clause-conditions : goal.returns-clause-conditions
returns-clause-conditions c ks row results d w b = safe_condition ks row results w d b

pub returns-clause-queries : goal.returns-clause-queries
returns-clause-queries c cs db results q holds b = safe_query cs db results holds q b

pub returns-clause-outputs : goal.returns-clause-outputs
returns-clause-outputs c cs db results q holds b small = query_fits cs db results holds q b small

pub returns-clause-writes : goal.returns-clause-writes
returns-clause-writes c = safe_write

pub returns-clause-results : goal.returns-clause-results
returns-clause-results c = results_in_steps

pub returns-clause-statements : goal.returns-clause-statements
returns-clause-statements c = statements_fit

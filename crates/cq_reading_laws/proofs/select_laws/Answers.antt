use Rattle.cq_reading_laws.proofs.FineTree.{selects_bound}
use Rattle.cq_reading_laws.proofs.FineQueries.{queries_bound}
use Rattle.cq_reading_laws.proofs.RefusalWalk.{groups_alone}
use Rattle.cq_reading_laws.proofs.select_laws.Goals as goal

pub returns-clause-selects : goal.returns-clause-selects
returns-clause-selects c = selects_bound

pub returns-clause-queries : goal.returns-clause-queries
returns-clause-queries c = queries_bound

pub returns-clause-alone : goal.returns-clause-alone
returns-clause-alone c = groups_alone

use Rattle.cq_journal.proofs.Ids.{rows_have_ids, next_rises}
use Rattle.cq_journal.proofs.laws.id_laws.Goals as goal

pub returns-clause-rows : goal.returns-clause-rows
returns-clause-rows c = rows_have_ids

pub returns-clause-rising : goal.returns-clause-rising
returns-clause-rising c = next_rises

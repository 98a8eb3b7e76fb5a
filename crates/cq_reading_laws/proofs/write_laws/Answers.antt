use Rattle.cq_reading_laws.proofs.FineWrites.{updates_bound, deletions_bound}
use Rattle.cq_reading_laws.proofs.write_laws.Goals as goal

pub returns-clause-updates : goal.returns-clause-updates
returns-clause-updates c = updates_bound

pub returns-clause-deletions : goal.returns-clause-deletions
returns-clause-deletions c = deletions_bound

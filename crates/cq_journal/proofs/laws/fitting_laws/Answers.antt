use Rattle.cq_journal.proofs.Fitting.{rows_fit, fits_within, replay_within}
use Rattle.cq_journal.proofs.laws.fitting_laws.Goals as goal

pub returns-clause-rows : goal.returns-clause-rows
returns-clause-rows c = rows_fit

pub returns-clause-within : goal.returns-clause-within
returns-clause-within c = fits_within

pub returns-clause-replay : goal.returns-clause-replay
returns-clause-replay c = replay_within

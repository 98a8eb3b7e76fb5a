use Rattle.cq_change.proofs.LogLaws.{empty_leads, log_goes_on, others_stay}
use Rattle.cq_change.proofs.laws.log_laws.Goals as goal

pub returns : goal.returns
returns c = record { empty = empty_leads; goes_on = log_goes_on; others = others_stay }

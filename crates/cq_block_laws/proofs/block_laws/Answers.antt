use Rattle.cq_block_laws.proofs.Ordered.{block_keeps}
use Rattle.cq_block_laws.proofs.Phases.{block_is_phase, block_goes_on}
use Rattle.cq_block_laws.proofs.Served.{quiet_beside, answers_on}
use Rattle.cq_block_laws.proofs.Still.{moves_are_over}
use Rattle.cq_block_laws.proofs.block_laws.Goals as goal

pub returns : goal.returns
returns c = record { quiet = quiet_beside; answers = answers_on; phase = block_is_phase; goes_on = block_goes_on; keeps = block_keeps; over = moves_are_over }

use Rattle.cq_move_laws.proofs.Steps.{is_somewhere}
use Rattle.cq_move_laws.proofs.node_law.Goals as goal

pub returns : goal.returns
returns c = is_somewhere

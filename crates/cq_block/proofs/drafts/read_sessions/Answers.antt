use denote.Param.Send.{sendable}
use Rattle.cq_block.proofs.Crosses.{drafts_send}
use Rattle.cq_block.proofs.drafts.read_sessions.Goals as goal

pub for_each_mut-requires-send-T : goal.for_each_mut-requires-send-T
for_each_mut-requires-send-T g c κs within = search (sendable, drafts_send) depth 20

use Rattle.cq_move_laws.proofs.Answering.{unknown_is_answered, node_is_answered, room_is_answered, memory_is_answered}
use Rattle.cq_move_laws.proofs.Reaching.{refused_is_answered, moved_is_answered}
use Rattle.cq_move_laws.proofs.move_laws.Goals as goal

pub returns : goal.returns
returns c = record { unknown = unknown_is_answered; node = node_is_answered; room = room_is_answered; memory = memory_is_answered; refused = refused_is_answered; moved = moved_is_answered }

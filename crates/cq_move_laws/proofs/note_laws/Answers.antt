use Rattle.cq_move_laws.proofs.Noting.{notes_begin, notes_go_on, call_is_noted, free_is_found}
use Rattle.cq_move_laws.proofs.note_laws.Goals as goal

pub returns : goal.returns
returns c = record { begin = notes_begin; go_on = notes_go_on; call = call_is_noted; free = free_is_found }

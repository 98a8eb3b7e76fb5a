use Rattle.cq_turn_laws.proofs.Phasing.{turns_make_phase, turns_are_phase, eras_take_turns}
use Rattle.cq_turn_laws.proofs.Turns.{turns_go_on, turns_keep, turns_are_laid, turns_are_legal, turns_number, turns_enter}
use Rattle.cq_turn_laws.proofs.turn_laws.Goals as goal

pub returns : goal.returns
returns c = record {
  goes_on = turns_go_on;
  keep = turns_keep;
  laid = turns_are_laid;
  legal = turns_are_legal;
  number = turns_number;
  enter = turns_enter;
  phase = turns_make_phase;
  consistent = turns_are_phase;
  eras = eras_take_turns;
}

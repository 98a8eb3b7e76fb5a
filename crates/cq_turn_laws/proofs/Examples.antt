-- A block in turns, worked out: the text of the second session's statement stood before that of the first's, and neither is of a kind that may be in a block.
use Rattle.std.proofs.Common.{◌+◌, ◌<◌, ◌≤◌, inl, inr, ℕ, List, [], ◌∷◌, refl, arith, None}
use Rattle.cq_tree.specs.declared.journal.Who.{Who}
use Rattle.cq_answer.specs.declared.answer.Answer.TheVariants as answer
use Rattle.cq_answer.specs.declared.answered.Answered.{Answered}
use Rattle.cq_answer.specs.declared.fault.Fault.TheVariants as fault
use Rattle.cq_history.specs.Run.{Run, first}
use Rattle.cq_history.specs.Log.{IsConsistent, IsAnswered}
use Rattle.cq_history.specs.Refusals.{rules}
use Rattle.cq_history.proofs.Answering.{refusal_is_answered}
use Rattle.cq_history.proofs.Script.{log_begins}
use Rattle.cq_turn_laws.specs.Turns.{IsOfBlock, IsBlock}
use Rattle.cq_turn_laws.proofs.Phasing.{turns_are_phase}

module _ (run : Run) where
  abbrev asked : ℕ → ℕ → Answered
  asked session number = record { session = session; statement = number; phase = 1; settings = run.settings; bound = None; answer = answer.Failed fault.NotInBlock }

  abbrev block : List Answered
  block = asked 1 2 ∷ asked 2 1 ∷ []

  is_here : (session number : ℕ) → 1 ≤ session → 1 ≤ number → number < 1 + 2 → IsOfBlock 1 2 run.settings (asked session number)
  is_here session number some low high = record { session = some; phase = refl; low = low; high = high; settings = refl; allowed = tt }

  is_block : IsBlock 1 run.settings block
  is_block = record {
    each = (is_here 1 2 (omega arith) (omega arith) (omega arith), (is_here 2 1 (omega arith) (omega arith) (omega arith), tt));
    script = ((inr (record { phase = refl; session = omega arith; order = inl (omega arith, λ same. omega (arith, same)) }), tt), (tt, tt));
  }

  refused : (who : Who) → IsAnswered rules run (first run) (first run) who [] [] None (answer.Failed fault.NotInBlock)
  refused who = (refusal_is_answered rules run (first run) who [] fault.NotInBlock).0 refl

  pub crossed : IsConsistent rules run (first run) block []
  crossed =
      turns_are_phase run (first run) (first run) [] block [] [] (log_begins rules run) is_block
      (first run, [], refused (record { session = 1; statement = 2 }), (first run, [], refused (record { session = 2; statement = 1 }), (refl, refl)))

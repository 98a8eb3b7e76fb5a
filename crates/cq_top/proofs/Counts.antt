-- Rows that are counted in chunks in place of a script: what is written of them, and how such a run ends.
use Rattle.std.proofs.Common.{◌≡◌, ◌≢◌, ◌≤◌, ◌∙◌, inl, inr, ℕ, Bool, true, false, cond, List, [], ◌∷◌, ◌++◌, length, take, drop, refl, sym, ap, subst, arith, Some, Option, IsTrue, append_assoc, append-nil}
use Rattle.std.specs.Prelude.{option_map}
use Rattle.std.proofs.lemmas.List.{take-append-drop}
use Rattle.cq_answer.specs.declared.answered.Answered.{Answered}
use Rattle.cq_script.specs.declared.sink.SinkError.{SinkError}
use Rattle.cq_script.specs.declared.sink.SinkError.TheVariants as errors
use Rattle.cq_script.specs.Directives.{most_statements}
use Rattle.cq_script.specs.Streams.{SourceState, SinkState, Rose, Wrote, WrotePart}
use Rattle.cq_words.specs.declared.settled.Settled.{Settled}
use Rattle.cq_top.specs.declared.log.RunLog.{RunLog}
use Rattle.cq_top.specs.declared.status.Status.{Status}
use Rattle.cq_top.specs.declared.status.Status.TheVariants as statuses
use Rattle.cq_top.specs.declared.ending.Ending.{Ending}
use Rattle.cq_top.specs.declared.ending.Ending.TheVariants.{Done, Usage, ReadFault, Stopped, WriteFault, Memory, Bytes, Halted}
use Rattle.cq_top.specs.Chunks.{count_text, IsCountEnd, HasCounted}
use Rattle.cq_top.specs.Outputs.{status_of, ending_of, stop_by, IsPart}
use Rattle.cq_top.specs.Scripts.{IsHalted}
use Rattle.cq_top.specs.Runs.{IsMisused, HasRun, ServesWords, asked, answers_of, journals_by, pieces_by}
use Rattle.cq_top.specs.Serving.{Writes}
use Rattle.cq_top.proofs.Answering.{calm_first}
use Rattle.cq_top.proofs.RunLaws.{answers_are}

-- a part of a text
text_part : (text : List ℕ) (n : ℕ) → IsPart (text ∷ []) (take n text)
text_part text n = record {
  front = (drop n text ++ [], sym (append_assoc (take n text) (drop n text) []) ∙ ap (λ v. v ++ []) (take-append-drop n text));
  before_last = (take n text, refl);
}

module _ (s : Settled) (q : ℕ × ℕ × ℕ) where
  -- all of the table
  pub counted_whole : (text : List ℕ) (old new : SinkState) → text ≡ count_text s.csv q → Wrote old new text → HasCounted s q statuses.Done old new
  counted_whole text old new is w = record {
    ending = Done;
    end = tt;
    is = refl;
    writes = λ before h. (
      text,
      w.written ∙ ap (option_map (λ u. u ++ text)) h,
      ([], inl (refl, sym (nothing s.journal [])), is ∙ sym (append-nil (count_text s.csv q)) ∙ sym (append-nil (count_text s.csv q ++ []))),
    );
    write_fault = λ e. cc;
    steady_sink = λ t e. cc;
  }
    where
      nothing : (b : Bool) (xs : List ℕ) → cond b xs xs ≡ xs
      nothing true xs = refl
      nothing false xs = refl

  -- a front of it
  pub counted_part : (text : List ℕ) (error : SinkError) (old new : SinkState) → text ≡ count_text s.csv q → WrotePart old new text → (error ≡ errors.Failed → Rose old.faults new.faults) → (IsTrue old.steady → error ≡ errors.Memory) →
      HasCounted s q (status_of (ending_of (stop_by error))) old new
  counted_part text errors.Failed old new is part rose never = record {
    ending = WriteFault;
    end = tt;
    is = refl;
    writes = λ before h. (take part.0 text, part.2.written ∙ ap (option_map (λ u. u ++ take part.0 text)) h, (refl, subst (λ (t : List ℕ). IsPart (t ∷ []) (take part.0 text)) is (text_part text part.0)));
    write_fault = λ e. rose refl;
    steady_sink = λ t e. (let m = never t in cc);
  }
  counted_part text errors.Memory old new is part rose never = record {
    ending = Memory;
    end = tt;
    is = refl;
    writes = λ before h. (take part.0 text, part.2.written ∙ ap (option_map (λ u. u ++ take part.0 text)) h, (refl, subst (λ (t : List ℕ). IsPart (t ∷ []) (take part.0 text)) is (text_part text part.0)));
    write_fault = λ e. cc;
    steady_sink = λ t e. cc;
  }

  -- nothing of it
  pub counted_none : (sink : SinkState) → HasCounted s q statuses.Memory sink sink
  counted_none sink = record {
    ending = Memory;
    end = tt;
    is = refl;
    writes = λ before h. ([], h ∙ ap Some (sym (append-nil before)), (refl, text_part (count_text s.csv q) 0));
    write_fault = λ e. cc;
    steady_sink = λ t e. cc;
  }

no_usage : (ending : Ending) → IsCountEnd ending → ending ≢ Usage
no_usage ending end e = subst IsCountEnd e end

no_read : (ending : Ending) → IsCountEnd ending → ending ≢ ReadFault
no_read ending end e = subst IsCountEnd e end

halted : (s : Settled) (ending : Ending) (answers : List Answered) → IsCountEnd ending → answers ≡ [] → IsHalted s ending answers
halted s Done answers end none = calm_first s answers none
halted s WriteFault answers end none = λ stops. inl (calm_first s answers none stops)
halted s Memory answers end none = λ stops. inl (calm_first s answers none stops)
halted s Usage answers end none = absurd end
halted s ReadFault answers end none = absurd end
halted s Stopped answers end none = absurd end
halted s Bytes answers end none = absurd end
halted s (Halted halt) answers end none = absurd end

-- a run that counts
pub counted_run : {X : Type 0} (words : List (List ℕ)) (workers : ℕ) (q : ℕ × ℕ × ℕ) (st : Status) (log : RunLog X) (source : SourceState) (sink sink_end : SinkState) → (IsMisused words workers → ⊥) → (asked words).chunks ≡ Some q →
    log.answers ≡ [] → log.eras ≡ [] → HasCounted (asked words) q st sink sink_end → HasRun words workers st log source source sink sink_end
counted_run words workers q st log source sink sink_end well chunks none eras h =
    let all : answers_of log ≡ [] = answers_are log eras ∙ none in
    record {
      ending = h.ending;
      usage = λ e. absurd (no_usage h.ending h.end e);
      misused = λ m. absurd (well m);
      ends = inl h.is;
      few = subst (λ (v : List Answered). length v ≤ most_statements) (sym all) (omega arith);
      serves = subst (λ (o : Option (ℕ × ℕ × ℕ)). ServesWords o (asked words) h.ending source source (answers_of log)) (sym chunks) (refl, all, inr h.end);
      halted = halted (asked words) h.ending (answers_of log) h.end all;
      writes = λ before w. subst (λ (o : Option (ℕ × ℕ × ℕ)). Writes (asked words) h.ending st (journals_by o log) (pieces_by o (asked words) h.ending log) before sink_end.written) (sym chunks) (h.writes before w);
      read_fault = λ e. absurd (no_read h.ending h.end e);
      steady_source = λ t e. no_read h.ending h.end e;
      write_fault = h.write_fault;
      steady_sink = h.steady_sink;
    }

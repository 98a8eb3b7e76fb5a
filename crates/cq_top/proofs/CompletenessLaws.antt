-- A run that nothing disturbs completes.
use Rattle.std.proofs.Common.{◌≡◌, ◌⊎◌, inl, inr, ℕ, List, length, refl, sym, ◌∙◌, arith, Some, None, Option}
use Rattle.std.specs.Prelude.{⊤, IsTrue}
use Rattle.std.specs.List.{AllByRecursion}
use Rattle.cq_value.proofs.Lists.{all_weaker}
use Rattle.cq_answer.specs.declared.answered.Answered.{Answered}
use Rattle.cq_store.specs.Stores.{StoreState}
use Rattle.cq_store.specs.declared.worker.Worker.{Worker}
use Rattle.cq_cluster.specs.Steady.{NamesNode}
use Rattle.cq_phase.specs.Steady.{NameNoSteady}
use Rattle.cq_script.specs.declared.reader.Halt.{Halt}
use Rattle.cq_script.specs.Streams.{SourceState, SinkState}
use Rattle.cq_words.specs.declared.settled.Settled.{Settled}
use Rattle.cq_top.specs.declared.log.RunLog.{RunLog}
use Rattle.cq_top.specs.declared.ending.Ending.{Ending}
use Rattle.cq_top.specs.declared.ending.Ending.TheVariants.{Done, Usage, ReadFault, Stopped, WriteFault, Memory, Bytes, Halted}
use Rattle.cq_top.specs.declared.status.Status.{Status}
use Rattle.cq_top.specs.declared.status.Status.TheVariants as statuses
use Rattle.cq_top.specs.Chunks.{IsCountEnd}
use Rattle.cq_top.specs.Completeness.{CompletesCalmly, IsComplete, KeepsLimits, ScriptKeepsLimits}
use Rattle.cq_top.specs.Outputs.{status_of}
use Rattle.cq_top.specs.Runs.{HasRun, ServesWords, Stand, answers_of, asked, eras_of}
use Rattle.cq_top.specs.Scripts.{IsAnswered, IsHalted, ServesBy}
use Rattle.cq_top.specs.Serving.{EndsWith, run_by}
use Rattle.cq_top.proofs.CauseLaws.{eras_are_done}

-- no limit ended it, nor a line out of its place
abbrev EndsWithin : Ending → Type 0
EndsWithin Bytes = ⊥
EndsWithin (Halted halt) = ⊥
EndsWithin ending = ⊤

no_halt : (halt : Halt) → Some halt ≡ None → ⊥
no_halt halt e = cc

kept : (s : Settled) (ending : Ending) (bytes : List ℕ) (taken : ℕ) (answers : List Answered) → KeepsLimits bytes → IsAnswered s ending bytes taken answers → EndsWithin ending
kept s Bytes bytes taken answers k a = absurd (omega (arith, k.size, a.0))
kept s (Halted halt) bytes taken answers k a = absurd (no_halt halt (sym a.2 ∙ k.reads taken a.0 a.1))
kept s Done bytes taken answers k a = tt
kept s Usage bytes taken answers k a = tt
kept s ReadFault bytes taken answers k a = tt
kept s Stopped bytes taken answers k a = tt
kept s WriteFault bytes taken answers k a = tt
kept s Memory bytes taken answers k a = tt

kept_count : (ending : Ending) → ((ending ≡ Usage) ⊎ IsCountEnd ending) → EndsWithin ending
kept_count Bytes (inl e) = cc
kept_count Bytes (inr end) = end
kept_count (Halted halt) (inl e) = cc
kept_count (Halted halt) (inr end) = end
kept_count Done h = tt
kept_count Usage h = tt
kept_count ReadFault h = tt
kept_count Stopped h = tt
kept_count WriteFault h = tt
kept_count Memory h = tt

kept_script : (g : Option (ℕ × ℕ)) (s : Settled) (ending : Ending) (source source_end : SourceState) (answers : List Answered) → ScriptKeepsLimits g source → ServesBy g s ending source source_end answers → EndsWithin ending
kept_script None s ending source source_end answers k serves = let r = serves k.0 k.1 in kept s ending k.0 r.0 answers k.2 r.2
kept_script (Some g) s ending source source_end answers k serves = kept s ending serves.1 serves.2 answers (k serves.1 serves.3) serves.4

kept_words : (o : Option (ℕ × ℕ × ℕ)) (s : Settled) (ending : Ending) (source source_end : SourceState) (answers : List Answered) → ScriptKeepsLimits s.generate source → ServesWords o s ending source source_end answers → EndsWithin ending
kept_words None s ending source source_end answers k serves = kept_script s.generate s ending source source_end answers k serves
kept_words (Some q) s ending source source_end answers k serves = kept_count ending serves.2

-- the ending of a run is one of these three
by_ending : (s : Settled) (ending : Ending) (status : Status) (answers : List Answered) → EndsWithin ending → (ending ≡ Usage → ⊥) → (ending ≡ ReadFault → ⊥) → (status ≡ statuses.WriteFault → ⊥) → IsHalted s ending answers → status ≡ status_of ending →
    IsComplete s.stop status answers
by_ending s Done status answers within usage read write halted e = inl e
by_ending s Usage status answers within usage read write halted e = absurd (usage refl)
by_ending s ReadFault status answers within usage read write halted e = absurd (read refl)
by_ending s Stopped status answers within usage read write halted e = inr (inl (e, halted.0, halted.1))
by_ending s WriteFault status answers within usage read write halted e = absurd (write e)
by_ending s Memory status answers within usage read write halted e = inr (inr e)
by_ending s Bytes status answers within usage read write halted e = absurd within
by_ending s (Halted halt) status answers within usage read write halted e = absurd within

by_status : (s : Settled) (ending : Ending) (status : Status) (answers : List Answered) → EndsWithin ending → (ending ≡ Usage → ⊥) → (ending ≡ ReadFault → ⊥) → (status ≡ statuses.WriteFault → ⊥) → IsHalted s ending answers → EndsWith ending status →
    IsComplete s.stop status answers
by_status s ending status answers within usage read write halted (inl e) = by_ending s ending status answers within usage read write halted e
by_status s ending status answers within usage read write halted (inr (tail, inl w)) = absurd (write w)
by_status s ending status answers within usage read write halted (inr (tail, inr m)) = inr (inr m)

pub completes : {X Y : Type 0} (state : Y → StoreState) (words : List (List ℕ)) (entry : List (Worker Y)) (status : Status) (log : RunLog X) (source source_end : SourceState) (sink sink_end : SinkState) →
    HasRun words (length entry) status log source source_end sink sink_end → NameNoSteady state entry (answers_of log) → Stand (asked words) entry log →
    CompletesCalmly state words entry status log source source_end sink sink_end
completes {X} {Y} state words entry status log source source_end sink sink_end ran names stand steady calm = record {
  ends = by_status (asked words) ran.ending status (answers_of log) (kept_words (asked words).chunks (asked words) ran.ending source source_end (answers_of log) calm.script ran.serves) (λ e. calm.well (ran.usage e)) (λ e. calm.reads (ran.read_fault e))
      (λ e. calm.writes (ran.write_fault e)) ran.halted ran.ends;
  names = unnamed;
  does = eras_are_done (run_by (asked words) entry) (eras_of log) unnamed stand;
}
  where
    unnamed : (node : ℕ) → AllByRecursion (λ (a : Answered). NamesNode a.answer node → ⊥) (answers_of log)
    unnamed node = names node (all_weaker (λ (w : Worker Y). AllByRecursion (λ (x : Y). IsTrue (state x).steady) w.stores.items) (λ (w : Worker Y). AllByRecursion (λ (x : Y). (state x).node ≡ node → IsTrue (state x).steady) w.stores.items)
        (λ w stores. all_weaker (λ (x : Y). IsTrue (state x).steady) (λ (x : Y). (state x).node ≡ node → IsTrue (state x).steady) (λ x t e. t) w.stores.items stores) entry steady)

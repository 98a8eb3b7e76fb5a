-- Answers that are passed on.
use Rattle.std.proofs.Common.{◌≡◌, ◌≤◌, inl, inr, List, Ok, Err, Result, OnOk, refl, sym, ◌∙◌, ap, subst, arith}
use Rattle.std.specs.Prelude.{IfErr}
use Rattle.cq_answer.specs.declared.answered.Answered.{Answered}
use Rattle.cq_script.specs.declared.sink.SinkError.{SinkError}
use Rattle.cq_script.specs.declared.sink.SinkError.TheVariants as errors
use Rattle.cq_script.specs.Directives.{Read}
use Rattle.cq_script.specs.Streams.{SinkState, PutRefused}
use Rattle.cq_words.specs.declared.settled.Settled.{Settled}
use Rattle.cq_top.specs.declared.stop.Stop.{Stop}
use Rattle.cq_top.specs.declared.stop.Stop.TheVariants as stops
use Rattle.cq_top.specs.Outputs.{stop_by, texts}
use Rattle.cq_top.specs.Scripts.{AnswersFirst}
use Rattle.cq_top.specs.Serving.{KeepsSink, BlamesSink, IsCalm, IsCutOff, HaltsBy, StopsAmong, ShowsMore, ShowsBy}
use Rattle.cq_top.proofs.Answering.{may_fail_same}
use Rattle.cq_top.proofs.RunLaws.{blames_cut}
use Rattle.cq_top.proofs.Showing.{part_whole}

pub on_ok : {T E : Type 0} (P : Type 0) (r : Result T E) → P → OnOk r P
on_ok P (Ok x) p = p
on_ok P (Err e) p = tt

pub ok_so : {T E : Type 0} (P Q : Type 0) (r : Result T E) → (P → Q) → OnOk r P → OnOk r Q
ok_so P Q (Ok x) f h = f h
ok_so P Q (Err e) f h = tt

pub err_so : {T E : Type 0} (P Q : E → Type 0) (r : Result T E) → ((e : E) → P e → Q e) → IfErr r P → IfErr r Q
err_so P Q (Ok x) f h = tt
err_so P Q (Err e) f h = f e h

-- ---- a flush that fails

refused_rose : (old new : SinkState) (e : SinkError) → PutRefused old new e → old.faults ≤ new.faults
refused_rose old new errors.Failed h = elim h.rose [ inl lt ↦ omega (arith, lt) | inr same ↦ omega (arith, same.0, same.1) ]
refused_rose old new errors.Memory h = omega (arith, ap (λ (s : SinkState). s.faults) h)

pub refused_keeps : (old new : SinkState) (e : SinkError) → PutRefused old new e → KeepsSink old new
refused_keeps old new errors.Failed h = record { faults = refused_rose old new errors.Failed h; steady = h.steady }
refused_keeps old new errors.Memory h = record { faults = refused_rose old new errors.Memory h; steady = ap (λ (s : SinkState). s.steady) h }

pub refused_written : (old new : SinkState) (e : SinkError) → PutRefused old new e → new.written ≡ old.written
refused_written old new errors.Failed h = h.written
refused_written old new errors.Memory h = ap (λ (s : SinkState). s.written) h

pub refused_cut : (e : SinkError) (stop : Stop) → stop ≡ stop_by e → IsCutOff stop
refused_cut errors.Failed stop is = subst IsCutOff (sym is) tt
refused_cut errors.Memory stop is = subst IsCutOff (sym is) tt

pub refused_blames : (old new : SinkState) (e : SinkError) (stop : Stop) → stop ≡ stop_by e → PutRefused old new e → BlamesSink (stop ≡ stops.WriteFault) old new
refused_blames old new errors.Failed stop is h = blames_cut errors.Failed stop old new is (λ same. h.rose) (λ s. absurd (h.never s))
refused_blames old new errors.Memory stop is h = blames_cut errors.Memory stop old new is (λ same. cc) (λ s. refl)

-- ---- what a stop says there

pub cut_stops : (s : Settled) (stop : Stop) (r : Read) (answers : List Answered) → IsCutOff stop → AnswersFirst s r.phases answers → StopsAmong s stop r answers
cut_stops s stops.WriteFault r answers c h = h
cut_stops s stops.Memory r answers c h = h
cut_stops s stops.Stopped r answers c h = absurd c
cut_stops s (stops.Halted halt) r answers c h = absurd c

pub cut_halts : (s : Settled) (stop : Stop) (answers : List Answered) → IsCutOff stop → IsCalm s answers → HaltsBy s stop answers
cut_halts s stops.WriteFault answers c h = may_fail_same s answers answers h refl
cut_halts s stops.Memory answers c h = may_fail_same s answers answers h refl
cut_halts s stops.Stopped answers c h = absurd c
cut_halts s (stops.Halted halt) answers c h = absurd c

pub passed_shows : (s : Settled) (old mid new : SinkState) (answers more : List Answered) → new.written ≡ mid.written → ShowsMore s old mid answers more → ShowsMore s old new answers more
passed_shows s old mid new answers more e f = λ before shown. e ∙ f before shown

pub cut_shows : (s : Settled) (stop : Stop) (old new : SinkState) (answers more : List Answered) → IsCutOff stop → ShowsMore s old new answers more → ShowsBy s stop old new answers more
cut_shows s stops.WriteFault old new answers more c f = λ before shown. (texts s.csv more, f before shown, part_whole s.csv more)
cut_shows s stops.Memory old new answers more c f = λ before shown. (texts s.csv more, f before shown, part_whole s.csv more)
cut_shows s stops.Stopped old new answers more c f = f
cut_shows s (stops.Halted halt) old new answers more c f = f

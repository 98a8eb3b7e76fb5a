-- The answers of one more phase: how many they are, that they stand behind all others, and whether one of them is a refusal.
use Rattle.std.proofs.Common.{◌≡◌, ◌≢◌, ◌<◌, ◌≤◌, ◌⊎◌, inl, inr, ℕ, ◌+◌, Bool, true, false, List, [], ◌∷◌, ◌++◌, length, drop, Ok, Err, Result, OnOk, refl, sym, ◌∙◌, ap, subst, arith, length-append}
use Rattle.std.specs.Prelude.{◌&&◌, IfErr}
use Rattle.std.specs.List.{AllByRecursion, list_any}
use Rattle.cq_value.proofs.Lists.{all_weaker, all_both, all_append}
use Rattle.cq_value.proofs.Truths.{or_neither, and_both}
use Rattle.cq_answer.specs.declared.answered.Answered.{Answered}
use Rattle.cq_journal.specs.Records.{Journal}
use Rattle.cq_history.specs.Run.{Run, Rules, Environment, environment_from}
use Rattle.cq_history.specs.Phases.{IsNumbered}
use Rattle.cq_history.specs.Log.{IsConsistent}
use Rattle.cq_history.specs.Refusals.{rules}
use Rattle.cq_store.specs.Stores.{StoreState}
use Rattle.cq_cluster.specs.Cluster.{run_of}
use Rattle.cq_coordinator.specs.Coordination.{environment, journals}
use Rattle.cq_script.specs.declared.cutter.Piece.{Piece}
use Rattle.cq_script.specs.declared.reader.Placed.{Placed}
use Rattle.cq_script.specs.declared.reader.Reader.{Reader}
use Rattle.cq_script.specs.Directives.{IsPhaseAt, IsReading, most_statements, with_piece}
use Rattle.cq_phase.specs.Phases.{by_session, sessions}
use Rattle.cq_phase.proofs.Orders.{IsNumberOf, all_numbered, all_counted, all_of_sessions}
use Rattle.cq_phase.proofs.Blocks.{answers_all, answers_count}
use Rattle.cq_words.specs.declared.settled.Settled.{Settled}
use Rattle.cq_top.specs.declared.script.Script.{Script}
use Rattle.cq_top.specs.declared.stop.Stop.{Stop}
use Rattle.cq_top.specs.declared.stop.Stop.TheVariants as stops
use Rattle.cq_top.specs.declared.serving.Serving.{Serving}
use Rattle.cq_top.specs.Scripts.{start, settings_by, fails, AllSucceed, IsLastPhase, FailsLast, MayFailLast}
use Rattle.cq_top.specs.Serving.{IsServing, AnswersNext, Reads, EndsPhase, IsCalm, at_first}
use Rattle.cq_top.proofs.ReadingLaws.{taken_count}

-- ---- the statements of a phase

phase_count : (read : ℕ) (phase : List Placed) → IsPhaseAt read phase → length (by_session phase) ≡ length phase
phase_count read phase (inl s) = let alone = s.2 in subst (λ (ps : List Placed). length (by_session ps) ≡ length ps) (sym s.1) (rw alone refl)
phase_count read phase (inr b) = all_counted phase b.sessions

phase_named : (read : ℕ) (phase : List Placed) → IsPhaseAt read phase → AllByRecursion (λ (p : Placed). p.phase ≡ read + 1) phase
phase_named read phase (inl s) = subst (AllByRecursion (λ (p : Placed). p.phase ≡ read + 1)) (sym s.1) (s.4, tt)
phase_named read phase (inr b) = all_weaker (IsNumberOf (read + 1) (read + 1) (length phase)) (λ (p : Placed). p.phase ≡ read + 1) (λ p i. i.phase) phase (all_numbered (read + 1) (read + 1) phase b.numbered)

-- ---- their answers

module _ (s : Settled) (old new : List Answered) (phase : List Placed) (is : IsPhaseAt (length old) phase) (next : AnswersNext s old new phase) where
  more_count : length next.0 ≡ length phase
  more_count = answers_count (environment_from (start s) old).catalog.tables (by_session phase) next.0 next.2 ∙ phase_count (length old) phase is

  pub count_next : length new ≡ length old + length phase
  count_next = ap length next.1 ∙ length-append old next.0 ∙ ap (λ n. length old + n) more_count

  pub some_next : 0 < length phase → 0 < length next.0
  some_next some = (let n = more_count in omega (arith, n, some))

  pub last_next : (judge : Rules) (run : Run) (e : Environment) (js : List Journal) → IsConsistent judge run e old js → IsLastPhase old next.0
  last_next judge run e js c = record {
    phase = length old + 1;
    one = answers_all (environment_from (start s) old).catalog.tables (λ (p : Placed). p.phase ≡ length old + 1) (λ (a : Answered). a.phase ≡ length old + 1) (λ p a i named. i.phase ∙ named)
        (by_session phase) next.0 next.2 (all_of_sessions (λ (p : Placed). p.phase ≡ length old + 1) sessions phase (phase_named (length old) phase is));
    earlier = all_both (IsNumbered old) (λ (a : Answered). a.statement ≤ length old) (λ (a : Answered). a.phase < length old + 1) (λ a n m. let low = n.low in omega (arith, low, m)) old c.log.numbered c.complete;
  }

-- those of a run
pub last_serving : {X : Type 0} (state : X → StoreState) (serving : Serving X) (new : List Answered) (phase : List Placed) → IsServing state serving → IsPhaseAt (length serving.answers) phase → (next : AnswersNext serving.settled serving.answers new phase) →
    IsLastPhase serving.answers next.0
last_serving state serving new phase (entry, over) is next =
    last_next serving.settled serving.answers new phase is next rules (run_of serving.coordinator.cluster.nodes (settings_by serving.settled) entry) (environment serving.coordinator) (journals serving.coordinator) over.running.consistent

-- where a phase was begun, there are no more answers than those to it
pub few_ends : (s : Settled) (stop : Stop) (old new : List Answered) (phase : List Placed) → IsPhaseAt (length old) phase → length old + length phase ≤ most_statements → EndsPhase s stop old new phase → length new ≤ most_statements
few_ends s stop old new phase is few ends = by stop ends
  where
    whole : AnswersNext s old new phase → length new ≤ most_statements
    whole next = (let n = count_next s old new phase is next in omega (arith, n, few))

    either : (new ≡ old) ⊎ AnswersNext s old new phase → length new ≤ most_statements
    either (inl same) = (let n = ap length same in omega (arith, n, few))
    either (inr next) = whole next

    by : (stop : Stop) → EndsPhase s stop old new phase → length new ≤ most_statements
    by stops.WriteFault h = either h
    by stops.Memory h = either h
    by stops.Stopped h = whole h
    by (stops.Halted halt) h = absurd h

pub few_by : (s : Settled) (old new : List Answered) (phase : List Placed) (r : Result (Unit {0}) Stop) → IsPhaseAt (length old) phase → length old + length phase ≤ most_statements → OnOk r (AnswersNext s old new phase) →
    IfErr r (λ stop. EndsPhase s stop old new phase) → length new ≤ most_statements
few_by s old new phase (Ok u) is few next ends = (let n = count_next s old new phase is next in omega (arith, n, few))
few_by s old new phase (Err stop) is few next ends = few_ends s stop old new phase is few ends

-- ---- refusals among them

none_fails : (answers : List Answered) → list_any (λ (a : Answered). fails a.answer) answers ≡ false → AllSucceed answers
none_fails [] h = tt
none_fails (a ∷ answers) h = let both = or_neither (fails a.answer) (list_any (λ (b : Answered). fails b.answer) answers) h in (both.0, none_fails answers both.1)

module _ (s : Settled) (old new : List Answered) (phase : List Placed) (calm : IsCalm s old) (next : AnswersNext s old new phase) where
  abbrev a_failure : Bool
  a_failure = list_any (λ (a : Answered). fails a.answer) next.0

  succeeded : a_failure ≡ false → s.stop ≡ true → AllSucceed new
  succeeded none stops = subst AllSucceed (sym next.1) (all_append (λ (a : Answered). fails a.answer ≡ false) old next.0 (calm stops) (none_fails next.0 none))

  failed : IsLastPhase old next.0 → a_failure ≡ true → s.stop ≡ true → FailsLast new
  failed last one stops = record { before = old; last = next.0; all = next.1; phase = last; failed = one; succeed = calm stops }

  -- whatever the answers are
  pub may_fail_next : IsLastPhase old next.0 → s.stop ≡ true → MayFailLast new
  may_fail_next last stops = by a_failure refl
    where
      by : (b : Bool) → a_failure ≡ b → MayFailLast new
      by true h = inr (failed last h stops)
      by false h = inl (succeeded h stops)

  pub calm_next : (halts : Bool) → halts ≡ (s.stop && a_failure) → halts ≡ false → IsCalm s new
  calm_next halts is none stops = succeeded (not_both s.stop a_failure (sym is ∙ none) stops) stops
    where
      not_both : (a b : Bool) → (a && b) ≡ false → a ≡ true → b ≡ false
      not_both true b h t = h
      not_both false b h t = cc

  pub fails_next : (halts : Bool) → halts ≡ (s.stop && a_failure) → halts ≡ true → IsLastPhase old next.0 → (s.stop ≡ true) × FailsLast new
  fails_next halts is does last = let both = and_both s.stop a_failure (sym is ∙ does) in (both.0, failed last both.1 both.0)

-- the answers behind those that stood before
pub those_behind : (old new more : List Answered) (place : ℕ) → place ≡ length old → new ≡ old ++ more → drop place new ≡ more
those_behind old new more place is all = ap (λ n. drop n new) is ∙ ap (drop (length old)) all ∙ drop_front old more
  where
    drop_front : (xs ys : List Answered) → drop (length xs) (xs ++ ys) ≡ ys
    drop_front [] ys = refl
    drop_front (x ∷ xs) ys = drop_front xs ys

pub place_within : (old new more : List Answered) (place : ℕ) → place ≡ length old → new ≡ old ++ more → place ≤ length new
place_within old new more place is all = (let n = ap length all ∙ length-append old more in omega (arith, is, n))

-- ---- as many answers as a reader has read

-- there is room for all of them
pub few_read : (r : Reader) (answers : List Answered) → Reads r answers → length answers ≤ most_statements
few_read r answers h = (let n = h.count in let most = h.reading.most in omega (arith, n, most))

-- and for those to the phase that a piece ends
pub few_taken : (r next : Reader) (p : Piece) (answers : List Answered) (phase : List Placed) → Reads r answers → with_piece r p ≡ Ok (phase, next) → IsReading next → length answers + length phase ≤ most_statements
few_taken r next p answers phase h is reading = (let n = h.count in let m = taken_count r next p phase is in let most = reading.most in omega (arith, n, m, most))

pub reads_next : (s : Settled) (r next : Reader) (p : Piece) (old new : List Answered) (phase : List Placed) → Reads r old → with_piece r p ≡ Ok (phase, next) → IsReading next → IsPhaseAt (length old) phase → AnswersNext s old new phase → Reads next new
reads_next s r next p old new phase h is reading at a = record {
  reading = reading;
  count = (let n = h.count in let m = taken_count r next p phase is in let all = count_next s old new phase at a in omega (arith, n, m, all));
}

pub reads_nothing : (r next : Reader) (p : Piece) (answers : List Answered) (phase : List Placed) → Reads r answers → with_piece r p ≡ Ok (phase, next) → IsReading next → phase ≡ [] → Reads next answers
reads_nothing r next p answers phase h is reading none = record {
  reading = reading;
  count = (let n = h.count in let m = taken_count r next p phase is in let zero = ap length none in omega (arith, n, m, zero));
}

-- the phase that is to be answered stands behind all answers
pub phase_next : (r : Reader) (answers : List Answered) (phase : List Placed) → Reads r answers → 0 < length phase → (phase ≡ []) ⊎ IsPhaseAt r.read phase → IsPhaseAt (length answers) phase
phase_next r answers phase h some (inl none) = absurd (let zero = ap length none in omega (arith, some, zero))
phase_next r answers phase h some (inr is) = subst (λ n. IsPhaseAt n phase) h.count is

pub reads_first : (script : Script) (answers : List Answered) → script ≡ at_first → answers ≡ [] → Reads script.reader answers
reads_first script answers f none = subst (λ (v : Script). Reads v.reader answers) (sym f) (record {
  reading = record { most = omega arith; block = record { numbered = tt; sessions = tt }; session = tt };
  count = sym (ap length none);
})

-- a phase by its length
pub none_of_none : (n : ℕ) (phase : List Placed) → n ≡ length phase → n ≡ 0 → phase ≡ []
none_of_none n [] is none = refl
none_of_none n (p ∷ phase) is none = absurd (omega (arith, is, none))

pub some_of_some : (n : ℕ) (phase : List Placed) → n ≡ length phase → n ≢ 0 → 0 < length phase
some_of_some n [] is some = absurd (some is)
some_of_some n (p ∷ phase) is some = omega arith

-- The statements of a script, in order: each one's deed keeps what holds between two statements.
use Rattle.std.proofs.Common.{zero, suc, ne_eqb, ◌≡◌, ◌+◌, ◌<◌, ◌≤◌, inl, inr, ℕ, true, false, List, [], ◌∷◌, ◌++◌, length, filter, map, refl, sym, ◌∙◌, ap, subst, arith, Some, None, Option, append-nil, append_assoc, length-append, eq-eqb}
use Rattle.std.specs.Prelude.{nat_eq, not}
use Rattle.std.specs.List.{AllByRecursion}
use Rattle.std.proofs.lemmas.Bool.{eqb-true}
use Rattle.cq_value.proofs.Lists.{all_more, all_weaker, all_both, all_append, filter_none}
use Rattle.cq_value.proofs.Truths.{two_ways}
use Rattle.cq_value.specs.Tables.{rows_of}
use Rattle.std.proofs.lemmas.List.Elements.{filter-append}
use Rattle.cq_tree.specs.declared.journal.Who.{Who}
use Rattle.cq_tree.specs.declared.journal.Entry.{Entry}
use Rattle.cq_tree.specs.declared.journal.EntryKind.{EntryKind}
use Rattle.cq_tree.specs.declared.statement.Statement.{Statement}
use Rattle.cq_catalog.specs.Contents.{Contents}
use Rattle.cq_answer.specs.declared.answer.Answer.{Answer}
use Rattle.cq_answer.specs.declared.answered.Answered.{Answered}
use Rattle.cq_history.specs.Run.{Run, Rules, Environment, first, after, environment_from, Continues}
use Rattle.cq_history.specs.Phases.{who_of, phase_in, environment_at, beside_in, is_beside, IsNumbered, AreComplete}
use Rattle.cq_journal.specs.Records.{Journal}
use Rattle.cq_planning.specs.Touched.{among}
use Rattle.cq_history.specs.Journals.{journal_in, Kinds, none, with_entries}
use Rattle.cq_history.specs.Legality.{IsLegal}
use Rattle.cq_history.specs.Standing.{Stands}
use Rattle.cq_history.specs.Deeds.{Deed, Phase, alone, Does, IsFresh, Grows, MayCome, Visits, deed_over}
use Rattle.cq_history.specs.Log.{IsLaidOut, IsWhole, IsDone, AllDone, StandsAmong, AllStand, Era, no_era, joined, last_of, IsConsistentIn, IsConsistent, AreConsistent, IsAnsweredIn, IsAnswered, IsSession, IsPhase, phase_of, next_who, answered_by}
use Rattle.cq_history.specs.Laws.{LogBegins, EraGoesOn, ErasAnswer, AnswersGoOn, IdleIsAnswered, DeedIsAnswered, idle, look_at, StaysLaidOut, LogStands, DoneStands}
use Rattle.cq_history.proofs.Eras.{eras_go_on}
use Rattle.cq_history.proofs.Entries.{index_beyond, with_list}
use Rattle.cq_history.proofs.Deeds.{deeds_stand}
use Rattle.cq_history.proofs.Visiting.{made_who, grows_visits, laid_same}
use Rattle.cq_history.proofs.Phasing.{legal_fresh, phase_goes_on}
use Rattle.cq_history.proofs.Later.{continues_same}

pub with_none : (who : Who) (j : Journal) → with_entries who [] j ≡ j
with_none who j = ap (λ (v : List Entry). record { number = j.number; opening = j.opening; base = j.base; entries = v }) (append-nil j.entries)

pub log_begins : LogBegins
log_begins rules run = record {
  environment = refl;
  log = record {
    script = tt;
    numbered = tt;
    settings = tt;
    allowed = tt;
    own = tt;
    begins = record { count = omega arith; opening = λ g l. absurd (omega (arith, l)); base = λ g table l. absurd (omega (arith, l)); empty = λ g table l. refl };
    laid = record { groups = refl; opened = λ k g above l m. absurd (omega (arith, l, m)); everywhere = λ table g shard above e. cc; keyed = λ table. tt };
    numbers = λ g. refl;
    legal = λ g. legal_fresh (first run).catalog g (journal_in [] g) (record { number = refl; base = λ table. refl; entries = refl });
    of_answers = λ g. tt;
    order = λ g. tt;
  };
  complete = tt;
  done = tt;
}

pub stays_laid_out : StaysLaidOut
stays_laid_out run kept c who added old new grows same laid = laid_same run kept c old new same (λ g l. ap (λ (j : Journal). j.opening) (grows.kept g l)) laid

pub grows_none : (who : Who) (journals : List Journal) → Grows who none journals journals
grows_none who journals = record {
  count = omega arith;
  kept = λ g l. sym (with_none who (journal_in journals g));
  fresh = λ g m. (beyond g m, refl);
}
  where
    beyond : (g : ℕ) → length journals ≤ g → IsFresh g (journal_in journals g)
    beyond g m = subst (IsFresh g) (sym (index_beyond journals g _ m)) (record { number = refl; base = λ table. refl; entries = refl })

pub looked_at : (groups : List ℕ) (journals : List Journal) (g : ℕ) (j : Journal) → look_at groups journals g ≡ Some j → (among g groups ≡ true) × (j ≡ journal_in journals g)
looked_at groups journals g j h = elim (two_ways (among g groups)) [
  | inl t ↦ (t, let same : Some (journal_in journals g) ≡ Some j = rw t at h in cc)
  | inr n ↦ (let bad : None ≡ Some j = rw n at h in absurd (cc))
]

pub grows_as : (who : Who) (some more : Kinds) (old new : List Journal) → ((g : ℕ) → some g ≡ more g) → Grows who some old new → Grows who more old new
grows_as who some more old new same g = record {
  count = g.count;
  kept = λ h l. g.kept h l ∙ ap (λ (v : List EntryKind). with_entries who v (journal_in old h)) (same h);
  fresh = λ h m. ((g.fresh h m).0, sym (same h) ∙ (g.fresh h m).1);
}

pub deed_is_answered : DeedIsAnswered
deed_is_answered rules run e next who old new looked added bound a does there grows same leads catalog = record {
  deed = deed_over who old (look_at looked old) added;
  does = does;
  visits = grows_visits (alone old) who (look_at looked old) added old new (λ g j l. let o = looked_at looked old g j l in (there g o.0, o.1)) grows;
  leads = leads;
  on = subst (Continues e.catalog) (sym catalog) (continues_same e.catalog);
  laid = λ kept laid. subst (λ (c : Contents). IsLaidOut run kept c new) (sym catalog) (stays_laid_out run kept e.catalog who added old new grows same laid);
}

pub idle_is_answered : IdleIsAnswered
idle_is_answered rules run e who journals bound a stands same = record {
  deed = idle;
  does = record { stands = stands; legal = λ g. tt };
  visits = grows_visits (alone journals) who (λ g. None) none journals journals (λ g j l. cc l) (grows_none who journals);
  leads = same;
  on = continues_same e.catalog;
  laid = λ kept laid. laid;
}

-- ---- all stand

stand_each : (rules : Rules) (run : Run) (all : List Answered) (last : Contents) (journals : List Journal) (answers : List Answered) → ((g : ℕ) → IsLegal last g (journal_in journals g)) →
    AllByRecursion (IsDone rules run all last journals) answers → AllByRecursion (StandsAmong rules run all journals) answers
stand_each rules run all last journals answers legal done =
    all_weaker (IsDone rules run all last journals) (StandsAmong rules run all journals)
    (λ a d. subst (λ (beside : List (Option Statement)). Stands rules run (phase_in all) beside (environment_at run all a.phase) journals (who_of a) a.bound a.answer) d.beside
    (deeds_stand rules run (phase_in all) d.phase (environment_at run all a.phase) last journals (who_of a) d.deed a.bound a.answer d.on legal d.does d.has)) answers done

pub done_stand : DoneStands
done_stand rules run last journals answers legal all = stand_each rules run answers last journals answers legal all

pub log_stands : LogStands
log_stands rules run e answers journals c = (
  done_stand rules run e.catalog journals answers c.log.legal c.done,
  subst (λ (v : Environment). IsWhole run v.catalog answers journals) c.environment c.log,
)

-- ---- one more serial statement

module _ (rules : Rules) (run : Run) (before : Era) (answers : List Answered) (e next : Environment) (given : List Answered) (old new : List Journal) (bound : Option Statement) (a : Answer)
    (c : IsConsistentIn rules run before answers e given old) (w : IsAnswered rules run e next (next_who answers) old new bound a) where
  abbrev b : Answered
  b = answered_by (next_who answers) e bound a

  -- it has no other beside it
  none_beside : beside_in (answers ++ b ∷ []) b ≡ []
  none_beside =
      ap (map (λ (x : Answered). x.bound)) (
      filter-append (is_beside b) answers (b ∷ [])
      ∙ ap (λ (v : List Answered). v ++ filter (is_beside b) (b ∷ [])) (filter_none (is_beside b) answers (all_both (IsNumbered answers) (λ (x : Answered). x.statement ≤ length answers) (λ (x : Answered). is_beside b x ≡ false)
      (λ x n most. rw (ne_eqb x.phase (length answers + 1) (λ same. let low = n.low in omega (arith, same, low, most))) refl) answers c.log.numbered c.complete))
      ∙ own
      )
    where
      own : filter (is_beside b) (b ∷ []) ≡ []
      own = rw (eq-eqb (length answers + 1) (length answers + 1) refl) refl

  phase_is : phase_of (answers ++ b ∷ []) (0 ∷ []) old b ≡ alone old
  phase_is = ap (λ (v : List (Option Statement)). record { journals = old; beside = v; sessions = [] }) none_beside

  zero_only : (s : ℕ) → among s (0 ∷ []) ≡ true → s ≡ 0
  zero_only s m = elim (two_ways (nat_eq s 0)) [ inl y ↦ eqb-true s 0 y | inr n ↦ absurd (let bad : false ≡ true = rw n at m in cc bad) ]

  of_zero : IsSession rules run e (phase_of (answers ++ b ∷ []) (0 ∷ []) old) (b ∷ []) 0 old new
  of_zero = record {
    seen = new;
    served = (new, (w.deed, subst (λ (p : Phase). Does rules run e p (next_who answers) w.deed bound a) (sym phase_is) w.does, subst (λ (p : Phase). Visits p (next_who answers) w.deed old new) (sym phase_is) w.visits), refl);
    count = refl;
    goes_on = λ g l. ([], ap (with_list (journal_in new g)) (sym (append-nil (journal_in new g).entries)), tt);
  }

  own_entries : (g : ℕ) (l : g < length old) → AllByRecursion (λ (x : Entry). among x.who.session (0 ∷ []) ≡ true) (w.visits.grown g l).0
  own_entries g l = all_weaker (MayCome (alone old) (next_who answers)) (λ (x : Entry). among x.who.session (0 ∷ []) ≡ true) (λ x m. by x m) (w.visits.grown g l).0 (w.visits.grown g l).3
    where
      by : (x : Entry) → MayCome (alone old) (next_who answers) x → among x.who.session (0 ∷ []) ≡ true
      by x (inl m) = ap (λ (v : Who). among v.session (0 ∷ [])) (made_who (next_who answers) x m)
      by x (inr m) = absurd (cc m)

  is_phase : IsPhase rules run (length before.journals) e answers (b ∷ []) (0 ∷ []) old new
  is_phase = record {
    next = ((refl, omega arith, λ z. refl, refl), tt);
    script = (tt, tt);
    allowed = (λ l. absurd (omega (arith, l)), tt);
    known = (refl, tt);
    each = λ s m. subst (λ n. IsSession rules run e (phase_of (answers ++ b ∷ []) (0 ∷ []) old) (b ∷ []) n old new) (sym (zero_only s m)) of_zero;
    count = w.visits.count;
    entries = λ g l. ((w.visits.grown g l).0, (w.visits.grown g l).1, own_entries g l);
    fresh = λ g m. (w.visits.fresh g m).0;
    on = subst (λ (v : Environment). Continues e.catalog v.catalog) (sym w.leads) w.on;
    laid = subst (λ (v : Environment). IsLaidOut run (length before.journals) v.catalog new) (sym w.leads) (w.laid (length before.journals) c.log.laid);
  }

  complete : AreComplete (answers ++ b ∷ [])
  complete =
      let long : length (answers ++ b ∷ []) ≡ length answers + 1 = length-append answers (b ∷ []) in
      all_append (λ (x : Answered). x.statement ≤ length (answers ++ b ∷ [])) answers (b ∷ [])
      (all_weaker (λ (x : Answered). x.statement ≤ length answers) (λ (x : Answered). x.statement ≤ length (answers ++ b ∷ [])) (λ x m. omega (arith, m, long)) answers c.complete) (omega (arith, long), tt)

pub era_goes_on : EraGoesOn
era_goes_on rules run before all e next answers old new bound a c w =
    subst (λ (v : Environment). IsConsistentIn rules run before (all ++ answered_by (next_who all) e bound a ∷ []) v (answers ++ answered_by (next_who all) e bound a ∷ []) new) w.leads
    ((phase_goes_on rules run before all e answers (answered_by (next_who all) e bound a ∷ []) (0 ∷ []) old new c (is_phase rules run before all e next answers old new bound a c w)).2
    (complete rules run before all e next answers old new bound a c w))

pub answers_go_on : AnswersGoOn
answers_go_on rules run e next answers old new bound a c w = era_goes_on rules run no_era answers e next answers old new bound a c w

pub eras_answer : ErasAnswer
eras_answer rules run eras e next answers old new bound a c w =
    let all = joined eras ++ answers in
    let last = last_of no_era eras in
    let b = answered_by (next_who all) e bound a in
    subst (λ (v : Environment). AreConsistent rules run eras v (answers ++ b ∷ []) new) w.leads
    ((eras_go_on rules run eras e answers (b ∷ []) (0 ∷ []) old new c (is_phase rules run last all e next answers old new bound a c.present w)).1
    (subst AreComplete (append_assoc (joined eras) answers (b ∷ [])) (complete rules run last all e next answers old new bound a c.present w)))

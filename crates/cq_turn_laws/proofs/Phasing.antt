-- Statements of a block that ran one after the other are one phase of the log.
use Rattle.std.proofs.Common.{◌≡◌, ◌≢◌, ◌⊎◌, ◌+◌, ◌<◌, ◌≤◌, inl, inr, ℕ, Bool, true, false, List, [], ◌∷◌, ◌++◌, length, map, filter, refl, sym, ◌∙◌, ap, subst, arith, Option, append-nil, append_assoc, length-append, eq-eqb, ne_eqb}
use Rattle.std.specs.Prelude.{nat_eq, not}
use Rattle.std.specs.List.{AllByRecursion, sum_by}
use Rattle.std.proofs.lemmas.Bool.{eqb-true}
use Rattle.std.proofs.lemmas.Bool.Decides.{eqb_tells}
use Rattle.std.proofs.lemmas.List.{map-append}
use Rattle.std.proofs.lemmas.List.Elements.{filter-append}
use Rattle.std.proofs.lemmas.List.Sums.{sum_by-cons, sum_by-append}
use Rattle.cq_value.proofs.Lists.{all_weaker, all_both, all_append, all_left, all_right}
use Rattle.cq_value.proofs.Truths.{two_ways, left_false}
use Rattle.cq_tree.specs.declared.journal.Who.{Who}
use Rattle.cq_tree.specs.declared.journal.Entry.{Entry}
use Rattle.cq_tree.specs.declared.statement.Statement.{Statement}
use Rattle.cq_catalog.specs.Contents.{Contents}
use Rattle.cq_answer.specs.declared.answered.Answered.{Answered}
use Rattle.cq_journal.specs.Records.{Journal}
use Rattle.cq_journal.specs.Stations.{node_of}
use Rattle.cq_planning.specs.Touched.{among}
use Rattle.cq_history.specs.Run.{Run, Environment, environment_from, Continues}
use Rattle.cq_history.specs.Phases.{who_of, is_beside, StandsBefore, AreInScriptOrder, MayBeInBlock, AreComplete}
use Rattle.cq_history.specs.Journals.{journal_in, made_by}
use Rattle.cq_history.specs.Legality.{IsLegal}
use Rattle.cq_history.specs.Room.{stores_to, stores_from, IsRoom}
use Rattle.cq_history.specs.Refusals.{rules}
use Rattle.cq_history.specs.Deeds.{Deed, Phase, alone, Does, IsFresh, MayCome, Visits}
use Rattle.cq_history.specs.Log.{no_era, joined, last_of, IsLaidOut, IsConsistent, AreConsistent, GoesOnBy, IsAnswered, AreServed, of_session, IsSession, phase_of, IsNext, IsPhase}
use Rattle.cq_history.specs.Laws.{idle}
use Rattle.cq_history.proofs.Entries.{with_list, steps_others}
use Rattle.cq_history.proofs.Eras.{eras_go_on}
use Rattle.cq_history.proofs.Later.{continues_same}
use Rattle.cq_history.proofs.Lists.{filter_all}
use Rattle.cq_history.proofs.Phasing.{phase_goes_on}
use Rattle.cq_history.proofs.Script.{grows_none}
use Rattle.cq_history.proofs.Sums.{among_here, among_more}
use Rattle.cq_history.proofs.Visiting.{made_who, appended, visits_later}
use Rattle.cq_turn_laws.specs.Turns.{AreInTurns, IsOfBlock, IsBlock, sessions_of}
use Rattle.cq_turn_laws.specs.Laws.{TurnsMakePhase, TurnsArePhase, ErasTakeTurns}
use Rattle.cq_turn_laws.proofs.Judging.{judged}
use Rattle.cq_turn_laws.proofs.Leaving.{shifts}
use Rattle.cq_turn_laws.proofs.Spare.{spare, Shifts}
use Rattle.cq_turn_laws.proofs.Turns.{gone, retire, left_of, turns_leave, turns_keep, turns_are_laid, grows, made_is, stays_legal}

-- ---- journals that go on

on_none : (P : Entry → Type 0) (js : List Journal) → GoesOnBy P js js
on_none P js g l = ([], ap (with_list (journal_in js g)) (sym (append-nil (journal_in js g).entries)), tt)

on_twice : (P : Entry → Type 0) (old mid new : List Journal) → length mid ≡ length old → GoesOnBy P old mid → GoesOnBy P mid new → GoesOnBy P old new
on_twice P old mid new same f h g l =
    let a = f g l in
    let b = h g (omega (arith, l, same)) in
    (a.0 ++ b.0, appended (journal_in old g) (journal_in mid g) (journal_in new g) a.0 b.0 a.1 b.1, all_append P a.0 b.0 a.2 b.2)

on_weaker : (P Q : Entry → Type 0) (old new : List Journal) → ((f : Entry) → P f → Q f) → GoesOnBy P old new → GoesOnBy Q old new
on_weaker P Q old new by h g l = let a = h g l in (a.0, a.1, all_weaker P Q by a.0 a.2)

fresh_beyond : (js : List Journal) (g : ℕ) → length js ≤ g → IsFresh g (journal_in js g)
fresh_beyond js g m = ((grows_none (record { session = 0; statement = 0 }) js).fresh g m).0

-- a statement that ran alone enters its own entries
own_entries : (who : Who) (d : Deed) (old new : List Journal) → Visits (alone old) who d old new → GoesOnBy (λ (f : Entry). f.who ≡ who) old new
own_entries who d old new v g l = let a = v.grown g l in (a.0, a.1, all_weaker (MayCome (alone old) who) (λ (f : Entry). f.who ≡ who) by a.0 a.3)
  where
    by : (f : Entry) → MayCome (alone old) who f → f.who ≡ who
    by f (inl m) = made_who who f m
    by f (inr m) = absurd (cc m)

-- and so it does in each phase
visits_beside : (p : Phase) (who : Who) (d : Deed) (old new : List Journal) → Visits (alone old) who d old new → Visits p who d old new
visits_beside p who d old new v = record {
  count = v.count;
  grown = λ g l. (let a = v.grown g l in (a.0, a.1, a.2, all_weaker (MayCome (alone old) who) (MayCome p who) by a.0 a.3));
  looked = v.looked;
  fresh = v.fresh;
}
  where
    by : (f : Entry) → MayCome (alone old) who f → MayCome p who f
    by f (inl m) = inl m
    by f (inr m) = absurd (cc m)

among_kept : (n s : ℕ) (ns : List ℕ) → n ≢ s → among n ns ≡ true → among n (filter (λ t. not (nat_eq t s)) ns) ≡ true
among_kept n s [] far m = absurd (cc m)
among_kept n s (t ∷ ns) far m = elim (eqb_tells n t) [
  | inl y ↦ (let keeps : nat_eq t s ≡ false = ne_eqb t s (λ is. far (y.1 ∙ is)) in rw (keeps, y.0) refl)
  | inr z ↦
      let rest : among n (filter (λ t. not (nat_eq t s)) ns) ≡ true = among_kept n s ns far (let h : among n ns ≡ true = rw z.0 at m in h) in
      elim (two_ways (nat_eq t s)) [ inl y ↦ rw y rest | inr k ↦ rw (k, z.0) rest ]
]

-- ---- sums over statements

abbrev bounds : List Answered → List (Option Statement)
bounds xs = map (λ (b : Answered). b.bound) xs

sum_more : (f : Option Statement → ℕ) (front : List Answered) (a : Answered) → sum_by f (bounds (front ++ a ∷ [])) ≡ sum_by f (bounds front) + f a.bound
sum_more f front a =
    let x : sum_by f (bounds (front ++ a ∷ [])) ≡ sum_by f (bounds front ++ a.bound ∷ []) = ap (sum_by f) (map-append (λ (b : Answered). b.bound) front (a ∷ [])) in
    let y : sum_by f (bounds front ++ a.bound ∷ []) ≡ sum_by f (bounds front) + sum_by f (a.bound ∷ []) = sum_by-append f (bounds front) (a.bound ∷ []) in
    let z : sum_by f (a.bound ∷ []) ≡ f a.bound + 0 = sum_by-cons f a.bound [] in
    omega (arith, x, y, z)

-- ---- a block

module _ (run : Run) (kept : ℕ) (e : Environment) (before block : List Answered) (old : List Journal) (is : IsBlock (length before + 1) e.settings block) where
  abbrev c : Contents
  c = e.catalog

  abbrev IsHere : Answered → Type 0
  IsHere a = IsOfBlock (length before + 1) (length block) e.settings a

  abbrev sessions : List ℕ
  sessions = sessions_of block

  abbrev given : Answered → Phase
  given a = phase_of (before ++ block) sessions old a

  -- of the statements so far, and one behind them
  here_at : (front : List Answered) (a : Answered) (more : List Answered) → block ≡ front ++ a ∷ more → AllByRecursion IsHere front × IsHere a
  here_at front a more eq = let all = subst (AllByRecursion IsHere) eq is.each in (all_left IsHere front (a ∷ more) all, (all_right IsHere front (a ∷ more) all).0)

  stand_before : (front : List Answered) (a : Answered) (more : List Answered) → AreInScriptOrder (front ++ a ∷ more) → AllByRecursion (λ (b : Answered). StandsBefore b a) front
  stand_before [] a more script = tt
  stand_before (b ∷ front) a more script = ((all_right (StandsBefore b) front (a ∷ more) script.0).0, stand_before front a more script.1)

  front_beside : (front : List Answered) (a : Answered) (more : List Answered) → block ≡ front ++ a ∷ more → AllByRecursion (λ (b : Answered). is_beside a b ≡ true) front
  front_beside front a more eq =
      let here = here_at front a more eq in
      all_both IsHere (λ (b : Answered). StandsBefore b a) (λ (b : Answered). is_beside a b ≡ true) (λ b h s. by b h here.1 s) front here.0 (stand_before front a more (subst AreInScriptOrder eq is.script))
    where
      apart : (b : Answered) → IsHere b → IsHere a → StandsBefore b a → b.statement ≢ a.statement
      apart b h k (inl s) same = let x = h.phase in let y = k.phase in let l = s.0 in omega (arith, x, y, l)
      apart b h k (inr s) same = by_order s.order
        where
          by_order : ((b.session < a.session) × (b.statement ≢ a.statement)) ⊎ ((b.session ≡ a.session) × (b.statement < a.statement)) → ⊥
          by_order (inl o) = o.1 same
          by_order (inr o) = let l = o.1 in omega (arith, l, same)

      by : (b : Answered) → IsHere b → IsHere a → StandsBefore b a → is_beside a b ≡ true
      by b h k s = rw (eq-eqb b.phase a.phase (h.phase ∙ sym k.phase), ne_eqb b.statement a.statement (apart b h k s)) refl

  -- what the statements so far take and give, those beside a statement take and give
  beside_least : (f : Option Statement → ℕ) (front : List Answered) (a : Answered) (more : List Answered) → block ≡ front ++ a ∷ more → sum_by f (bounds front) ≤ sum_by f (given a).beside
  beside_least f front a more eq =
      let p : Answered → Bool = is_beside a in
      let split : filter p (before ++ block) ≡ filter p before ++ (front ++ filter p (a ∷ more)) =
      ap (λ (v : List Answered). filter p (before ++ v)) eq
      ∙ filter-append p before (front ++ a ∷ more)
      ∙ ap (λ (v : List Answered). filter p before ++ v) (filter-append p front (a ∷ more) ∙ ap (λ (v : List Answered). v ++ filter p (a ∷ more)) (filter_all p front (front_beside front a more eq))) in
      let beside : (given a).beside ≡ bounds (filter p before) ++ (bounds front ++ bounds (filter p (a ∷ more))) =
      ap bounds split
      ∙ map-append (λ (b : Answered). b.bound) (filter p before) (front ++ filter p (a ∷ more))
      ∙ ap (λ (v : List (Option Statement)). bounds (filter p before) ++ v) (map-append (λ (b : Answered). b.bound) front (filter p (a ∷ more))) in
      let x : sum_by f (given a).beside ≡ sum_by f (bounds (filter p before)) + sum_by f (bounds front ++ bounds (filter p (a ∷ more))) =
      ap (sum_by f) beside ∙ sum_by-append f (bounds (filter p before)) (bounds front ++ bounds (filter p (a ∷ more))) in
      let y : sum_by f (bounds front ++ bounds (filter p (a ∷ more))) ≡ sum_by f (bounds front) + sum_by f (bounds (filter p (a ∷ more))) = sum_by-append f (bounds front) (bounds (filter p (a ∷ more))) in
      omega (arith, x, y)

  -- ---- spare stores

  -- so many are spare as were at the opening, but for what the statements so far took and gave
  record AreNear (front : List Answered) (retired : List ℕ) (now : List Journal) : Type 0 where
    took : (at : ℕ) → spare run c e.retired old at ≤ spare run c retired now at + sum_by (stores_to c (at + 1)) (bounds front)
    gave : (at : ℕ) → spare run c retired now at ≤ spare run c e.retired old at + sum_by (stores_from c (at + 1)) (bounds front)

  near_more : (front : List Answered) (a : Answered) (retired then : List ℕ) (now mid : List Journal) → AreNear front retired now →
      ((at : ℕ) → Shifts c a.bound at (spare run c retired now at) (spare run c then mid at)) → AreNear (front ++ a ∷ []) then mid
  near_more front a retired then now mid near step = record {
    took = λ at. (let n = near.took at in let s = (step at).took in let m = sum_more (stores_to c (at + 1)) front a in omega (arith, n, s, m));
    gave = λ at. (let n = near.gave at in let s = (step at).gave in let m = sum_more (stores_from c (at + 1)) front a in omega (arith, n, s, m));
  }

  room : (front : List Answered) (a : Answered) (more : List Answered) (retired : List ℕ) (now : List Journal) → block ≡ front ++ a ∷ more → AreNear front retired now →
      (at free : ℕ) → free ≡ spare run c retired now at → IsRoom run c e.retired (λ g. node_of (journal_in old g)) (given a).beside at free
  room front a more retired now eq near at free found =
      let t = near.took at in
      let g = near.gave at in
      let x = beside_least (stores_to c (at + 1)) front a more eq in
      let y = beside_least (stores_from c (at + 1)) front a more eq in
      record { least = omega (arith, t, x, found); most = omega (arith, g, y, found) }

  -- ---- each statement, judged beside the others

  abbrev AreJudged : List Journal → List Answered → List Journal → Type 0
  AreJudged now [] new = new ≡ now
  AreJudged now (a ∷ more) new =
      (mid : List Journal) × ((d : Deed) × Does rules run e (given a) (who_of a) d a.bound a.answer × Visits (alone now) (who_of a) d now mid) × (length mid ≡ length now) × AreJudged mid more new

  judge : (front rest : List Answered) (retired : List ℕ) (now : List Journal) (last : Environment) (new : List Journal) → block ≡ front ++ rest → c.groups ≤ length old → IsLaidOut run kept c now →
      ((g : ℕ) → IsLegal c g (journal_in now g)) → AreNear front retired now → AreInTurns rules run (retire e retired) now rest last new → AreJudged now rest new
  judge front [] retired now last new eq groups laid legal near h = h.1
  judge front (a ∷ more) retired now last new eq groups laid legal near h = (
    mid,
    (w.deed, record { stands = judged run e retired now (given a) w.deed groups (room front a more retired now eq near) a.bound a.answer may w.does.stands; legal = w.does.legal }, w.visits),
    still_laid.groups ∙ sym laid.groups,
    judge (front ++ a ∷ []) more then mid last new (eq ∙ sym (append_assoc front (a ∷ []) more)) groups still_laid
        (subst (λ (v : Environment). (g : ℕ) → IsLegal v.catalog g (journal_in mid g)) left (stays_legal rules run (retire e retired) h.0 (who_of a) now mid a.bound a.answer w legal))
        (near_more front a retired then now mid near (shifts run (retire e retired) (who_of a) w.deed now mid (grows rules run (retire e retired) h.0 (who_of a) now mid a.bound a.answer w)
        (made_is rules run (retire e retired) h.0 (who_of a) now mid a.bound a.answer w) legal laid.groups a.bound a.answer may w.does))
        (subst (λ (v : Environment). AreInTurns rules run v mid more last new) left h.3),
  )
    where
      mid : List Journal
      mid = h.1

      then : List ℕ
      then = retired ++ gone a.bound a.answer

      w : IsAnswered rules run (retire e retired) h.0 (who_of a) now h.1 a.bound a.answer
      w = h.2

      may : MayBeInBlock a.bound
      may = (here_at front a more eq).1.allowed

      left : h.0 ≡ retire e then
      left = sym w.leads ∙ left_of (retire e retired) a.bound a.answer may

      still_laid : IsLaidOut run kept c mid
      still_laid = subst (λ (v : Environment). IsLaidOut run kept v.catalog mid) left (w.laid kept laid)

  -- ---- sessions

  abbrev IsKnown : Answered → Type 0
  IsKnown a = among a.session sessions ≡ true

  count_all : (now : List Journal) (rest : List Answered) (new : List Journal) → AreJudged now rest new → length new ≡ length now
  count_all now [] new h = ap length h
  count_all now (a ∷ more) new h = count_all h.0 more new h.3 ∙ h.2

  grown_all : (now : List Journal) (rest : List Answered) (new : List Journal) → AllByRecursion IsKnown rest → AreJudged now rest new → GoesOnBy (λ (f : Entry). among f.who.session sessions ≡ true) now new
  grown_all now [] new known h = subst (GoesOnBy (λ (f : Entry). among f.who.session sessions ≡ true) now) (sym h) (on_none _ now)
  grown_all now (a ∷ more) new known h =
      on_twice (λ (f : Entry). among f.who.session sessions ≡ true) now h.0 new h.2
      (on_weaker (λ (f : Entry). f.who ≡ who_of a) (λ (f : Entry). among f.who.session sessions ≡ true) now h.0 (λ f own. subst (λ (v : Who). among v.session sessions ≡ true) (sym own) known.0)
      (own_entries (who_of a) h.1.0 now h.0 h.1.2)) (grown_all h.0 more new known.1 h.3)

  -- entries of the other sessions of the block
  abbrev IsOther : ℕ → Entry → Type 0
  IsOther s f = (f.who.session ≢ s) × (among f.who.session sessions ≡ true)

  -- what a session's statement finds since the session looked last is no deed of its own
  visits_others : (a : Answered) (seen now : List Journal) → length now ≡ length seen → GoesOnBy (IsOther a.session) seen now → Visits (given a) (who_of a) idle seen now
  visits_others a seen now same on = record {
    count = omega (arith, same);
    grown = λ g l. (let x = on g l in (
      x.0,
      x.1,
      sym (steps_others (who_of a) (journal_in seen g) x.0 (all_weaker (IsOther a.session) (λ (f : Entry). made_by (who_of a) f ≡ false)
          (λ f o. left_false (nat_eq f.who.session a.session) (nat_eq f.who.statement a.statement) (ne_eqb f.who.session a.session o.0)) x.0 x.2)),
      all_weaker (IsOther a.session) (MayCome (given a) (who_of a)) (λ f o. inr (among_kept f.who.session a.session sessions o.0 o.1)) x.0 x.2,
    ));
    looked = λ g j l. absurd (cc l);
    fresh = λ g m. (fresh_beyond now g (omega (arith, same, m)), refl);
  }

  of_own : (s : ℕ) (a : Answered) (more : List Answered) → nat_eq a.session s ≡ true → of_session s (a ∷ more) ≡ a ∷ of_session s more
  of_own s a more y = rw y refl

  of_other : (s : ℕ) (a : Answered) (more : List Answered) → nat_eq a.session s ≡ false → of_session s (a ∷ more) ≡ of_session s more
  of_other s a more n = rw n refl

  -- a session's statements are served, and others alone enter something behind them
  abbrev IsServed : ℕ → List Journal → List Answered → List Journal → Type 0
  IsServed s seen mine new = (end : List Journal) × AreServed rules run e given seen mine end × (length end ≡ length new) × GoesOnBy (IsOther s) end new

  serve : (s : ℕ) (seen now : List Journal) (rest : List Answered) (new : List Journal) → AllByRecursion IsKnown rest → length now ≡ length seen → GoesOnBy (IsOther s) seen now → AreJudged now rest new →
      IsServed s seen (of_session s rest) new
  serve s seen now [] new known same on h = (seen, refl, sym (ap length h ∙ same), subst (GoesOnBy (IsOther s) seen) (sym h) on)
  serve s seen now (a ∷ more) new known same on h = elim (two_ways (nat_eq a.session s)) [
    | inl y ↦
        let own : a.session ≡ s = eqb-true a.session s y in
        let rest = serve s h.0 h.0 more new known.1 refl (on_none (IsOther s) h.0) h.3 in
        let before : Visits (given a) (who_of a) idle seen now = visits_others a seen now same (subst (λ n. GoesOnBy (IsOther n) seen now) (sym own) on) in
        let all : Visits (given a) (who_of a) h.1.0 seen h.0 = visits_later (given a) (who_of a) h.1.0 seen now h.0 same before (visits_beside (given a) (who_of a) h.1.0 now h.0 h.1.2) in
        subst (λ (v : List Answered). IsServed s seen v new) (sym (of_own s a more y)) (rest.0, (h.0, (h.1.0, h.1.1, all), rest.1), rest.2, rest.3)
    | inr n ↦
        let far : a.session ≢ s = (λ is. (let yes : nat_eq a.session s ≡ true = eq-eqb a.session s is in absurd (let bad : true ≡ false = sym yes ∙ n in cc bad))) in
        let step : GoesOnBy (IsOther s) now h.0 = on_weaker (λ (f : Entry). f.who ≡ who_of a) (IsOther s) now h.0
        (λ f own. (λ is. far (ap (λ (v : Who). v.session) (sym own) ∙ is), subst (λ (v : Who). among v.session sessions ≡ true) (sym own) known.0)) (own_entries (who_of a) h.1.0 now h.0 h.1.2) in
        subst (λ (v : List Answered). IsServed s seen v new) (sym (of_other s a more n)) (serve s seen h.0 more new known.1 (h.2 ∙ same) (on_twice (IsOther s) seen now h.0 same on step) h.3)
  ]

  -- ---- the phase

  all_known : (xs : List Answered) → AllByRecursion (λ (a : Answered). among a.session (sessions_of xs) ≡ true) xs
  all_known [] = tt
  all_known (x ∷ xs) = (
    among_here x.session (sessions_of xs),
    all_weaker (λ (a : Answered). among a.session (sessions_of xs) ≡ true) (λ (a : Answered). among a.session (sessions_of (x ∷ xs)) ≡ true) (λ a m. among_more a.session x.session (sessions_of xs) m) xs (all_known xs),
  )

  nothing_yet : AreNear [] e.retired old
  nothing_yet = record { took = λ at. omega arith; gave = λ at. omega arith }

  module _ (last : Environment) (new : List Journal) (laid : IsLaidOut run kept c old) (legal : (g : ℕ) → IsLegal c g (journal_in old g)) (turns : AreInTurns rules run e old block last new) where
    all_judged : AreJudged old block new
    all_judged = judge [] block e.retired old last new refl (let n = laid.groups in omega (arith, n)) laid legal nothing_yet turns

    allowed : AllByRecursion (λ (a : Answered). MayBeInBlock a.bound) block
    allowed = all_weaker IsHere (λ (a : Answered). MayBeInBlock a.bound) (λ a h. h.allowed) block is.each

    left_at_end : last ≡ environment_from e block
    left_at_end = turns_leave rules run e last old new block turns

    catalog_stays : last.catalog ≡ c
    catalog_stays = ((turns_keep rules run e last old new block turns).1 allowed).0

    count : length new ≡ length old
    count = count_all old block new all_judged

    session : (s : ℕ) → IsSession rules run e given block s old new
    session s =
        let t = serve s old old block new (all_known block) refl (on_none (IsOther s) old) all_judged in
        record { seen = t.0; served = t.1; count = t.2; goes_on = on_weaker (IsOther s) (λ (f : Entry). f.who.session ≢ s) t.0 new (λ f o. o.0) t.3 }

    pub is_phase : IsPhase rules run kept e before block sessions old new
    is_phase = record {
      next = all_weaker IsHere (IsNext (length before + 1) e) (λ a h. (
        h.phase,
        (let x = h.phase in let l = h.low in omega (arith, x, l)),
        (λ zero. (let l = h.session in absurd (omega (arith, zero, l)))),
        h.settings,
      )) block is.each;
      script = is.script;
      allowed = all_weaker (λ (a : Answered). MayBeInBlock a.bound) (λ (a : Answered). 1 ≤ a.session → MayBeInBlock a.bound) (λ a m l. m) block allowed;
      known = all_known block;
      each = λ s m. session s;
      count = (let n = count in omega (arith, n));
      entries = grown_all old block new (all_known block) all_judged;
      fresh = λ g m. fresh_beyond new g (let n = count in omega (arith, n, m));
      on = subst (λ (v : Environment). Continues c v.catalog) left_at_end (subst (Continues c) (sym catalog_stays) (continues_same c));
      laid = subst (λ (v : Environment). IsLaidOut run kept v.catalog new) left_at_end (turns_are_laid rules run kept e last old new block turns laid);
    }

pub turns_make_phase : TurnsMakePhase
turns_make_phase run kept e last before block old new laid legal is turns = is_phase run kept e before block old is last new laid legal turns

-- every statement so far is answered
all_complete : (first : ℕ) (answers block : List Answered) (e : Environment) → first ≡ length answers + 1 → AreComplete answers → IsBlock first e.settings block → AreComplete (answers ++ block)
all_complete first answers block e at complete is =
    let long : length (answers ++ block) ≡ length answers + length block = length-append answers block in
    all_append (λ (a : Answered). a.statement ≤ length (answers ++ block)) answers block
    (all_weaker (λ (a : Answered). a.statement ≤ length answers) (λ (a : Answered). a.statement ≤ length (answers ++ block)) (λ a l. omega (arith, l, long)) answers complete)
    (all_weaker (IsOfBlock first (length block) e.settings) (λ (a : Answered). a.statement ≤ length (answers ++ block)) (λ a h. (let l = h.high in omega (arith, l, long, at))) block is.each)

pub turns_are_phase : TurnsArePhase
turns_are_phase run e last answers block old new c is turns =
    subst (λ (v : Environment). IsConsistent rules run v (answers ++ block) new) (sym (turns_leave rules run e last old new block turns))
    ((phase_goes_on rules run no_era answers e answers block (sessions_of block) old new c (turns_make_phase run 0 e last answers block old new c.log.laid c.log.legal is turns)).2
    (all_complete (length answers + 1) answers block e refl c.complete is))

pub eras_take_turns : ErasTakeTurns
eras_take_turns run eras e last answers block old new c is turns =
    let all = joined eras ++ answers in
    subst (λ (v : Environment). AreConsistent rules run eras v (answers ++ block) new) (sym (turns_leave rules run e last old new block turns))
    ((eras_go_on rules run eras e answers block (sessions_of block) old new c
    (turns_make_phase run (length (last_of no_era eras).journals) e last all block old new c.present.log.laid c.present.log.legal is turns)).1
    (subst AreComplete (append_assoc (joined eras) answers block) (all_complete (length all + 1) all block e refl c.present.complete is)))

-- A block behind what holds between two phases: its entries are of its statements, of which each has done what it was answered.
use Rattle.std.proofs.Common.{zero, suc, ◌≡◌, ◌≢◌, ◌⊎◌, inl, inr, ◌+◌, ◌<◌, ◌≤◌, ℕ, Bool, true, false, List, [], ◌∷◌, ◌++◌, length, drop, filter, refl, sym, ◌∙◌, ap, subst, arith, Some, slice_get, append-nil, eq-eqb}
use Rattle.std.specs.Prelude.{⊤, nat_eq, nat_lt, not}
use Rattle.std.specs.List.{AllByRecursion}
use Rattle.std.proofs.lemmas.Bool.{eqb-true, lt-ltb, le-ltb}
use Rattle.std.proofs.lemmas.List.Elements.{filter-append}
use Rattle.cq_value.proofs.Lists.{all_weaker, all_both, all_append, all_right, filter_none}
use Rattle.cq_value.proofs.Truths.{two_ways}
use Rattle.cq_tree.specs.declared.journal.Who.{Who}
use Rattle.cq_tree.specs.declared.journal.Entry.{Entry}
use Rattle.cq_catalog.specs.Contents.{Contents}
use Rattle.cq_answer.specs.declared.answered.Answered.{Answered}
use Rattle.cq_planning.specs.Touched.{among}
use Rattle.cq_journal.specs.Records.{Journal}
use Rattle.cq_history.specs.Run.{Run, Rules, Environment, first, environment_from}
use Rattle.cq_history.specs.Phases.{who_of, before_phase, environment_at, StandsBefore, AreInScriptOrder, MayBeInBlock, IsNumbered, IsOf}
use Rattle.cq_history.specs.Journals.{journal_in, made_by, Step, steps_of}
use Rattle.cq_history.specs.Legality.{IsLegal}
use Rattle.cq_history.specs.Deeds.{Phase, Does, MayCome}
use Rattle.cq_history.specs.Log.{Era, IsIn, IsDone, AreServed, of_session, phase_of, IsNext}
use Rattle.cq_history.proofs.Lists.{all_at, filter_all}
use Rattle.cq_history.proofs.Entries.{with_list, drop_all, apart}
use Rattle.cq_history.proofs.Visiting.{made_who, appended}
use Rattle.cq_history.proofs.Phasing.{phase_goes_on}
use Rattle.cq_place_laws.specs.Placing.{IsBlock}
use Rattle.cq_place_laws.proofs.PlacingDeeds.{MovedOrStayed, moved_or_stayed}

-- ---- statements of different numbers

abbrev pub AreApart : List Answered → Type 0
AreApart [] = ⊤
AreApart (a ∷ more) = AllByRecursion (λ (b : Answered). a.statement ≢ b.statement) more × AreApart more

are_apart : (phase : ℕ) (block : List Answered) → AllByRecursion (λ (a : Answered). a.phase ≡ phase) block → AreInScriptOrder block → AreApart block
are_apart phase [] all script = tt
are_apart phase (a ∷ more) all script = (
  all_both (λ (b : Answered). b.phase ≡ phase) (StandsBefore a) (λ (b : Answered). a.statement ≢ b.statement) (λ b p s. by b p s) more all.1 script.0,
  are_apart phase more all.1 script.1,
)
  where
    other : (b : Answered) → ((a.session < b.session) × (a.statement ≢ b.statement)) ⊎ ((a.session ≡ b.session) × (a.statement < b.statement)) → a.statement ≢ b.statement
    other b (inl k) same = k.1 same
    other b (inr k) same = let l = k.1 in omega (arith, l, same)

    by : (b : Answered) → b.phase ≡ phase → StandsBefore a b → a.statement ≢ b.statement
    by b p (inl s) same = let l = s.0 in let q = all.0 in omega (arith, l, p, q)
    by b p (inr s) same = other b s.order same

-- ---- entries of one session

later_one : (a : Answered) (answers : List Answered) (who : Who) → IsOf answers who → IsOf (a ∷ answers) who
later_one a answers who o = record { answered = o.answered; place = suc o.place; there = o.there; is = o.is }

-- an entry of the session is of one of these statements
abbrev Mine : ℕ → List Answered → Entry → Type 0
Mine s answers e = e.who.session ≡ s → IsOf answers e.who

behind_one : (a : Answered) (xs ys : List Answered) (who : Who) → (IsOf xs who → IsOf ys who) → IsOf (a ∷ xs) who → IsOf (a ∷ ys) who
behind_one a xs ys who on o = by o.place o.answered o.there o.is
  where
    by : (place : ℕ) (x : Answered) → slice_get (a ∷ xs) place ≡ Some x → who_of x ≡ who → IsOf (a ∷ ys) who
    by zero x there is = record { answered = x; place = 0; there = there; is = is }
    by (suc place) x there is = later_one a ys who (on (record { answered = x; place = place; there = there; is = is }))

of_filter : (p : Answered → Bool) (xs : List Answered) (who : Who) → IsOf (filter p xs) who → IsOf xs who
of_filter p [] who o = o
of_filter p (x ∷ xs) who o = elim (two_ways (p x)) [
  | inl y ↦ behind_one x (filter p xs) xs who (of_filter p xs who) (let here : IsOf (x ∷ filter p xs) who = rw y at o in here)
  | inr n ↦ later_one x xs who (of_filter p xs who (let here : IsOf (filter p xs) who = rw n at o in here))
]

passes : (p : Answered → Bool) (xs : List Answered) → AllByRecursion (λ x. p x ≡ true) (filter p xs)
passes p [] = tt
passes p (x ∷ xs) = elim (two_ways (p x)) [ inl y ↦ rw y (y, passes p xs) | inr n ↦ rw n (passes p xs) ]

-- what is so of the entries of each of these sessions is so of all
by_session : (sessions : List ℕ) (Q : Entry → Type 0) (es : List Entry) → AllByRecursion (λ (e : Entry). among e.who.session sessions ≡ true) es →
    ((s : ℕ) → among s sessions ≡ true → AllByRecursion (λ (e : Entry). e.who.session ≡ s → Q e) es) → AllByRecursion Q es
by_session sessions Q [] known each = tt
by_session sessions Q (e ∷ es) known each = ((each e.who.session known.0).0 refl, by_session sessions Q es known.1 (λ s m. (each s m).1))

module _ (rules : Rules) (run : Run) (e : Environment) (phase : Answered → Phase) (beside : (a : Answered) (f : Entry) → among f.who.session (phase a).sessions ≡ true → f.who.session ≢ a.session) where
  served_mine : (s : ℕ) (old : List Journal) (answers : List Answered) (new : List Journal) → AllByRecursion (λ (a : Answered). a.session ≡ s) answers → AreServed rules run e phase old answers new →
      (length old ≤ length new)
      × ((g : ℕ) → g < length old → (es : List Entry) × (journal_in new g ≡ with_list (journal_in old g) ((journal_in old g).entries ++ es)) × AllByRecursion (Mine s answers) es)
  served_mine s old [] new mine h = (
    omega (arith, ap length h),
    λ g l. ([], ap (λ (v : List Journal). journal_in v g) h ∙ ap (with_list (journal_in old g)) (sym (append-nil (journal_in old g).entries)), tt),
  )
  served_mine s old (a ∷ more) new mine h =
      let rest = served_mine s h.0 more new mine.1 h.2 in (
        (let m = h.1.2.count in let n = rest.0 in omega (arith, m, n)),
        λ g l.
            let v = h.1.2.grown g l in
            let r = rest.1 g (let m = h.1.2.count in omega (arith, l, m)) in (
              v.0 ++ r.0,
              appended (journal_in old g) (journal_in h.0 g) (journal_in new g) v.0 r.0 v.1 r.1,
              all_append (Mine s (a ∷ more)) v.0 r.0 (all_weaker (MayCome (phase a) (who_of a)) (Mine s (a ∷ more)) by v.0 v.3)
                  (all_weaker (Mine s more) (Mine s (a ∷ more)) (λ f k same. later_one a more f.who (k same)) r.0 r.2),
            ),
      )
    where
      by : (f : Entry) → MayCome (phase a) (who_of a) f → Mine s (a ∷ more) f
      by f (inl m) same = record { answered = a; place = 0; there = refl; is = sym (made_who (who_of a) f m) }
      by f (inr m) same = absurd (beside a f m (same ∙ sym mine.0))

-- ---- the block

same_rest : {X : Type 0} (xs ys zs : List X) → xs ++ ys ≡ xs ++ zs → ys ≡ zs
same_rest xs ys zs same = sym (drop_all xs ys) ∙ ap (drop (length xs)) same ∙ drop_all xs zs

-- what journals have of a statement since they were the old ones
pub record Makes (workers : ℕ) (c : Contents) (old new : List Journal) (a : Answered) : Type 0 where
  pub made : ℕ → List Step
  pub steps : (g : ℕ) → steps_of (who_of a) (journal_in new g) ≡ made g
  pub did : MovedOrStayed workers c made a.bound a.answer
  pub news : (g : ℕ) → AllByRecursion (λ (f : Entry). made_by (who_of a) f ≡ false) (journal_in old g).entries

module _ (rules : Rules) (run : Run) (before : Era) (all : List Answered) (e : Environment) (answers block : List Answered) (sessions : List ℕ) (old new : List Journal)
    (b : IsBlock rules run before all e answers block sessions old new) where
  abbrev whole : List Answered
  whole = all ++ block

  abbrev now : ℕ
  now = length all + 1

  abbrev given : Answered → Phase
  given = phase_of whole sessions old

  others : (a : Answered) (f : Entry) → among f.who.session (given a).sessions ≡ true → f.who.session ≢ a.session
  others a f m same = far (filter (λ s. not (nat_eq s a.session)) sessions) (passes_so sessions) m
    where
      passes_so : (ss : List ℕ) → AllByRecursion (λ s. not (nat_eq s a.session) ≡ true) (filter (λ s. not (nat_eq s a.session)) ss)
      passes_so [] = tt
      passes_so (s ∷ ss) = elim (two_ways (not (nat_eq s a.session))) [ inl y ↦ rw y (y, passes_so ss) | inr n ↦ rw n (passes_so ss) ]

      far : (ss : List ℕ) → AllByRecursion (λ s. not (nat_eq s a.session) ≡ true) ss → among f.who.session ss ≡ true → ⊥
      far [] each h = absurd (cc h)
      far (s ∷ ss) each h = elim (two_ways (nat_eq f.who.session s)) [
        | inl y ↦
            let at : s ≡ a.session = sym (eqb-true f.who.session s y) ∙ same in
            let bad : false ≡ true = sym (ap not (eq-eqb s a.session at)) ∙ each.0 in
            cc bad
        | inr n ↦ far ss each.1 (let rest : among f.who.session ss ≡ true = rw n at h in rest)
      ]

  -- all new entries are of its statements
  pub of_block : (g : ℕ) (l : g < length old) → AllByRecursion (λ (f : Entry). IsOf block f.who) (b.phase.entries g l).0
  of_block g l = by_session sessions (λ (f : Entry). IsOf block f.who) (b.phase.entries g l).0 (b.phase.entries g l).2 (λ s m.
      let x = b.phase.each s m in
      let mine = all_weaker (λ (a : Answered). nat_eq a.session s ≡ true) (λ (a : Answered). a.session ≡ s) (λ a y. eqb-true a.session s y) (of_session s block) (passes (λ (a : Answered). nat_eq a.session s) block) in
      let t = served_mine rules run e given others s old (of_session s block) x.seen mine x.served in
      let k = t.1 g l in
      let r = x.goes_on g (let n = t.0 in omega (arith, l, n)) in
      let j = journal_in old g in
      let is : journal_in new g ≡ with_list j (j.entries ++ (k.0 ++ r.0)) = appended j (journal_in x.seen g) (journal_in new g) k.0 r.0 k.1 r.1 in
      let same : k.0 ++ r.0 ≡ (b.phase.entries g l).0 = same_rest j.entries (k.0 ++ r.0) (b.phase.entries g l).0 (ap (λ (v : Journal). v.entries) (sym is ∙ (b.phase.entries g l).1)) in
      subst (AllByRecursion (λ (f : Entry). f.who.session ≡ s → IsOf block f.who)) same (all_append (λ (f : Entry). f.who.session ≡ s → IsOf block f.who) k.0 r.0
      (all_weaker (Mine s (of_session s block)) (λ (f : Entry). f.who.session ≡ s → IsOf block f.who) (λ f o is. of_filter (λ (a : Answered). nat_eq a.session s) block f.who (o is)) k.0 k.2)
      (all_weaker (λ (f : Entry). f.who.session ≢ s) (λ (f : Entry). f.who.session ≡ s → IsOf block f.who) (λ f n is. absurd (n is)) r.0 r.2)))

  -- ---- its statements

  abbrev IsPast : Answered → Type 0
  IsPast a = (a.phase < now) × (a.statement < now)

  past : AllByRecursion IsPast all
  past = all_both (IsNumbered all) (λ (a : Answered). a.statement ≤ length all) IsPast (λ a n m. let low = n.low in (omega (arith, low, m), omega (arith, m))) all b.was.log.numbered b.was.complete

  before_now : before_phase now whole ≡ all
  before_now =
      filter-append (λ (a : Answered). nat_lt a.phase now) all block
      ∙ ap (λ (v : List Answered). before_phase now all ++ v) (filter_none (λ (a : Answered). nat_lt a.phase now) block
      (all_weaker (IsNext now e) (λ (a : Answered). nat_lt a.phase now ≡ false) (λ a n. let is = n.0 in le-ltb a.phase now (omega (arith, is))) block b.phase.next))
      ∙ append-nil (before_phase now all)
      ∙ filter_all (λ (a : Answered). nat_lt a.phase now) all (all_weaker IsPast (λ (a : Answered). nat_lt a.phase now ≡ true) (λ a p. lt-ltb a.phase now p.0) all past)

  environment_now : environment_at run whole now ≡ e
  environment_now = ap (environment_from (first run)) before_now ∙ sym b.was.environment

  pub apart_all : AreApart block
  apart_all = are_apart now block (all_weaker (IsNext now e) (λ (a : Answered). a.phase ≡ now) (λ a n. n.0) block b.phase.next) b.phase.script

  news_of : (a : Answered) → IsNext now e a → (g : ℕ) → AllByRecursion (λ (f : Entry). made_by (who_of a) f ≡ false) (journal_in old g).entries
  news_of a next g = all_weaker (λ (f : Entry). IsOf answers f.who) (λ (f : Entry). made_by (who_of a) f ≡ false) (λ f o.
      let i = all_at (IsIn all) answers o.place o.answered b.was.log.own o.there in
      let low = (all_at IsPast all i.place o.answered past i.there).1 in
      let number : o.answered.statement ≡ f.who.statement = ap (λ (w : Who). w.statement) o.is in
      apart (who_of a) f.who (λ same. let by : a.statement ≡ f.who.statement = ap (λ (w : Who). w.statement) same in let p = next.0 in let q = next.1 in omega (arith, low, number, by, p, q))) (journal_in old g).entries (b.was.log.of_answers g)

  pub all_made : AllByRecursion (Makes run.workers e.catalog old new) block
  all_made =
      let done = all_right (IsDone rules run whole (environment_from e block).catalog new) answers block (phase_goes_on rules run before all e answers block sessions old new b.was b.phase).1 in
      all_both (λ (a : Answered). IsNext now e a × MayBeInBlock a.bound) (IsDone rules run whole (environment_from e block).catalog new) (Makes run.workers e.catalog old new) (λ a p d.
      let is : environment_at run whole a.phase ≡ e = ap (environment_at run whole) p.0.0 ∙ environment_now in
      record {
        made = d.deed.made;
        steps = d.has.made;
        did = moved_or_stayed rules run e d.phase (who_of a) d.deed a.bound a.answer p.1 (subst (λ (v : Environment). Does rules run v d.phase (who_of a) d.deed a.bound a.answer) is d.does);
        news = news_of a p.0;
      }) block (all_both (IsNext now e) (λ (a : Answered). MayBeInBlock a.bound) (λ (a : Answered). IsNext now e a × MayBeInBlock a.bound) (λ a n m. (n, m)) block b.phase.next b.allowed) done

  pub legal_behind : (g : ℕ) → IsLegal (environment_from e block).catalog g (journal_in new g)
  legal_behind g = (phase_goes_on rules run before all e answers block sessions old new b.was b.phase).0.legal g

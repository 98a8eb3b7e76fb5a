-- One more phase of a log: what its sessions did, one statement after the other in each, keeps what holds between two phases.
use Rattle.std.proofs.Common.{zero, suc, cond, ◌≡◌, ◌≢◌, ◌⊎◌, ◌+◌, ◌<◌, ◌≤◌, inl, inr, ℕ, Bool, true, false, List, [], ◌∷◌, ◌++◌, length, take, drop, map, filter, refl, sym, ◌∙◌, ap, subst, arith, Some, None, Option, slice_get, append-nil, append_assoc, length-append, eq-eqb, ne_eqb}
use Rattle.std.specs.Prelude.{nat_lt, nat_eq, ◌&&◌, ◌||◌, not, ⊤}
use Rattle.std.specs.List.{AllByRecursion}
use Rattle.std.proofs.lemmas.Bool.{cases_lt, eqb-true, lt-ltb, le-ltb}
use Rattle.std.proofs.Math.Bool.{and-false}
use Rattle.std.proofs.lemmas.List.Elements.{filter-append}
use Rattle.cq_value.proofs.Lists.{all_more, all_weaker, all_both, all_append, all_left, all_right, all_filtered, filter_none, got_before}
use Rattle.cq_value.proofs.Truths.{two_ways}
use Rattle.cq_value.specs.Tables.{rows_of, empty_table}
use Rattle.cq_tree.specs.declared.journal.Who.{Who}
use Rattle.cq_tree.specs.declared.journal.Entry.{Entry}
use Rattle.cq_tree.specs.declared.journal.EntryKind.{EntryKind}
use Rattle.cq_tree.specs.declared.statement.Statement.{Statement}
use Rattle.cq_catalog.specs.Contents.{Contents}
use Rattle.cq_answer.specs.declared.answered.Answered.{Answered}
use Rattle.cq_history.specs.Run.{Run, Rules, Environment, first, after, environment_from, Continues}
use Rattle.cq_history.specs.Phases.{who_of, phase_in, precedes, before_phase, environment_at, is_beside, beside_in, IsInBlock, StandsBefore, AreInScriptOrder, IsNumbered, IsAllowed, AreComplete, IsOf}
use Rattle.cq_journal.specs.Records.{Journal}
use Rattle.cq_planning.specs.Touched.{among}
use Rattle.cq_history.specs.Journals.{journal_in, cut, made_by, Step, steps_after, IsLook, begun, with_entries}
use Rattle.cq_history.specs.Legality.{IsLegalKind, CanFollow, IsLegalStep, IsLegal}
use Rattle.cq_history.specs.Deeds.{Deed, Phase, Does, HasDeed, IsFresh, GoesOn, MayCome, Visits}
use Rattle.cq_history.specs.Log.{IsInOrder, Era, Begins, IsIn, IsWholeIn, IsDone, IsConsistentIn, AreServed, of_session, IsSession, phase_of, IsNext, IsPhase}
use Rattle.cq_history.specs.Laws.{PhaseGoesOn}
use Rattle.cq_history.proofs.Lists.{got_more, all_at, all_take, filter_all}
use Rattle.cq_history.proofs.Entries.{with_list, three, drop_all, apart}
use Rattle.cq_history.proofs.Deeds.{deeds_stay, entries_beyond}
use Rattle.cq_history.proofs.Visiting.{made_who, all_drop, appended, visit_is_deed}
use Rattle.cq_history.proofs.Later.{continues_on, legal_later}

-- ---- legal journals with more entries

pub legal_more : (c : Contents) (group : ℕ) (j : Journal) (who : Who) (k : EntryKind) → IsLegal c group j → IsLegalKind c group k → CanFollow c j who k → IsLegal c group (with_entries who (k ∷ []) j)
legal_more c group j who k l kind follow = record {
  base = l.base;
  kinds = all_more (λ (e : Entry). IsLegalKind c group e.kind) j.entries (record { who = who; kind = k }) l.kinds kind;
  follow = λ place e s. elim (got_more j.entries (record { who = who; kind = k }) place e s) [
    | inl p ↦ subst (λ (v : List Entry). CanFollow c (record { number = j.number; opening = j.opening; base = j.base; entries = v }) e.who e.kind) (sym p.1) (l.follow place e p.0)
    | inr p ↦ subst (λ (v : List Entry). CanFollow c (record { number = j.number; opening = j.opening; base = j.base; entries = v }) e.who e.kind) (sym p.1)
        (subst (λ (f : Entry). CanFollow c j f.who f.kind) (sym p.0) follow)
  ];
}

pub legal_fresh : (c : Contents) (group : ℕ) (j : Journal) → IsFresh group j → IsLegal c group j
legal_fresh c group j f = record {
  base = λ table. inl (ap rows_of (f.base table));
  kinds = subst (AllByRecursion (λ (e : Entry). IsLegalKind c group e.kind)) (sym f.entries) tt;
  follow = λ place e s. absurd (nothing j.entries place e f.entries s);
}
  where
    nothing : (es : List Entry) (place : ℕ) (e : Entry) → es ≡ [] → slice_get es place ≡ Some e → ⊥
    nothing [] place e n s = cc
    nothing (x ∷ es) place e n s = cc

-- each entry is legal over the journal and the entries before it
abbrev LegalOn : Contents → ℕ → Journal → List Entry → Type 0
LegalOn c g j [] = ⊤
LegalOn c g j (e ∷ es) = IsLegalStep c g e.who (record { before = j; kind = e.kind }) × LegalOn c g (with_list j (j.entries ++ e ∷ [])) es

legal_on : (c : Contents) (g : ℕ) (j : Journal) (es : List Entry) → IsLegal c g j → LegalOn c g j es → IsLegal c g (with_list j (j.entries ++ es))
legal_on c g j [] l all = subst (λ (v : List Entry). IsLegal c g (with_list j v)) (sym (append-nil j.entries)) l
legal_on c g j (e ∷ es) l all =
    subst (λ (v : List Entry). IsLegal c g (with_list j v)) (three j.entries e es)
    (legal_on c g (with_list j (j.entries ++ e ∷ [])) es (legal_more c g j e.who e.kind l all.0.0 all.0.1) all.1)

-- ---- the entries of one session

-- those of a session are legal
abbrev LegalOf : ℕ → Contents → ℕ → Journal → List Entry → Type 0
LegalOf s c g j [] = ⊤
LegalOf s c g j (e ∷ es) = (e.who.session ≡ s → IsLegalStep c g e.who (record { before = j; kind = e.kind })) × LegalOf s c g (with_list j (j.entries ++ e ∷ [])) es

legal_of_append : (s : ℕ) (c : Contents) (g : ℕ) (j : Journal) (es fs : List Entry) → LegalOf s c g j es → LegalOf s c g (with_list j (j.entries ++ es)) fs → LegalOf s c g j (es ++ fs)
legal_of_append s c g j [] fs h k = subst (λ (v : List Entry). LegalOf s c g (with_list j v) fs) (append-nil j.entries) k
legal_of_append s c g j (e ∷ es) fs h k =
    (h.0, legal_of_append s c g (with_list j (j.entries ++ e ∷ [])) es fs h.1 (subst (λ (v : List Entry). LegalOf s c g (with_list j v) fs) (sym (three j.entries e es)) k))

legal_of_none : (s : ℕ) (c : Contents) (g : ℕ) (j : Journal) (es : List Entry) → AllByRecursion (λ (e : Entry). e.who.session ≢ s) es → LegalOf s c g j es
legal_of_none s c g j [] all = tt
legal_of_none s c g j (e ∷ es) all = (λ same. absurd (all.0 same), legal_of_none s c g (with_list j (j.entries ++ e ∷ [])) es all.1)

-- an entry of the statement, or of another session
abbrev Comes : Who → Entry → Type 0
Comes who e = (made_by who e ≡ true) ⊎ (e.who.session ≢ who.session)

own_session : (who : Who) (e : Entry) → Comes who e → e.who.session ≡ who.session → e.who ≡ who
own_session who e (inl m) same = made_who who e m
own_session who e (inr n) same = absurd (n same)

legal_of_visit : (c : Contents) (g : ℕ) (who : Who) (j : Journal) (more : List Entry) → AllByRecursion (Comes who) more → AllByRecursion (IsLegalStep c g who) (steps_after who j more) → LegalOf who.session c g j more
legal_of_visit c g who j [] comes all = tt
legal_of_visit c g who j (e ∷ more) comes all =
    let next = with_list j (j.entries ++ e ∷ []) in
    elim (two_ways (made_by who e)) [
      | inl m ↦
          let now : AllByRecursion (IsLegalStep c g who) (record { before = j; kind = e.kind } ∷ steps_after who next more) = rw m at all in
          (λ same. subst (λ (w : Who). IsLegalStep c g w (record { before = j; kind = e.kind })) (sym (made_who who e m)) now.0, legal_of_visit c g who next more comes.1 now.1)
      | inr n ↦
          let now : AllByRecursion (IsLegalStep c g who) (steps_after who next more) = rw n at all in
          (λ same. absurd (other n (own_session who e comes.0 same)), legal_of_visit c g who next more comes.1 now)
    ]
  where
    other : made_by who e ≡ false → e.who ≡ who → ⊥
    other n is =
        let yes : made_by who e ≡ true = rw (eq-eqb e.who.session who.session (ap (λ (w : Who). w.session) is), eq-eqb e.who.statement who.statement (ap (λ (w : Who). w.statement) is)) refl in
        (let bad : true ≡ false = sym yes ∙ n in cc bad)

-- an entry of a session doesn't stand before one of an earlier statement
abbrev IsUpto : ℕ → Entry → Entry → Type 0
IsUpto s e f = e.who.session ≡ s → f.who.session ≡ s → e.who.statement ≤ f.who.statement

abbrev IsInOrderOf : ℕ → List Entry → Type 0
IsInOrderOf s [] = ⊤
IsInOrderOf s (e ∷ es) = AllByRecursion (IsUpto s e) es × IsInOrderOf s es

in_order_of_append : (s : ℕ) (es fs : List Entry) → IsInOrderOf s es → IsInOrderOf s fs → AllByRecursion (λ (e : Entry). AllByRecursion (IsUpto s e) fs) es → IsInOrderOf s (es ++ fs)
in_order_of_append s [] fs h k cross = k
in_order_of_append s (e ∷ es) fs h k cross = (all_append (IsUpto s e) es fs h.0 cross.0, in_order_of_append s es fs h.1 k cross.1)

in_order_of_none : (s : ℕ) (es : List Entry) → AllByRecursion (λ (e : Entry). e.who.session ≢ s) es → IsInOrderOf s es
in_order_of_none s [] all = tt
in_order_of_none s (e ∷ es) all = (all_weaker (λ (f : Entry). f.who.session ≢ s) (IsUpto s e) (λ f n i j. absurd (n j)) es all.1, in_order_of_none s es all.1)

-- of one statement
in_order_of_one : (who : Who) (es : List Entry) → AllByRecursion (Comes who) es → IsInOrderOf who.session es
in_order_of_one who [] all = tt
in_order_of_one who (e ∷ es) all = (
  all_weaker (Comes who) (IsUpto who.session e) (λ f c i j.
      let a : e.who.statement ≡ who.statement = ap (λ (w : Who). w.statement) (own_session who e all.0 i) in
      let b : f.who.statement ≡ who.statement = ap (λ (w : Who). w.statement) (own_session who f c j) in
      omega (arith, a, b)) es all.1,
  in_order_of_one who es all.1,
)

-- ---- the statements of one session

abbrev IsRising : List Answered → Type 0
IsRising [] = ⊤
IsRising (a ∷ more) = AllByRecursion (λ (b : Answered). a.statement < b.statement) more × IsRising more

-- an entry of the session is of one of these statements
abbrev Mine : ℕ → List Answered → Entry → Type 0
Mine s answers e = e.who.session ≡ s → IsOf answers e.who

-- what a session's statements leave in a group behind a journal
record Segment (c : Contents) (g s : ℕ) (answers : List Answered) (j : Journal) (es : List Entry) : Type 0 where
  of : AllByRecursion (λ (e : Entry). e.who.session ≡ s → IsOf answers e.who) es
  legal : LegalOf s c g j es
  order : IsInOrderOf s es

above : (n : ℕ) (answers : List Answered) (who : Who) → AllByRecursion (λ (b : Answered). n < b.statement) answers → IsOf answers who → n < who.statement
above n answers who all o =
    let b : n < o.answered.statement = all_at (λ (b : Answered). n < b.statement) answers o.place o.answered all o.there in
    let same : o.answered.statement ≡ who.statement = ap (λ (w : Who). w.statement) o.is in
    omega (arith, b, same)

later_one : (a : Answered) (answers : List Answered) (who : Who) → IsOf answers who → IsOf (a ∷ answers) who
later_one a answers who o = record { answered = o.answered; place = suc o.place; there = o.there; is = o.is }

segment_more : (c : Contents) (g : ℕ) (a : Answered) (answers : List Answered) (j : Journal) (more es : List Entry) → AllByRecursion (λ (b : Answered). a.statement < b.statement) answers →
    AllByRecursion (Comes (who_of a)) more → AllByRecursion (IsLegalStep c g (who_of a)) (steps_after (who_of a) j more) → Segment c g a.session answers (with_list j (j.entries ++ more)) es →
    Segment c g a.session (a ∷ answers) j (more ++ es)
segment_more c g a answers j more es rising comes legal t = record {
  of = all_append (Mine a.session (a ∷ answers)) more es
      (all_weaker (Comes (who_of a)) (Mine a.session (a ∷ answers)) (λ e k same. record { answered = a; place = 0; there = refl; is = sym (own_session (who_of a) e k same) }) more comes)
      (all_weaker (Mine a.session answers) (Mine a.session (a ∷ answers)) (λ e k same. later_one a answers e.who (k same)) es t.of);
  legal = legal_of_append a.session c g j more es (legal_of_visit c g (who_of a) j more comes legal) t.legal;
  order = in_order_of_append a.session more es (in_order_of_one (who_of a) more comes) t.order
      (all_weaker (Comes (who_of a)) (λ (e : Entry). AllByRecursion (IsUpto a.session e) es) (λ e k.
      all_weaker (λ (f : Entry). f.who.session ≡ a.session → IsOf answers f.who) (IsUpto a.session e) (λ f m i l.
      let n : e.who.statement ≡ a.statement = ap (λ (w : Who). w.statement) (own_session (who_of a) e k i) in
      let o = above a.statement answers f.who rising (m l) in
      omega (arith, n, o)) es t.of) more comes);
}

segment_less : (c : Contents) (g s : ℕ) (answers : List Answered) (j : Journal) (es more : List Entry) → Segment c g s answers j es → AllByRecursion (λ (e : Entry). e.who.session ≢ s) more → Segment c g s answers j (es ++ more)
segment_less c g s answers j es more t none = record {
  of = all_append (Mine s answers) es more t.of (all_weaker (λ (e : Entry). e.who.session ≢ s) (Mine s answers) (λ e n same. absurd (n same)) more none);
  legal = legal_of_append s c g j es more t.legal (legal_of_none s c g (with_list j (j.entries ++ es)) more none);
  order = in_order_of_append s es more t.order (in_order_of_none s more none)
      (all_weaker (Mine s answers) (λ (e : Entry). AllByRecursion (IsUpto s e) more) (λ e m. all_weaker (λ (f : Entry). f.who.session ≢ s) (IsUpto s e) (λ f n i l. absurd (n l)) more none) es t.of);
}

module _ (rules : Rules) (run : Run) (e : Environment) (phase : Answered → Phase) (beside : (a : Answered) (f : Entry) → among f.who.session (phase a).sessions ≡ true → f.who.session ≢ a.session) where
  comes : (a : Answered) (more : List Entry) → AllByRecursion (MayCome (phase a) (who_of a)) more → AllByRecursion (Comes (who_of a)) more
  comes a more all = all_weaker (MayCome (phase a) (who_of a)) (Comes (who_of a)) (λ f m. by f m) more all
    where
      by : (f : Entry) → MayCome (phase a) (who_of a) f → Comes (who_of a) f
      by f (inl m) = inl m
      by f (inr m) = inr (beside a f m)

  served_count : (old : List Journal) (answers : List Answered) (new : List Journal) → AreServed rules run e phase old answers new → length old ≤ length new
  served_count old [] new h = omega (arith, ap length h)
  served_count old (a ∷ more) new h = let more_count = served_count h.0 more new h.2 in let count = h.1.2.count in omega (arith, more_count, count)

  served_segment : (s : ℕ) (old : List Journal) (answers : List Answered) (new : List Journal) → AllByRecursion (λ (a : Answered). a.session ≡ s) answers → IsRising answers → AreServed rules run e phase old answers new →
      (g : ℕ) → g < length old → (es : List Entry) × (journal_in new g ≡ with_list (journal_in old g) ((journal_in old g).entries ++ es)) × Segment e.catalog g s answers (journal_in old g) es
  served_segment s old [] new mine rising h g l = ([], ap (λ (v : List Journal). journal_in v g) h ∙ ap (with_list (journal_in old g)) (sym (append-nil (journal_in old g).entries)), record { of = tt; legal = tt; order = tt })
  served_segment s old (a ∷ more) new mine rising h g l =
      let mid = h.0 in
      let v = h.1.2.grown g l in
      let r = served_segment s mid more new mine.1 rising.1 h.2 g (let count = h.1.2.count in omega (arith, l, count)) in
      let j = journal_in old g in (
        v.0 ++ r.0,
        appended j (journal_in mid g) (journal_in new g) v.0 r.0 v.1 r.1,
        subst (λ n. Segment e.catalog g n (a ∷ more) j (v.0 ++ r.0)) mine.0
            (segment_more e.catalog g a more j v.0 r.0 rising.0 (comes a v.0 v.3) (subst (AllByRecursion (IsLegalStep e.catalog g (who_of a))) v.2 (h.1.1.legal g))
            (subst (λ n. Segment e.catalog g n more (with_list j (j.entries ++ v.0)) r.0) (sym mine.0) (subst (λ (x : Journal). Segment e.catalog g s more x r.0) v.1 r.2))),
      )

-- ---- statements before each other

no_precedes : (order : ℕ → ℕ) (f e : Who) → order e.statement ≤ order f.statement → (f.session ≡ e.session → e.statement ≤ f.statement) → precedes order f e ≡ false
no_precedes order f e l s = rw (le-ltb (order f.statement) (order e.statement) l) (elim (two_ways (nat_eq f.session e.session)) [
  | inl y ↦ rw (y, le-ltb f.statement e.statement (s (eqb-true f.session e.session y))) refl
  | inr n ↦ rw n refl
])

precedes_alike : (order other : ℕ → ℕ) (a b : Who) → order a.statement ≡ other a.statement → order b.statement ≡ other b.statement → precedes other a b ≡ precedes order a b
precedes_alike order other a b p q =
    ap (λ n. nat_lt n (other b.statement) || (nat_eq a.session b.session && nat_lt a.statement b.statement)) (sym p)
    ∙ ap (λ n. nat_lt (order a.statement) n || (nat_eq a.session b.session && nat_lt a.statement b.statement)) (sym q)

abbrev pub IsAlike : (ℕ → ℕ) → (ℕ → ℕ) → Entry → Type 0
IsAlike order other f = order f.who.statement ≡ other f.who.statement

in_order_alike : (order other : ℕ → ℕ) (es : List Entry) → AllByRecursion (IsAlike order other) es → IsInOrder order es → IsInOrder other es
in_order_alike order other [] same o = tt
in_order_alike order other (e ∷ es) same o = (
  all_both (IsAlike order other) (λ (f : Entry). precedes order f.who e.who ≡ false) (λ (f : Entry). precedes other f.who e.who ≡ false) (λ f s p. precedes_alike order other f.who e.who s same.0 ∙ p) es same.1 o.0,
  in_order_alike order other es same.1 o.1,
)

in_order_append : (order : ℕ → ℕ) (es fs : List Entry) → IsInOrder order es → IsInOrder order fs → AllByRecursion (λ (e : Entry). AllByRecursion (λ (f : Entry). precedes order f.who e.who ≡ false) fs) es → IsInOrder order (es ++ fs)
in_order_append order [] fs h k cross = k
in_order_append order (e ∷ es) fs h k cross = (all_append (λ (f : Entry). precedes order f.who e.who ≡ false) es fs h.0 cross.0, in_order_append order es fs h.1 k cross.1)

filter_alike : {X : Type 0} (p q : X → Bool) (xs : List X) → AllByRecursion (λ x. p x ≡ q x) xs → filter p xs ≡ filter q xs
filter_alike p q [] same = refl
filter_alike p q (x ∷ xs) same = elim (two_ways (q x)) [
  | inl t ↦ rw (same.0 ∙ t, t) (ap (λ v. x ∷ v) (filter_alike p q xs same.1))
  | inr f ↦ rw (same.0 ∙ f, f) (filter_alike p q xs same.1)
]

pub deed_alike : (order other : ℕ → ℕ) (p : Phase) (journals : List Journal) (who : Who) (d : Deed) → order who.statement ≡ other who.statement →
    ((g : ℕ) → AllByRecursion (IsAlike order other) (journal_in journals g).entries) → HasDeed order p journals who d → HasDeed other p journals who d
deed_alike order other p journals who d same alike h = record {
  made = h.made;
  there = h.there;
  looked = λ g j l none.
      let o = h.looked g j l none in
      let es = (journal_in journals g).entries in (
        o.0,
        o.1,
        record {
          own = o.2.own;
          after = λ n. all_both (IsAlike order other) (λ (f : Entry). precedes order who f.who ≡ false) (λ (f : Entry). precedes other who f.who ≡ false) (λ f s p. precedes_alike order other who f.who same s ∙ p)
              (take o.0 es) (all_take (IsAlike order other) o.0 es (alike g)) (o.2.after n);
          upto = λ n. all_both (IsAlike order other) (λ (f : Entry). precedes order f.who who ≡ false) (λ (f : Entry). precedes other f.who who ≡ false) (λ f s p. precedes_alike order other f.who who s same ∙ p)
              (drop o.0 es) (all_drop (IsAlike order other) 0 o.0 es (omega arith) (alike g)) (o.2.upto n);
        },
        o.3,
      );
  count = h.count;
  began = λ g l.
      h.began g l
      ∙ ap (with_list (journal_in journals g)) (filter_alike (λ (f : Entry). nat_lt (order f.who.statement) (order who.statement)) (λ (f : Entry). nat_lt (other f.who.statement) (other who.statement)) (journal_in journals g).entries
      (all_weaker (IsAlike order other) (λ (f : Entry). nat_lt (order f.who.statement) (order who.statement) ≡ nat_lt (other f.who.statement) (other who.statement))
      (λ f s. ap (λ n. nat_lt n (order who.statement)) s ∙ ap (λ n. nat_lt (other f.who.statement) n) same) (journal_in journals g).entries (alike g)));
}

-- ---- all sessions together

module _ (sessions : List ℕ) where
  abbrev AreKnown : List Entry → Type 0
  AreKnown es = AllByRecursion (λ (e : Entry). among e.who.session sessions ≡ true) es

  combine : (Q : Entry → Type 0) (es : List Entry) → AreKnown es → ((s : ℕ) → among s sessions ≡ true → AllByRecursion (λ (e : Entry). e.who.session ≡ s → Q e) es) → AllByRecursion Q es
  combine Q [] known each = tt
  combine Q (e ∷ es) known each = ((each e.who.session known.0).0 refl, combine Q es known.1 (λ s m. (each s m).1))

  combine_legal : (c : Contents) (g : ℕ) (j : Journal) (es : List Entry) → AreKnown es → ((s : ℕ) → among s sessions ≡ true → LegalOf s c g j es) → LegalOn c g j es
  combine_legal c g j [] known each = tt
  combine_legal c g j (e ∷ es) known each = ((each e.who.session known.0).0 refl, combine_legal c g (with_list j (j.entries ++ e ∷ [])) es known.1 (λ s m. (each s m).1))

  combine_order : (order : ℕ → ℕ) (now : ℕ) (es : List Entry) → AreKnown es → AllByRecursion (λ (e : Entry). order e.who.statement ≡ now) es → ((s : ℕ) → among s sessions ≡ true → IsInOrderOf s es) → IsInOrder order es
  combine_order order now [] known new each = tt
  combine_order order now (e ∷ es) known new each = (
    all_both (λ (f : Entry). order f.who.statement ≡ now) (IsUpto e.who.session e) (λ (f : Entry). precedes order f.who e.who ≡ false)
        (λ f n u. no_precedes order f.who e.who (let a = new.0 in omega (arith, a, n)) (λ same. u refl same)) es new.1 (each e.who.session known.0).0,
    combine_order order now es known.1 new.1 (λ s m. (each s m).1),
  )

  by_sessions : (Q : Answered → Type 0) (xs : List Answered) → AllByRecursion (λ (a : Answered). among a.session sessions ≡ true) xs → ((s : ℕ) → among s sessions ≡ true → AllByRecursion Q (of_session s xs)) → AllByRecursion Q xs
  by_sessions Q [] known each = tt
  by_sessions Q (a ∷ xs) known each = (head, by_sessions Q xs known.1 tail)
    where
      kept : (b : Bool) → b ≡ true → AllByRecursion Q (cond b (a ∷ of_session a.session xs) (of_session a.session xs)) → Q a
      kept true t h = h.0
      kept false t h = absurd (cc t)

      head : Q a
      head = kept (nat_eq a.session a.session) (eq-eqb a.session a.session refl) (each a.session known.0)

      rest : (s : ℕ) (b : Bool) → AllByRecursion Q (cond b (a ∷ of_session s xs) (of_session s xs)) → AllByRecursion Q (of_session s xs)
      rest s true h = h.1
      rest s false h = h

      tail : (s : ℕ) → among s sessions ≡ true → AllByRecursion Q (of_session s xs)
      tail s m = rest s (nat_eq a.session s) (each s m)

passes : {X : Type 0} (p : X → Bool) (xs : List X) → AllByRecursion (λ x. p x ≡ true) (filter p xs)
passes p [] = tt
passes p (x ∷ xs) = elim (two_ways (p x)) [ inl t ↦ rw t (t, passes p xs) | inr f ↦ rw f (passes p xs) ]

-- the place of an item among all
get_filtered : (p : Answered → Bool) (xs : List Answered) (i : ℕ) (x : Answered) → slice_get (filter p xs) i ≡ Some x → (k : ℕ) × (slice_get xs k ≡ Some x)
get_filtered p [] i x h = (i, h)
get_filtered p (y ∷ ys) i x h = elim (two_ways (p y)) [
  | inl t ↦ behind y ys (filter p ys) x (λ k g. get_filtered p ys k x g) i (rw t at h)
  | inr f ↦ (let r = get_filtered p ys i x (rw f at h) in (suc r.0, r.1))
]
  where
    behind : (y : Answered) (ys zs : List Answered) (x : Answered) → ((k : ℕ) → slice_get zs k ≡ Some x → (l : ℕ) × (slice_get ys l ≡ Some x)) → (i : ℕ) → slice_get (y ∷ zs) i ≡ Some x → (l : ℕ) × (slice_get (y ∷ ys) l ≡ Some x)
    behind y ys zs x more zero h = (0, h)
    behind y ys zs x more (suc i) h = let r = more i h in (suc r.0, r.1)

pub get_left : (zs ys : List Answered) (i : ℕ) (x : Answered) → slice_get zs i ≡ Some x → slice_get (zs ++ ys) i ≡ Some x
get_left [] ys i x h = cc
get_left (z ∷ zs) ys zero x h = h
get_left (z ∷ zs) ys (suc i) x h = get_left zs ys i x h

get_right : (zs ys : List Answered) (i : ℕ) (x : Answered) → slice_get ys i ≡ Some x → (k : ℕ) × (slice_get (zs ++ ys) k ≡ Some x)
get_right [] ys i x h = (i, h)
get_right (z ∷ zs) ys i x h = let r = get_right zs ys i x h in (suc r.0, r.1)

of_filter : (p : Answered → Bool) (xs : List Answered) (who : Who) → IsOf (filter p xs) who → IsOf xs who
of_filter p xs who o = let r = get_filtered p xs o.place o.answered o.there in record { answered = o.answered; place = r.0; there = r.1; is = o.is }

left_of : (xs ys : List Answered) (who : Who) → IsOf xs who → IsOf (xs ++ ys) who
left_of xs ys who o = record { answered = o.answered; place = o.place; there = get_left xs ys o.place o.answered o.there; is = o.is }

right_of : (xs ys : List Answered) (who : Who) → IsOf ys who → IsOf (xs ++ ys) who
right_of xs ys who o = let r = get_right xs ys o.place o.answered o.there in record { answered = o.answered; place = r.0; there = r.1; is = o.is }

-- ---- the phase of a statement, by its answer

abbrev IsLow : Answered → Type 0
IsLow a = a.phase ≤ a.statement

apart_numbers : (b a : Answered) → StandsBefore b a → IsLow a → b.statement ≡ a.statement → ⊥
apart_numbers b a (inl k) low same = let l = k.1 in omega (arith, l, low, same)
apart_numbers b a (inr k) low same = by k.order
  where
    by : ((b.session < a.session) × (b.statement ≢ a.statement)) ⊎ ((b.session ≡ a.session) × (b.statement < a.statement)) → ⊥
    by (inl o) = o.1 same
    by (inr o) = let l = o.1 in omega (arith, l, same)

pub found_phase : (xs : List Answered) → AreInScriptOrder xs → AllByRecursion IsLow xs → (i : ℕ) (a : Answered) → slice_get xs i ≡ Some a → phase_in xs a.statement ≡ a.phase
found_phase [] script low i a g = cc
found_phase (b ∷ xs) script low zero a g =
    let same : b ≡ a = cc in
    rw (eq-eqb b.statement a.statement (ap (λ (x : Answered). x.statement) same)) (ap (λ (x : Answered). x.phase) same)
found_phase (b ∷ xs) script low (suc i) a g =
    rw (ne_eqb b.statement a.statement (apart_numbers b a (all_at (StandsBefore b) xs i a script.0 g) (all_at IsLow xs i a low.1 g))) (found_phase xs script.1 low.1 i a g)

of_phase : (xs : List Answered) → AreInScriptOrder xs → AllByRecursion IsLow xs → (who : Who) (place : ℕ) (a : Answered) → slice_get xs place ≡ Some a → who_of a ≡ who → phase_in xs who.statement ≡ a.phase
of_phase xs script low who place a there is = ap (phase_in xs) (sym (ap (λ (w : Who). w.statement) is)) ∙ found_phase xs script low place a there

-- ---- answers with those of one more phase

module _ (run : Run) (answers block : List Answered) (e : Environment) (environment : e ≡ environment_from (first run) answers) (numbered : AllByRecursion (IsNumbered answers) answers)
    (complete : AreComplete answers) (script : AreInScriptOrder answers) (next : AllByRecursion (IsNext (length answers + 1) e) block) (in_block : AreInScriptOrder block) where
  abbrev all : List Answered
  all = answers ++ block

  abbrev now : ℕ
  now = length answers + 1

  abbrev pub IsPast : Answered → Type 0
  IsPast a = (a.phase < now) × (a.statement < now) × IsLow a

  pub past : AllByRecursion IsPast answers
  past = all_both (IsNumbered answers) (λ (a : Answered). a.statement ≤ length answers) IsPast (λ a n m. let low = n.low in (omega (arith, low, m), omega (arith, m), low)) answers numbered complete

  low_all : AllByRecursion IsLow all
  low_all = all_append IsLow answers block (all_weaker IsPast IsLow (λ a p. p.2) answers past) (all_weaker (IsNext now e) IsLow (λ a n. n.1) block next)

  script_all : AreInScriptOrder all
  script_all = more answers past script
    where
      more : (xs : List Answered) → AllByRecursion IsPast xs → AreInScriptOrder xs → AreInScriptOrder (xs ++ block)
      more [] p s = in_block
      more (a ∷ xs) p s = (
        all_append (StandsBefore a) xs block s.0
            (all_weaker (IsNext now e) (StandsBefore a) (λ b n. let is = n.0 in let low = p.0.0 in let few = p.0.1 in inl (omega (arith, is, low), omega (arith, is, few))) block next),
        more xs p.1 s.1,
      )

  earlier : (q : ℕ) → q ≤ now → before_phase q all ≡ before_phase q answers
  earlier q l =
      filter-append (λ (a : Answered). nat_lt a.phase q) answers block
      ∙ ap (λ (v : List Answered). before_phase q answers ++ v) (filter_none (λ (a : Answered). nat_lt a.phase q) block
      (all_weaker (IsNext now e) (λ (b : Answered). nat_lt b.phase q ≡ false) (λ b n. let is = n.0 in le-ltb b.phase q (omega (arith, is, l))) block next))
      ∙ append-nil (before_phase q answers)

  before_now : before_phase now all ≡ answers
  before_now = earlier now (omega arith) ∙ filter_all (λ (a : Answered). nat_lt a.phase now) answers (all_weaker IsPast (λ (a : Answered). nat_lt a.phase now ≡ true) (λ a p. lt-ltb a.phase now p.0) answers past)

  environment_now : environment_at run all now ≡ e
  environment_now = ap (environment_from (first run)) before_now ∙ sym environment

  pub environment_then : (a : Answered) → IsPast a → environment_at run all a.phase ≡ environment_at run answers a.phase
  environment_then a p = ap (environment_from (first run)) (earlier a.phase (let l = p.0 in omega (arith, l)))

  pub beside_then : (a : Answered) → IsPast a → beside_in all a ≡ beside_in answers a
  beside_then a p =
      ap (map (λ (b : Answered). b.bound)) (
      filter-append (is_beside a) answers block
      ∙ ap (λ (v : List Answered). filter (is_beside a) answers ++ v) (filter_none (is_beside a) block (all_weaker (IsNext now e) (λ (b : Answered). is_beside a b ≡ false)
      (λ b n. rw (ne_eqb b.phase a.phase (λ same. let is = n.0 in let l = p.0 in omega (arith, is, l, same))) refl) block next))
      ∙ append-nil (filter (is_beside a) answers)
      )

  numbered_all : AllByRecursion (IsNumbered all) all
  numbered_all = all_append (IsNumbered all) answers block
      (all_both (IsNumbered answers) IsPast (IsNumbered all) (λ a n p. record {
        phase = n.phase ∙ ap (λ (v : List Answered). length v + 1) (sym (earlier a.phase (let l = p.0 in omega (arith, l))));
        low = n.low;
        serial = n.serial;
      }) answers numbered past)
      (all_weaker (IsNext now e) (IsNumbered all) (λ b n. record {
        phase = subst (λ q. q ≡ length (before_phase q all) + 1) (sym n.0) (ap (λ (v : List Answered). length v + 1) (sym before_now));
        low = n.1;
        serial = n.2;
      }) block next)

  settings_all : AllByRecursion (λ (a : Answered). a.settings ≡ (environment_at run answers a.phase).settings) answers → AllByRecursion (λ (a : Answered). a.settings ≡ (environment_at run all a.phase).settings) all
  settings_all so = all_append (λ (a : Answered). a.settings ≡ (environment_at run all a.phase).settings) answers block
      (all_both (λ (a : Answered). a.settings ≡ (environment_at run answers a.phase).settings) IsPast (λ (a : Answered). a.settings ≡ (environment_at run all a.phase).settings)
      (λ a s p. s ∙ ap (λ (v : Environment). v.settings) (sym (environment_then a p))) answers so past)
      (all_weaker (IsNext now e) (λ (a : Answered). a.settings ≡ (environment_at run all a.phase).settings)
      (λ b n. subst (λ q. b.settings ≡ (environment_at run all q).settings) (sym n.0) (n.3 ∙ ap (λ (v : Environment). v.settings) (sym environment_now))) block next)

  -- entries of the answers so far, and of the phase
  abbrev IsOld : Entry → Type 0
  IsOld f = (phase_in all f.who.statement < now) × (f.who.statement < now) × IsAlike (phase_in answers) (phase_in all) f

  abbrev IsNew : Entry → Type 0
  IsNew f = (phase_in all f.who.statement ≡ now) × (now ≤ f.who.statement)

  old_in_all : (who : Who) (o : IsOf answers who) → phase_in all who.statement ≡ o.answered.phase
  old_in_all who o = of_phase all script_all low_all who o.place o.answered (get_left answers block o.place o.answered o.there) o.is

  pub old_phase : (who : Who) (o : IsOf answers who) → phase_in answers who.statement ≡ phase_in all who.statement
  old_phase who o = of_phase answers script (all_weaker IsPast IsLow (λ a p. p.2) answers past) who o.place o.answered o.there o.is ∙ sym (old_in_all who o)

  new_in_all : (who : Who) (o : IsOf block who) → phase_in all who.statement ≡ now
  new_in_all who o =
      let r = get_right answers block o.place o.answered o.there in
      of_phase all script_all low_all who r.0 o.answered r.1 o.is ∙ (all_at (IsNext now e) block o.place o.answered next o.there).0

  old_entry : (f : Entry) → IsOf answers f.who → IsOld f
  old_entry f o =
      let p : IsPast o.answered = all_at IsPast answers o.place o.answered past o.there in
      let is = old_in_all f.who o in
      let n : o.answered.statement ≡ f.who.statement = ap (λ (w : Who). w.statement) o.is in
      (let a = p.0 in omega (arith, a, is), let b = p.1 in omega (arith, b, n), old_phase f.who o)

  new_entry : (f : Entry) → IsOf block f.who → IsNew f
  new_entry f o =
      let x : IsNext now e o.answered = all_at (IsNext now e) block o.place o.answered next o.there in
      let n : o.answered.statement ≡ f.who.statement = ap (λ (w : Who). w.statement) o.is in
      (new_in_all f.who o, let a = x.0 in let b = x.1 in omega (arith, a, b, n))

-- ---- one more phase

-- the front of a list that is dropped
same_rest : {X : Type 0} (xs ys zs : List X) → xs ++ ys ≡ xs ++ zs → ys ≡ zs
same_rest xs ys zs h = sym (drop_all xs ys) ∙ ap (drop (length xs)) h ∙ drop_all xs zs

no_front : {X : Type 0} (xs ys : List X) → xs ++ ys ≡ [] → xs ≡ []
no_front [] ys h = refl
no_front (x ∷ xs) ys h = cc

no_back : {X : Type 0} (xs ys : List X) → xs ++ ys ≡ [] → ys ≡ []
no_back [] ys h = h
no_back (x ∷ xs) ys h = cc

pub all_by_get : {X : Type 0} (P : X → Type 0) (xs : List X) → ((i : ℕ) (x : X) → slice_get xs i ≡ Some x → P x) → AllByRecursion P xs
all_by_get P [] h = tt
all_by_get P (x ∷ xs) h = (h 0 x refl, all_by_get P xs (λ i y g. h (suc i) y g))

pub fold_more : (e : Environment) (xs ys : List Answered) → environment_from e (xs ++ ys) ≡ environment_from (environment_from e xs) ys
fold_more e [] ys = refl
fold_more e (x ∷ xs) ys = fold_more (after e x.bound x.answer) xs ys

module _ (rules : Rules) (run : Run) (before : Era) (joined : List Answered) (e : Environment) (answers block : List Answered) (sessions : List ℕ) (old new : List Journal)
    (c : IsConsistentIn rules run before joined e answers old) (ph : IsPhase rules run (length before.journals) e joined block sessions old new) where
  abbrev whole : List Answered
  whole = joined ++ block

  abbrev here : ℕ
  here = length joined + 1

  abbrev order : ℕ → ℕ
  order = phase_in whole

  abbrev given : Answered → Phase
  given = phase_of whole sessions old

  abbrev Old : Entry → Type 0
  Old = IsOld run joined block e c.environment c.log.numbered c.complete c.log.script ph.next ph.script

  abbrev New : Entry → Type 0
  New f = (order f.who.statement ≡ here) × (here ≤ f.who.statement)

  others : (a : Answered) (f : Entry) → among f.who.session (given a).sessions ≡ true → f.who.session ≢ a.session
  others a f m same = none (filter (λ s. not (nat_eq s a.session)) sessions) (passes (λ s. not (nat_eq s a.session)) sessions) m
    where
      none : (ss : List ℕ) → AllByRecursion (λ s. not (nat_eq s a.session) ≡ true) ss → among f.who.session ss ≡ true → ⊥
      none [] all h = absurd (cc h)
      none (s ∷ ss) all h = elim (two_ways (nat_eq f.who.session s)) [
        | inl y ↦
            let at : s ≡ a.session = sym (eqb-true f.who.session s y) ∙ same in
            let bad : false ≡ true = sym (ap not (eq-eqb s a.session at)) ∙ all.0 in
            cc bad
        | inr n ↦ none ss all.1 (rw n at h)
      ]

  -- ---- the entries of the phase, of all sessions

  mine_all : (s : ℕ) → AllByRecursion (λ (a : Answered). a.session ≡ s) (of_session s block)
  mine_all s = all_weaker (λ (a : Answered). nat_eq a.session s ≡ true) (λ (a : Answered). a.session ≡ s) (λ a y. eqb-true a.session s y) (of_session s block) (passes (λ (a : Answered). nat_eq a.session s) block)

  rising_all : (s : ℕ) (xs : List Answered) → AllByRecursion (IsNext here e) xs → AreInScriptOrder xs → IsRising (of_session s xs)
  rising_all s [] next script = tt
  rising_all s (a ∷ xs) next script = elim (two_ways (nat_eq a.session s)) [
    | inl y ↦ rw y (
      all_both (λ (b : Answered). nat_eq b.session s ≡ true) (λ (b : Answered). IsNext here e b × StandsBefore a b) (λ (b : Answered). a.statement < b.statement)
          (λ b z k. less b (eqb-true a.session s y ∙ sym (eqb-true b.session s z)) k.0 k.1) (of_session s xs) (passes (λ (b : Answered). nat_eq b.session s) xs)
          (all_filtered (λ (b : Answered). IsNext here e b × StandsBefore a b) (λ (b : Answered). nat_eq b.session s) xs
          (all_both (IsNext here e) (StandsBefore a) (λ (b : Answered). IsNext here e b × StandsBefore a b) (λ b n k. (n, k)) xs next.1 script.0)),
      rising_all s xs next.1 script.1,
    )
    | inr n ↦ rw n (rising_all s xs next.1 script.1)
  ]
    where
      less : (b : Answered) → a.session ≡ b.session → IsNext here e b → StandsBefore a b → a.statement < b.statement
      less b same n (inl k) = absurd (let p = next.0.0 in let q = n.0 in let l = k.0 in omega (arith, p, q, l))
      less b same n (inr k) = by k.order
        where
          by : ((a.session < b.session) × (a.statement ≢ b.statement)) ⊎ ((a.session ≡ b.session) × (a.statement < b.statement)) → a.statement < b.statement
          by (inl o) = absurd (let l = o.0 in omega (arith, l, same))
          by (inr o) = o.1

  abbrev entries_of : (g : ℕ) → g < length old → List Entry
  entries_of g l = (ph.entries g l).0

  -- what a session leaves of them
  segment : (s : ℕ) (m : among s sessions ≡ true) (g : ℕ) (l : g < length old) → Segment e.catalog g s (of_session s block) (journal_in old g) (entries_of g l)
  segment s m g l =
      let x = ph.each s m in
      let t = served_segment rules run e given others s old (of_session s block) x.seen (mine_all s) (rising_all s block ph.next ph.script) x.served g l in
      let long = served_count rules run e given others old (of_session s block) x.seen x.served in
      let r = x.goes_on g (omega (arith, l, long)) in
      let j = journal_in old g in
      let is : journal_in new g ≡ with_list j (j.entries ++ (t.0 ++ r.0)) = appended j (journal_in x.seen g) (journal_in new g) t.0 r.0 t.1 r.1 in
      let same : t.0 ++ r.0 ≡ entries_of g l = same_rest j.entries (t.0 ++ r.0) (entries_of g l) (ap (λ (v : Journal). v.entries) (sym is ∙ (ph.entries g l).1)) in
      subst (Segment e.catalog g s (of_session s block) j) same (segment_less e.catalog g s (of_session s block) j t.0 r.0 t.2 r.2)

  of_block : (g : ℕ) (l : g < length old) → AllByRecursion (λ (f : Entry). IsOf block f.who) (entries_of g l)
  of_block g l = combine sessions (λ (f : Entry). IsOf block f.who) (entries_of g l) (ph.entries g l).2 (λ s m.
      all_weaker (Mine s (of_session s block)) (λ (f : Entry). f.who.session ≡ s → IsOf block f.who) (λ f k same. of_filter (λ (a : Answered). nat_eq a.session s) block f.who (k same)) (entries_of g l) (segment s m g l).of)

  new_all : (g : ℕ) (l : g < length old) → AllByRecursion New (entries_of g l)
  new_all g l = all_weaker (λ (f : Entry). IsOf block f.who) New (λ f o. new_entry run joined block e c.environment c.log.numbered c.complete c.log.script ph.next ph.script f o) (entries_of g l) (of_block g l)

  in_joined : (who : Who) → IsOf answers who → IsOf joined who
  in_joined who o = let i = all_at (IsIn joined) answers o.place o.answered c.log.own o.there in record { answered = o.answered; place = i.place; there = i.there; is = o.is }

  old_entry_of : (f : Entry) → IsOf joined f.who → Old f
  old_entry_of f o = old_entry run joined block e c.environment c.log.numbered c.complete c.log.script ph.next ph.script f o

  old_all : (g : ℕ) → AllByRecursion Old (journal_in old g).entries
  old_all g = all_weaker (λ (f : Entry). IsOf answers f.who) Old (λ f o. old_entry_of f (in_joined f.who o)) (journal_in old g).entries (c.log.of_answers g)

  -- ---- the journals

  -- a fact of each group's journal
  at_each : (P : Journal → Type 0) (g : ℕ) → ((l : g < length old) → P (with_list (journal_in old g) ((journal_in old g).entries ++ entries_of g l))) → (length old ≤ g → P (journal_in new g)) → P (journal_in new g)
  at_each P g before behind = elim (cases_lt g (length old)) [ inl l ↦ subst P (sym (ph.entries g l).1) (before l) | inr m ↦ behind m ]

  no_entries : (g : ℕ) → length old ≤ g → (journal_in new g).entries ≡ []
  no_entries g m = (ph.fresh g m).entries

  legal_all : (g : ℕ) → IsLegal (environment_from e block).catalog g (journal_in new g)
  legal_all g = at_each (IsLegal (environment_from e block).catalog g) g
      (λ l. legal_later e.catalog (environment_from e block).catalog ph.on g (with_list (journal_in old g) ((journal_in old g).entries ++ entries_of g l))
      (legal_on e.catalog g (journal_in old g) (entries_of g l) (c.log.legal g) (combine_legal sessions e.catalog g (journal_in old g) (entries_of g l) (ph.entries g l).2 (λ s m. (segment s m g l).legal))))
      (λ m. legal_fresh (environment_from e block).catalog g (journal_in new g) (ph.fresh g m))

  of_all : (g : ℕ) → AllByRecursion (λ (f : Entry). IsOf (answers ++ block) f.who) (journal_in new g).entries
  of_all g = at_each (λ (j : Journal). AllByRecursion (λ (f : Entry). IsOf (answers ++ block) f.who) j.entries) g
      (λ l. all_append (λ (f : Entry). IsOf (answers ++ block) f.who) (journal_in old g).entries (entries_of g l)
      (all_weaker (λ (f : Entry). IsOf answers f.who) (λ (f : Entry). IsOf (answers ++ block) f.who) (λ f o. left_of answers block f.who o) (journal_in old g).entries (c.log.of_answers g))
      (all_weaker (λ (f : Entry). IsOf block f.who) (λ (f : Entry). IsOf (answers ++ block) f.who) (λ f o. right_of answers block f.who o) (entries_of g l) (of_block g l)))
      (λ m. subst (AllByRecursion (λ (f : Entry). IsOf (answers ++ block) f.who)) (sym (no_entries g m)) tt)

  ordered : (g : ℕ) → IsInOrder order (journal_in new g).entries
  ordered g = at_each (λ (j : Journal). IsInOrder order j.entries) g
      (λ l. in_order_append order (journal_in old g).entries (entries_of g l)
      (in_order_alike (phase_in joined) order (journal_in old g).entries (all_weaker Old (IsAlike (phase_in joined) order) (λ f o. o.2) (journal_in old g).entries (old_all g)) (c.log.order g))
      (combine_order sessions order here (entries_of g l) (ph.entries g l).2 (all_weaker New (λ (f : Entry). order f.who.statement ≡ here) (λ f n. n.0) (entries_of g l) (new_all g l)) (λ s m. (segment s m g l).order))
      (all_weaker Old (λ (f : Entry). AllByRecursion (λ (h : Entry). precedes order h.who f.who ≡ false) (entries_of g l)) (λ f o.
      all_weaker New (λ (h : Entry). precedes order h.who f.who ≡ false)
      (λ h n. no_precedes order h.who f.who (let a = o.0 in let b = n.0 in omega (arith, a, b)) (λ same. let a = o.1 in let b = n.1 in omega (arith, a, b))) (entries_of g l) (new_all g l)) (journal_in old g).entries (old_all g)))
      (λ m. subst (IsInOrder order) (sym (no_entries g m)) tt)

  own_all : AllByRecursion (IsIn whole) (answers ++ block)
  own_all = all_append (IsIn whole) answers block
      (all_weaker (IsIn joined) (IsIn whole) (λ a i. record { place = i.place; there = get_left joined block i.place a i.there }) answers c.log.own)
      (all_by_get (IsIn whole) block (λ i a g. let r = get_right joined block i a g in record { place = r.0; there = r.1 }))

  begins_all : Begins before new
  begins_all = record {
    count = let l = c.log.begins.count in let m = ph.count in omega (arith, l, m);
    opening = λ g l. ap (λ (j : Journal). j.opening) (ph.entries g (within g l)).1 ∙ c.log.begins.opening g l;
    base = λ g table l. ap (λ (j : Journal). j.base table) (ph.entries g (within g l)).1 ∙ c.log.begins.base g table l;
    empty = λ g table m. at_each (λ (j : Journal). j.base table ≡ empty_table) g (λ l. c.log.begins.empty g table m) (λ n. (ph.fresh g n).base table);
  }
    where
      within : (g : ℕ) → g < length before.journals → g < length old
      within g l = let m = c.log.begins.count in omega (arith, l, m)

  is_whole : IsWholeIn run before whole (environment_from e block).catalog (answers ++ block) new
  is_whole = record {
    script = script_all run joined block e c.environment c.log.numbered c.complete c.log.script ph.next ph.script;
    numbered = numbered_all run joined block e c.environment c.log.numbered c.complete c.log.script ph.next ph.script;
    settings = settings_all run joined block e c.environment c.log.numbered c.complete c.log.script ph.next ph.script c.log.settings;
    own = own_all;
    begins = begins_all;
    allowed = all_append IsAllowed joined block c.log.allowed ph.allowed;
    laid = ph.laid;
    numbers = λ g. at_each (λ (j : Journal). j.number ≡ g) g (λ l. c.log.numbers g) (λ m. (ph.fresh g m).number);
    legal = legal_all;
    of_answers = of_all;
    order = ordered;
  }

  -- ---- the deeds of a session

  -- entries before a statement's own, its own with those that come beside, and those behind
  abbrev IsBelow : Answered → Entry → Type 0
  IsBelow a f = (order f.who.statement ≤ here) × (f.who.session ≡ a.session → f.who.statement < a.statement)

  abbrev IsBesides : Answered → Entry → Type 0
  IsBesides a f = (order f.who.statement ≡ here) × Comes (who_of a) f

  abbrev IsAbove : Answered → Entry → Type 0
  IsAbove a f = (order f.who.statement ≡ here) × (f.who.session ≡ a.session → a.statement < f.who.statement)

  abbrev IsHere : Answered → Type 0
  IsHere a = (order a.statement ≡ here) × (here ≤ a.statement)

  below_made : (a : Answered) (f : Entry) → IsBelow a f → made_by (who_of a) f ≡ false
  below_made a f b = apart (who_of a) f.who (λ same.
      let l = b.1 (ap (λ (w : Who). w.session) (sym same)) in
      let n : a.statement ≡ f.who.statement = ap (λ (w : Who). w.statement) same in
      omega (arith, l, n))

  above_made : (a : Answered) (f : Entry) → IsAbove a f → made_by (who_of a) f ≡ false
  above_made a f b = apart (who_of a) f.who (λ same.
      let l = b.1 (ap (λ (w : Who). w.session) (sym same)) in
      let n : a.statement ≡ f.who.statement = ap (λ (w : Who). w.statement) same in
      omega (arith, l, n))

  below_not_after : (a : Answered) (f : Entry) → IsHere a → IsBelow a f → precedes order (who_of a) f.who ≡ false
  below_not_after a f h b = no_precedes order (who_of a) f.who (let p = h.0 in let q = b.0 in omega (arith, p, q)) (λ same. let l = b.1 (sym same) in omega (arith, l))

  besides_not_after : (a : Answered) (f : Entry) → IsHere a → IsBesides a f → precedes order (who_of a) f.who ≡ false
  besides_not_after a f h b = no_precedes order (who_of a) f.who (let p = h.0 in let q = b.0 in omega (arith, p, q))
      (λ same. let n : f.who.statement ≡ a.statement = ap (λ (w : Who). w.statement) (own_session (who_of a) f b.1 (sym same)) in omega (arith, n))

  besides_not_before : (a : Answered) (f : Entry) → IsHere a → IsBesides a f → precedes order f.who (who_of a) ≡ false
  besides_not_before a f h b = no_precedes order f.who (who_of a) (let p = h.0 in let q = b.0 in omega (arith, p, q))
      (λ same. let n : f.who.statement ≡ a.statement = ap (λ (w : Who). w.statement) (own_session (who_of a) f b.1 same) in omega (arith, n))

  above_not_before : (a : Answered) (f : Entry) → IsHere a → IsAbove a f → precedes order f.who (who_of a) ≡ false
  above_not_before a f h b = no_precedes order f.who (who_of a) (let p = h.0 in let q = b.0 in omega (arith, p, q)) (λ same. let l = b.1 same in omega (arith, l))

  old_below : (a : Answered) (f : Entry) → IsHere a → Old f → IsBelow a f
  old_below a f h o = (let p = o.0 in omega (arith, p), λ same. let p = o.1 in let q = h.1 in omega (arith, p, q))

  -- the journal as the phase began
  begun_here : (a : Answered) (g : ℕ) (more : List Entry) → IsHere a → AllByRecursion New more → begun order (who_of a) (with_list (journal_in old g) ((journal_in old g).entries ++ more)) ≡ journal_in old g
  begun_here a g more h new_ones =
      let es = (journal_in old g).entries in
      let p : Entry → Bool = λ f. nat_lt (order f.who.statement) (order a.statement) in
      ap (with_list (journal_in old g)) (
      filter-append p es more
      ∙ ap (λ (v : List Entry). v ++ filter p more) (filter_all p es (all_weaker Old (λ (f : Entry). p f ≡ true) (λ f o. let q = o.0 in let r = h.0 in lt-ltb (order f.who.statement) (order a.statement) (omega (arith, q, r))) es (old_all g)))
      ∙ ap (λ (v : List Entry). es ++ v) (filter_none p more (all_weaker New (λ (f : Entry). p f ≡ false) (λ f n. let q = n.0 in let r = h.0 in le-ltb (order f.who.statement) (order a.statement) (omega (arith, q, r))) more new_ones))
      ∙ append-nil es
      )

  -- what a session has seen: what stood there as the phase began, and entries of other sessions and of its own statements before these
  record Seen (s : ℕ) (answers_left : List Answered) (cur : List Journal) : Type 0 where
    count : length old ≤ length cur
    grown : (g : ℕ) → g < length old → (x : List Entry) × (journal_in cur g ≡ with_list (journal_in old g) ((journal_in old g).entries ++ x))
        × AllByRecursion (λ (f : Entry). f.who.session ≡ s → AllByRecursion (λ (a : Answered). f.who.statement < a.statement) answers_left) x

  abbrev HasDone : Answered → Type 0
  HasDone a = (d : Deed) × Does rules run e (given a) (who_of a) d a.bound a.answer × HasDeed order (given a) new (who_of a) d

  module _ (s : ℕ) (m : among s sessions ≡ true) where
    abbrev seen : List Journal
    seen = (ph.each s m).seen

    -- the entries behind what a session has seen
    tail : (left : List Answered) (cur : List Journal) → AllByRecursion (λ (a : Answered). a.session ≡ s) left → IsRising left → AreServed rules run e given cur left seen → (g : ℕ) → g < length cur →
        (r : List Entry) × (journal_in new g ≡ with_list (journal_in cur g) ((journal_in cur g).entries ++ r)) × AllByRecursion (Mine s left) r
    tail left cur mine rising served g l =
        let t = served_segment rules run e given others s cur left seen mine rising served g l in
        let long = served_count rules run e given others cur left seen served in
        let r = (ph.each s m).goes_on g (omega (arith, l, long)) in (
          t.0 ++ r.0,
          appended (journal_in cur g) (journal_in seen g) (journal_in new g) t.0 r.0 t.1 r.1,
          all_append (Mine s left) t.0 r.0 t.2.of (all_weaker (λ (f : Entry). f.who.session ≢ s) (Mine s left) (λ f n same. absurd (n same)) r.0 r.2),
        )

    module _ (a : Answered) (left : List Answered) (cur mid : List Journal) (mine : a.session ≡ s) (mine_left : AllByRecursion (λ (b : Answered). b.session ≡ s) left)
        (above_left : AllByRecursion (λ (b : Answered). a.statement < b.statement) left) (rising : IsRising left) (at_here : IsHere a) (saw : Seen s (a ∷ left) cur)
        (d : Deed) (v : Visits (given a) (who_of a) d cur mid) (served : AreServed rules run e given mid left seen) where
      within : (g : ℕ) → g < length old → g < length cur
      within g l = let q = saw.count in omega (arith, l, q)

      abbrev x : (g : ℕ) → g < length old → List Entry
      x g l = (saw.grown g l).0

      abbrev more : (g : ℕ) → g < length old → List Entry
      more g l = (v.grown g (within g l)).0

      mid_within : (g : ℕ) → g < length old → g < length mid
      mid_within g l = let q = within g l in let r = v.count in omega (arith, q, r)

      abbrev behind : (g : ℕ) → g < length mid → (r : List Entry) × (journal_in new g ≡ with_list (journal_in mid g) ((journal_in mid g).entries ++ r)) × AllByRecursion (Mine s left) r
      behind g l = tail left mid mine_left rising served g l

      mid_is : (g : ℕ) (l : g < length old) → journal_in mid g ≡ with_list (journal_in old g) ((journal_in old g).entries ++ (x g l ++ more g l))
      mid_is g l = appended (journal_in old g) (journal_in cur g) (journal_in mid g) (x g l) (more g l) (saw.grown g l).1 (v.grown g (within g l)).1

      parts : (g : ℕ) (l : g < length old) → AllByRecursion New ((x g l ++ more g l) ++ (behind g (mid_within g l)).0)
      parts g l =
          let j = journal_in old g in
          let r = behind g (mid_within g l) in
          let is = appended j (journal_in mid g) (journal_in new g) (x g l ++ more g l) r.0 (mid_is g l) r.1 in
          let same = same_rest j.entries ((x g l ++ more g l) ++ r.0) (entries_of g l) (ap (λ (w : Journal). w.entries) (sym is ∙ (ph.entries g l).1)) in
          subst (AllByRecursion New) (sym same) (new_all g l)

      new_front : (g : ℕ) (l : g < length old) → AllByRecursion New (x g l ++ more g l)
      new_front g l = all_left New (x g l ++ more g l) (behind g (mid_within g l)).0 (parts g l)

      x_below : (g : ℕ) (l : g < length old) → AllByRecursion (IsBelow a) (x g l)
      x_below g l = all_both New (λ (f : Entry). f.who.session ≡ s → AllByRecursion (λ (b : Answered). f.who.statement < b.statement) (a ∷ left)) (IsBelow a)
          (λ f n k. (let q = n.0 in omega (arith, q), λ same. (k (same ∙ mine)).0)) (x g l) (all_left New (x g l) (more g l) (new_front g l)) (saw.grown g l).2

      more_besides : (g : ℕ) (l : g < length old) → AllByRecursion (IsBesides a) (more g l)
      more_besides g l = all_both New (Comes (who_of a)) (IsBesides a) (λ f n k. (n.0, k)) (more g l) (all_right New (x g l) (more g l) (new_front g l)) (comes rules run e given others a (more g l) (v.grown g (within g l)).3)

      -- of the journals beyond those as the phase began
      nothing_new : (g : ℕ) (l : g < length mid) → length old ≤ g → ((journal_in mid g).entries ≡ []) × ((behind g l).0 ≡ [])
      nothing_new g l b =
          let r = behind g l in
          let none : (journal_in mid g).entries ++ r.0 ≡ [] = ap (λ (w : Journal). w.entries) (sym r.1) ∙ no_entries g b in
          (no_front (journal_in mid g).entries r.0 none, no_back (journal_in mid g).entries r.0 none)

      mid_none : (g : ℕ) → length old ≤ g → (journal_in mid g).entries ≡ []
      mid_none g b = elim (cases_lt g (length mid)) [ inl l ↦ (nothing_new g l b).0 | inr n ↦ entries_beyond mid g n ]

      cur_none : (g : ℕ) → length old ≤ g → (journal_in cur g).entries ≡ []
      cur_none g b = elim (cases_lt g (length cur)) [
        | inl l ↦ no_front (journal_in cur g).entries (v.grown g l).0 (ap (λ (w : Journal). w.entries) (sym (v.grown g l).1) ∙ mid_none g b)
        | inr n ↦ entries_beyond cur g n
      ]

      fresh_so : (g : ℕ) → AllByRecursion (λ (f : Entry). made_by (who_of a) f ≡ false) (journal_in cur g).entries
      fresh_so g = elim (cases_lt g (length old)) [
        | inl l ↦ subst (λ (w : Journal). AllByRecursion (λ (f : Entry). made_by (who_of a) f ≡ false) w.entries) (sym (saw.grown g l).1)
            (all_weaker (IsBelow a) (λ (f : Entry). made_by (who_of a) f ≡ false) (λ f b. below_made a f b) ((journal_in old g).entries ++ x g l)
            (all_append (IsBelow a) (journal_in old g).entries (x g l) (all_weaker Old (IsBelow a) (λ f o. old_below a f at_here o) (journal_in old g).entries (old_all g)) (x_below g l)))
        | inr n ↦ subst (AllByRecursion (λ (f : Entry). made_by (who_of a) f ≡ false)) (sym (cur_none g n)) tt
      ]

      not_after_so : (g : ℕ) → AllByRecursion (λ (f : Entry). precedes order (who_of a) f.who ≡ false) (journal_in mid g).entries
      not_after_so g = elim (cases_lt g (length old)) [
        | inl l ↦ subst (λ (w : Journal). AllByRecursion (λ (f : Entry). precedes order (who_of a) f.who ≡ false) w.entries) (sym (mid_is g l))
            (all_append (λ (f : Entry). precedes order (who_of a) f.who ≡ false) (journal_in old g).entries (x g l ++ more g l)
            (all_weaker Old (λ (f : Entry). precedes order (who_of a) f.who ≡ false) (λ f o. below_not_after a f at_here (old_below a f at_here o)) (journal_in old g).entries (old_all g))
            (all_append (λ (f : Entry). precedes order (who_of a) f.who ≡ false) (x g l) (more g l)
            (all_weaker (IsBelow a) (λ (f : Entry). precedes order (who_of a) f.who ≡ false) (λ f b. below_not_after a f at_here b) (x g l) (x_below g l))
            (all_weaker (IsBesides a) (λ (f : Entry). precedes order (who_of a) f.who ≡ false) (λ f b. besides_not_after a f at_here b) (more g l) (more_besides g l))))
        | inr n ↦ subst (AllByRecursion (λ (f : Entry). precedes order (who_of a) f.who ≡ false)) (sym (mid_none g n)) tt
      ]

      not_before_so : (g : ℕ) → AllByRecursion (λ (f : Entry). precedes order f.who (who_of a) ≡ false) (drop (length (journal_in cur g).entries) (journal_in mid g).entries)
      not_before_so g = elim (cases_lt g (length old)) [
        | inl l ↦
            let k = within g l in
            let is : drop (length (journal_in cur g).entries) (journal_in mid g).entries ≡ more g l =
            ap (λ (w : Journal). drop (length (journal_in cur g).entries) w.entries) (v.grown g k).1 ∙ drop_all (journal_in cur g).entries (more g l) in
            subst (AllByRecursion (λ (f : Entry). precedes order f.who (who_of a) ≡ false)) (sym is)
            (all_weaker (IsBesides a) (λ (f : Entry). precedes order f.who (who_of a) ≡ false) (λ f b. besides_not_before a f at_here b) (more g l) (more_besides g l))
        | inr n ↦
            all_drop (λ (f : Entry). precedes order f.who (who_of a) ≡ false) 0 (length (journal_in cur g).entries) (journal_in mid g).entries (omega arith)
            (subst (AllByRecursion (λ (f : Entry). precedes order f.who (who_of a) ≡ false)) (sym (mid_none g n)) tt)
      ]

      began_so : (g : ℕ) → g < length old → journal_in old g ≡ begun order (who_of a) (journal_in mid g)
      began_so g l = sym (ap (begun order (who_of a)) (mid_is g l) ∙ begun_here a g (x g l ++ more g l) at_here (new_front g l))

      behind_above : (g : ℕ) (l : g < length mid) → AllByRecursion (IsAbove a) (behind g l).0
      behind_above g l = elim (cases_lt g (length old)) [
        | inl k ↦ all_both New (Mine s left) (IsAbove a) (λ f n o. (n.0, λ same. above a.statement left f.who above_left (o (same ∙ mine)))) (behind g l).0
            (new_behind g k l) (behind g l).2
        | inr n ↦ subst (AllByRecursion (IsAbove a)) (sym (nothing_new g l n).1) tt
      ]
        where
          new_behind : (g : ℕ) (k : g < length old) (l : g < length mid) → AllByRecursion New (behind g l).0
          new_behind g k l =
              let j = journal_in old g in
              let r = behind g l in
              let is = appended j (journal_in mid g) (journal_in new g) (x g k ++ more g k) r.0 (mid_is g k) r.1 in
              let same = same_rest j.entries ((x g k ++ more g k) ++ r.0) (entries_of g k) (ap (λ (w : Journal). w.entries) (sym is ∙ (ph.entries g k).1)) in
              all_right New (x g k ++ more g k) r.0 (subst (AllByRecursion New) (sym same) (new_all g k))

      goes_on_so : GoesOn order (who_of a) mid new
      goes_on_so = record {
        count = let q = served_count rules run e given others mid left seen served in let r = (ph.each s m).count in omega (arith, q, r);
        kept = λ g l. (
          (behind g l).0,
          (behind g l).1,
          all_weaker (IsAbove a) (λ (f : Entry). (made_by (who_of a) f ≡ false) × (precedes order f.who (who_of a) ≡ false)) (λ f b. (above_made a f b, above_not_before a f at_here b)) (behind g l).0 (behind_above g l),
        );
        fresh = λ g n. no_entries g (let q = saw.count in let r = v.count in omega (arith, n, q, r));
      }

      deed_there : HasDeed order (given a) new (who_of a) d
      deed_there = visit_is_deed order (given a) (who_of a) d cur mid new v fresh_so not_after_so not_before_so (let q = saw.count in let r = v.count in omega (arith, q, r)) began_so goes_on_so

      saw_more : Seen s left mid
      saw_more = record {
        count = let q = saw.count in let r = v.count in omega (arith, q, r);
        grown = λ g l. (
          x g l ++ more g l,
          mid_is g l,
          all_append Before (x g l) (more g l)
              (all_weaker (λ (f : Entry). f.who.session ≡ s → AllByRecursion (λ (b : Answered). f.who.statement < b.statement) (a ∷ left)) Before (λ f k same. (k same).1) (x g l) (saw.grown g l).2)
              (all_weaker (IsBesides a) Before (λ f b same.
              let n : f.who.statement ≡ a.statement = ap (λ (w : Who). w.statement) (own_session (who_of a) f b.1 (same ∙ sym mine)) in
              all_weaker (λ (b : Answered). a.statement < b.statement) (λ (b : Answered). f.who.statement < b.statement) (λ b k. omega (arith, n, k)) left above_left) (more g l) (more_besides g l)),
        );
      }
        where
          Before : Entry → Type 0
          Before f = f.who.session ≡ s → AllByRecursion (λ (b : Answered). f.who.statement < b.statement) left

    deeds : (left : List Answered) (cur : List Journal) → AllByRecursion (λ (a : Answered). a.session ≡ s) left → IsRising left → AllByRecursion IsHere left → Seen s left cur → AreServed rules run e given cur left seen → AllByRecursion HasDone left
    deeds [] cur mine rising hs saw served = tt
    deeds (a ∷ left) cur mine rising hs saw served = (
      (served.1.0, served.1.1, deed_there a left cur served.0 mine.0 mine.1 rising.0 rising.1 hs.0 saw served.1.0 served.1.2 served.2),
      deeds left served.0 mine.1 rising.1 hs.1 (saw_more a left cur served.0 mine.0 mine.1 rising.0 rising.1 hs.0 saw served.1.0 served.1.2 served.2) served.2,
    )

  here_all : AllByRecursion IsHere block
  here_all = all_by_get IsHere block (λ i a g. (
    new_in_all run joined block e c.environment c.log.numbered c.complete c.log.script ph.next ph.script (who_of a) (record { answered = a; place = i; there = g; is = refl }),
    let n : IsNext here e a = all_at (IsNext here e) block i a ph.next g in
        let p = n.0 in
        let q = n.1 in
        omega (arith, p, q),
  ))

  seen_first : (s : ℕ) → Seen s (of_session s block) old
  seen_first s = record { count = omega arith; grown = λ g l. ([], ap (with_list (journal_in old g)) (sym (append-nil (journal_in old g).entries)), tt) }

  all_have_done : AllByRecursion HasDone block
  all_have_done = by_sessions sessions HasDone block ph.known (λ s m.
      deeds s m (of_session s block) old (mine_all s) (rising_all s block ph.next ph.script) (all_filtered IsHere (λ (a : Answered). nat_eq a.session s) block here_all) (seen_first s) (ph.each s m).served)

  abbrev last : Contents
  last = (environment_from e block).catalog

  new_done : AllByRecursion (IsDone rules run whole last new) block
  new_done = all_both (IsNext here e) HasDone (IsDone rules run whole last new) (λ a n h.
      let is : environment_at run whole a.phase ≡ e =
      ap (environment_at run whole) n.0 ∙ environment_now run joined block e c.environment c.log.numbered c.complete c.log.script ph.next ph.script in
      record {
        phase = given a;
        deed = h.0;
        beside = refl;
        does = subst (λ (v : Environment). Does rules run v (given a) (who_of a) h.0 a.bound a.answer) (sym is) h.1;
        has = h.2;
        on = subst (λ (v : Environment). Continues v.catalog last) (sym is) ph.on;
      }) block ph.next all_have_done

  -- the journals go on for an answer so far
  goes_past : (a : Answered) → order a.statement < here → a.statement < here → GoesOn order (who_of a) old new
  goes_past a p q = record {
    count = ph.count;
    kept = λ g l. (
      entries_of g l,
      (ph.entries g l).1,
      all_weaker New (λ (f : Entry). (made_by (who_of a) f ≡ false) × (precedes order f.who (who_of a) ≡ false)) (λ f n. (
        apart (who_of a) f.who (λ same. let k : a.statement ≡ f.who.statement = ap (λ (w : Who). w.statement) same in let r = n.1 in omega (arith, k, q, r)),
        no_precedes order f.who (who_of a) (let r = n.0 in omega (arith, p, r)) (λ same. let r = n.1 in omega (arith, q, r)),
      )) (entries_of g l) (new_all g l),
    );
    fresh = no_entries;
  }

  old_done : AllByRecursion (IsDone rules run whole last new) answers
  old_done = all_by_get (IsDone rules run whole last new) answers (λ i a g.
      let d : IsDone rules run joined e.catalog old a = all_at (IsDone rules run joined e.catalog old) answers i a c.done g in
      let own : IsIn joined a = all_at (IsIn joined) answers i a c.log.own g in
      let o : IsOf joined (who_of a) = record { answered = a; place = own.place; there = own.there; is = refl } in
      let p = all_at (IsPast run joined block e c.environment c.log.numbered c.complete c.log.script ph.next ph.script) joined own.place a (past run joined block e c.environment c.log.numbered c.complete c.log.script ph.next ph.script) own.there in
      let is : environment_at run whole a.phase ≡ environment_at run joined a.phase = environment_then run joined block e c.environment c.log.numbered c.complete c.log.script ph.next ph.script a p in
      let in_all : order a.statement ≡ a.phase = old_in_all run joined block e c.environment c.log.numbered c.complete c.log.script ph.next ph.script (who_of a) o in
      record {
        phase = d.phase;
        deed = d.deed;
        beside = d.beside ∙ sym (beside_then run joined block e c.environment c.log.numbered c.complete c.log.script ph.next ph.script a p);
        does = subst (λ (v : Environment). Does rules run v d.phase (who_of a) d.deed a.bound a.answer) (sym is) d.does;
        has = deeds_stay order d.phase (who_of a) d.deed old new (goes_past a (let q = p.0 in omega (arith, q, in_all)) (let q = p.1 in q))
            (deed_alike (phase_in joined) order d.phase old (who_of a) d.deed (old_phase run joined block e c.environment c.log.numbered c.complete c.log.script ph.next ph.script (who_of a) o)
            (λ h. all_weaker Old (IsAlike (phase_in joined) order) (λ f k. k.2) (journal_in old h).entries (old_all h)) d.has);
        on = subst (λ (v : Environment). Continues v.catalog last) (sym is) (continues_on (environment_at run joined a.phase).catalog e.catalog last d.on ph.on);
      })

  done_all : AllByRecursion (IsDone rules run whole last new) (answers ++ block)
  done_all = all_append (IsDone rules run whole last new) answers block old_done new_done

pub phase_goes_on : PhaseGoesOn
phase_goes_on rules run before joined e answers block sessions old new c ph = (
  is_whole rules run before joined e answers block sessions old new c ph,
  done_all rules run before joined e answers block sessions old new c ph,
  λ complete. record {
    environment = sym (fold_more (first run) joined block ∙ ap (λ (v : Environment). environment_from v block) (sym c.environment));
    log = is_whole rules run before joined e answers block sessions old new c ph;
    complete = complete;
    done = done_all rules run before joined e answers block sessions old new c ph;
  },
)

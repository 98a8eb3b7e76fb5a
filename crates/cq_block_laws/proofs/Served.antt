-- What a session did, one statement after the other, in a block that is closed.
use Rattle.std.proofs.Common.{◌≡◌, ◌≢◌, ◌+◌, ◌<◌, inl, inr, ℕ, Bool, true, false, List, [], ◌∷◌, ◌++◌, filter, refl, sym, ◌∙◌, ap, subst, arith, eq-eqb, append_assoc}
use Rattle.std.specs.Prelude.{nat_eq, Option, Some}
use Rattle.std.specs.List.{AllByRecursion, list_any}
use Rattle.std.proofs.lemmas.Bool.{eqb-true}
use Rattle.std.proofs.lemmas.List.Elements.{filter-append}
use Rattle.cq_value.proofs.Lists.{all_weaker, all_both, all_append, filter_none, append_nil}
use Rattle.cq_value.proofs.Truths.{two_ways, or_right}
use Rattle.cq_tree.specs.declared.journal.Who.{Who}
use Rattle.cq_tree.specs.declared.statement.Statement.{Statement}
use Rattle.cq_tree.specs.declared.statement.Statement.TheVariants as statement
use Rattle.cq_catalog.specs.Contents.{Contents}
use Rattle.cq_answer.specs.declared.answered.Answered.{Answered}
use Rattle.cq_history.specs.Run.{Run, Rules}
use Rattle.cq_history.specs.Phases.{who_of}
use Rattle.cq_planning.specs.Touched.{among}
use Rattle.cq_cell.specs.Lists.{own, StartsWith}
use Rattle.cq_cell.proofs.Lists.{starts_all, start_nil}
use Rattle.cq_shared.specs.declared.errand.Errand.{Errand}
use Rattle.cq_shared.specs.Errands.{sent_by, tooks, gaves}
use Rattle.cq_block_laws.specs.Serving.{Opening, Known, statement_in, sent_for, Finds, KeepsWithin, Sends, IsAnsweredBeside, AreAnswered}
use Rattle.cq_block_laws.specs.Closing.{Session, numbers_of, answers_of, AreRising, HasSeen}
use Rattle.cq_block_laws.specs.Laws.{IsNoMove, QuietBeside, AnswersOn}
use Rattle.cq_block_laws.proofs.Rooms.{notes_for, HasOwner, not_for}

nothing_noted : (c : Contents) (at : ℕ) (a : Answered) (notes : List Errand) → Sends c at a notes notes
nothing_noted c at a notes = record {
  more = [];
  all = sym (append_nil notes);
  own = tt;
  within = record {
    took = λ some b. (let none : some ≡ [] = start_nil [] some refl b in let t : tooks some ≡ 0 = ap tooks none in omega (arith, t));
    gave = λ some b. (let none : some ≡ [] = start_nil [] some refl b in let t : gaves some ≡ 0 = ap gaves none in omega (arith, t));
  };
}

finds_none : (run : Run) (o : Opening) (errands : ℕ → List Errand) (who : Who) (bound : Option Statement) → IsNoMove bound → Finds run o errands who bound 0
finds_none run o errands who (Some (statement.Move shard from to)) none = absurd none
finds_none run o errands who bound none = tt

pub quiet_beside : QuietBeside
quiet_beside rules run o a old new errands none each = record {
  sends = λ at. nothing_noted o.environment.catalog at a (errands at);
  free = 0;
  finds = finds_none run o errands (who_of a) a.bound none;
  answered = λ p is may. each p is;
}

pub answers_on : AnswersOn
answers_on rules run o old mid new [] a h one = (new, subst (λ (v : Known). IsAnsweredBeside rules run o a v new) h one, refl)
answers_on rules run o old mid new (x ∷ answers) a h one = (h.0, h.1, answers_on rules run o h.0 mid new answers a h.2 one)

pub starts_twice : {N : Type 0} (l m k : List N) → StartsWith l m → StartsWith m k → StartsWith l k
starts_twice l m k s t = (t.0 ++ s.0, sym (append_assoc k t.0 s.0) ∙ ap (λ z. z ++ s.0) t.1 ∙ s.1)

any_left : {X : Type 0} (p : X → Bool) (xs ys : List X) → list_any p xs ≡ true → list_any p (xs ++ ys) ≡ true
any_left p [] ys any = absurd (cc any)
any_left p (x ∷ xs) ys any = elim (two_ways (p x)) [ inl y ↦ rw y refl | inr n ↦ rw n (any_left p xs ys (let h : list_any p xs ≡ true = rw n at any in h)) ]

any_right : {X : Type 0} (p : X → Bool) (xs ys : List X) → list_any p ys ≡ true → list_any p (xs ++ ys) ≡ true
any_right p [] ys any = any
any_right p (x ∷ xs) ys any = or_right (p x) (list_any p (xs ++ ys)) (any_right p xs ys any)

module _ (rules : Rules) (run : Run) (o : Opening) (at : ℕ) where
  -- notes are never lost
  pub still_there : (old : Known) (xs : List Answered) (new : Known) → AreAnswered rules run o old xs new → StartsWith (new.errands at) (old.errands at)
  still_there old [] new h = subst (λ (v : Known). StartsWith (v.errands at) (old.errands at)) (sym h) (starts_all (old.errands at))
  still_there old (a ∷ more) new h =
      let s = h.1.sends at in
      starts_twice (new.errands at) (h.0.errands at) (old.errands at) (still_there h.0 more new h.2) (s.more, sym s.all)

  -- of this session, and of another number
  abbrev IsOther : Who → Answered → Type 0
  IsOther who b = (b.session ≡ who.session) × (b.statement ≢ who.statement)

  -- other statements of its session leave a statement's notes
  others_leave : (who : Who) (old : Known) (xs : List Answered) (new : Known) → AllByRecursion (IsOther who) xs → AreAnswered rules run o old xs new → filter (sent_for who) (new.errands at) ≡ filter (sent_for who) (old.errands at)
  others_leave who old [] new far h = ap (λ (v : Known). filter (sent_for who) (v.errands at)) h
  others_leave who old (b ∷ more) new far h =
      let s = h.1.sends at in
      others_leave who h.0 more new far.1 h.2
      ∙ ap (filter (sent_for who)) s.all
      ∙ filter-append (sent_for who) (old.errands at) s.more
      ∙ ap (λ v. filter (sent_for who) (old.errands at) ++ v) (filter_none (sent_for who) s.more (all_weaker (λ n. sent_by n ≡ b.session → statement_in n ≡ b.statement) (λ n. sent_for who n ≡ false)
      (λ n own. not_for who n (λ is same. far.0.1 (sym (own (is ∙ sym far.0.0)) ∙ same))) s.more s.own))
      ∙ append_nil (filter (sent_for who) (old.errands at))

  -- each statement's notes keep within what its move takes and gives
  pub all_within : (s : ℕ) (old : Known) (xs : List Answered) (new : Known) → AllByRecursion (λ (b : Answered). b.session ≡ s) xs → AreRising xs → AllByRecursion (λ (b : Answered). notes_for b (old.errands at) ≡ []) xs → AreAnswered rules run o old xs new →
      AllByRecursion (λ (b : Answered). KeepsWithin o.environment.catalog (at + 1) b.bound (notes_for b (new.errands at))) xs
  all_within s old [] new mine rising none h = tt
  all_within s old (a ∷ more) new mine rising none h = (
    subst (KeepsWithin o.environment.catalog (at + 1) a.bound) (sym its) t.within,
    all_within s h.0 more new mine.1 rising.1 (all_both (λ (b : Answered). b.session ≡ s) (λ (b : Answered). (a.statement < b.statement) × (notes_for b (old.errands at) ≡ [])) (λ (b : Answered). notes_for b (h.0.errands at) ≡ [])
        (λ b is k. still_none b is k.0 k.1) more mine.1 (all_both (λ (b : Answered). a.statement < b.statement) (λ (b : Answered). notes_for b (old.errands at) ≡ []) (λ (b : Answered). (a.statement < b.statement) × (notes_for b (old.errands at) ≡ []))
        (λ b up k. (up, k)) more rising.0 none.1)) h.2,
  )
    where
      t : Sends o.environment.catalog at a (old.errands at) (h.0.errands at)
      t = h.1.sends at

      its : notes_for a (new.errands at) ≡ notes_for a t.more
      its =
          others_leave (who_of a) h.0 more new (all_both (λ (b : Answered). b.session ≡ s) (λ (b : Answered). a.statement < b.statement) (IsOther (who_of a)) (λ b is up. (is ∙ sym mine.0, λ same. omega (arith, same, up))) more mine.1 rising.0) h.2
          ∙ ap (notes_for a) t.all
          ∙ filter-append (sent_for (who_of a)) (old.errands at) t.more
          ∙ ap (λ v. v ++ notes_for a t.more) none.0

      still_none : (b : Answered) → b.session ≡ s → a.statement < b.statement → notes_for b (old.errands at) ≡ [] → notes_for b (h.0.errands at) ≡ []
      still_none b is up empty =
          ap (notes_for b) t.all
          ∙ filter-append (sent_for (who_of b)) (old.errands at) t.more
          ∙ ap (λ v. v ++ notes_for b t.more) empty
          ∙ filter_none (sent_for (who_of b)) t.more (all_weaker (λ n. sent_by n ≡ a.session → statement_in n ≡ a.statement) (λ n. sent_for (who_of b) n ≡ false)
          (λ n own. not_for (who_of b) n (λ same number. (let x : statement_in n ≡ a.statement = own (same ∙ is ∙ sym mine.0) in omega (arith, x, number, up)))) t.more t.own)

  -- each note of the session is of one of its statements
  abbrev IsOwned : ℕ → List Answered → Errand → Type 0
  IsOwned s xs n = sent_by n ≡ s → HasOwner xs n

  pub all_owned : (s : ℕ) (old : Known) (xs all : List Answered) (new : Known) → ((n : Errand) → HasOwner xs n → HasOwner all n) → AllByRecursion (λ (b : Answered). b.session ≡ s) xs → AllByRecursion (IsOwned s all) (old.errands at) → AreAnswered rules run o old xs new →
      AllByRecursion (IsOwned s all) (new.errands at)
  all_owned s old [] all new on mine first h = subst (λ (v : Known). AllByRecursion (IsOwned s all) (v.errands at)) (sym h) first
  all_owned s old (a ∷ more) all new on mine first h =
      let t = h.1.sends at in
      all_owned s h.0 more all new (λ n has. on n (or_right (sent_for (who_of a) n) (list_any (λ (b : Answered). sent_for (who_of b) n) more) has)) mine.1
      (subst (AllByRecursion (IsOwned s all)) (sym t.all) (all_append (IsOwned s all) (old.errands at) t.more first
      (all_weaker (λ n. sent_by n ≡ a.session → statement_in n ≡ a.statement) (IsOwned s all) (λ n own is. on n (here n is (own (is ∙ sym mine.0)))) t.more t.own))) h.2
    where
      here : (n : Errand) → sent_by n ≡ s → statement_in n ≡ a.statement → HasOwner (a ∷ more) n
      here n is number = rw (eq-eqb (sent_by n) a.session (is ∙ sym mine.0), eq-eqb (statement_in n) a.statement number) refl

-- ---- in all notes of a worker

-- what holds of a number's own notes
own_all : {N : Type 0} (who : N → ℕ) (P : N → Type 0) (s : ℕ) (xs : List N) → AllByRecursion (λ n. who n ≡ s → P n) xs → AllByRecursion P (own who s xs)
own_all who P s [] all = tt
own_all who P s (x ∷ xs) all = elim (two_ways (nat_eq (who x) s)) [
  | inl y ↦ rw y (all.0 (eqb-true (who x) s y), own_all who P s xs all.1)
  | inr n ↦ rw n (own_all who P s xs all.1)
]

all_from_own : {N : Type 0} (who : N → ℕ) (P : N → Type 0) (s : ℕ) (xs : List N) → AllByRecursion P (own who s xs) → AllByRecursion (λ n. who n ≡ s → P n) xs
all_from_own who P s [] all = tt
all_from_own who P s (x ∷ xs) all = elim (two_ways (nat_eq (who x) s)) [
  | inl y ↦ (let h : P x × AllByRecursion P (own who s xs) = rw y at all in ((λ is. h.0), all_from_own who P s xs h.1))
  | inr n ↦ (
      let h : AllByRecursion P (own who s xs) = rw n at all in
      ((λ is. (let yes : nat_eq (who x) s ≡ true = eq-eqb (who x) s is in absurd (let bad : true ≡ false = sym yes ∙ n in cc bad))), all_from_own who P s xs h))
]

pub owned_in_all : (s : ℕ) (xs : List Answered) (all seen : List Errand) → HasSeen sent_by s all seen → AllByRecursion (λ n. sent_by n ≡ s → HasOwner xs n) seen → AllByRecursion (λ n. sent_by n ≡ s → HasOwner xs n) all
owned_in_all s xs all seen has own_seen = all_from_own sent_by (HasOwner xs) s all (subst (AllByRecursion (HasOwner xs)) has.own (own_all sent_by (HasOwner xs) s seen own_seen))

filter_yes : {X : Type 0} (p : X → Bool) (x : X) (xs : List X) → p x ≡ true → filter p (x ∷ xs) ≡ x ∷ filter p xs
filter_yes p x xs y = rw y refl

filter_no : {X : Type 0} (p : X → Bool) (x : X) (xs : List X) → p x ≡ false → filter p (x ∷ xs) ≡ filter p xs
filter_no p x xs n = rw n refl

own_yes : (s : ℕ) (x : Errand) (xs : List Errand) → nat_eq (sent_by x) s ≡ true → own sent_by s (x ∷ xs) ≡ x ∷ own sent_by s xs
own_yes s x xs y = rw y refl

own_no : (s : ℕ) (x : Errand) (xs : List Errand) → nat_eq (sent_by x) s ≡ false → own sent_by s (x ∷ xs) ≡ own sent_by s xs
own_no s x xs n = rw n refl

-- a statement's notes are among its session's
pub by_own : (who : Who) (xs : List Errand) → filter (sent_for who) (own sent_by who.session xs) ≡ filter (sent_for who) xs
by_own who [] = refl
by_own who (x ∷ xs) =
    let rest = own sent_by who.session xs in
    elim (two_ways (nat_eq (sent_by x) who.session)) [
      | inl y ↦ elim (two_ways (nat_eq (statement_in x) who.statement)) [
        | inl z ↦
            let its : sent_for who x ≡ true = rw (y, z) refl in
            ap (filter (sent_for who)) (own_yes who.session x xs y) ∙ filter_yes (sent_for who) x rest its ∙ ap (λ v. x ∷ v) (by_own who xs) ∙ sym (filter_yes (sent_for who) x xs its)
        | inr m ↦
            let its : sent_for who x ≡ false = rw (y, m) refl in
            ap (filter (sent_for who)) (own_yes who.session x xs y) ∙ filter_no (sent_for who) x rest its ∙ by_own who xs ∙ sym (filter_no (sent_for who) x xs its)
      ]
      | inr n ↦
          let its : sent_for who x ≡ false = rw n refl in
          ap (filter (sent_for who)) (own_no who.session x xs n) ∙ by_own who xs ∙ sym (filter_no (sent_for who) x xs its)
    ]

pub same_notes : (b : Answered) (all seen : List Errand) → HasSeen sent_by b.session all seen → notes_for b seen ≡ notes_for b all
same_notes b all seen has = sym (by_own (who_of b) seen) ∙ ap (filter (sent_for (who_of b))) has.own ∙ by_own (who_of b) all

-- ---- all sessions together

pub each_owned : (sessions : List Session) (all : List Errand) → AllByRecursion (λ (s : Session). AllByRecursion (λ n. sent_by n ≡ s.number → HasOwner s.answers n) all) sessions → AllByRecursion (λ n. among (sent_by n) (numbers_of sessions) ≡ true) all →
    AllByRecursion (HasOwner (answers_of sessions)) all
each_owned sessions all owned known = all_both (λ n. among (sent_by n) (numbers_of sessions) ≡ true) (λ n. among (sent_by n) (numbers_of sessions) ≡ true → HasOwner (answers_of sessions) n) (HasOwner (answers_of sessions)) (λ n k f. f k) all known (joined sessions owned)
  where
    none : (ns : List Errand) → AllByRecursion (λ n. among (sent_by n) (numbers_of []) ≡ true → HasOwner (answers_of []) n) ns
    none [] = tt
    none (n ∷ ns) = ((λ k. absurd (cc k)), none ns)

    one : (s : Session) (more : List Session) (n : Errand) → (sent_by n ≡ s.number → HasOwner s.answers n) → (among (sent_by n) (numbers_of more) ≡ true → HasOwner (answers_of more) n) →
        among (sent_by n) (numbers_of (s ∷ more)) ≡ true → HasOwner (answers_of (s ∷ more)) n
    one s more n own rest k = elim (two_ways (nat_eq (sent_by n) s.number)) [
      | inl y ↦ any_left (λ (b : Answered). sent_for (who_of b) n) s.answers (answers_of more) (own (eqb-true (sent_by n) s.number y))
      | inr f ↦ any_right (λ (b : Answered). sent_for (who_of b) n) s.answers (answers_of more) (rest (let h : among (sent_by n) (numbers_of more) ≡ true = rw f at k in h))
    ]

    joined : (ss : List Session) → AllByRecursion (λ (s : Session). AllByRecursion (λ n. sent_by n ≡ s.number → HasOwner s.answers n) all) ss →
        AllByRecursion (λ n. among (sent_by n) (numbers_of ss) ≡ true → HasOwner (answers_of ss) n) all
    joined [] owned = none all
    joined (s ∷ more) owned =
        all_both (λ n. sent_by n ≡ s.number → HasOwner s.answers n) (λ n. among (sent_by n) (numbers_of more) ≡ true → HasOwner (answers_of more) n) (λ n. among (sent_by n) (numbers_of (s ∷ more)) ≡ true → HasOwner (answers_of (s ∷ more)) n)
        (λ n own rest. one s more n own rest) all owned.0 (joined more owned.1)

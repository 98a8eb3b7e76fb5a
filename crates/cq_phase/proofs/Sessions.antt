-- The sessions of a block that ran side by side, by their statements.
use Rattle.std.proofs.Common.{◌≡◌, ◌≢◌, inl, inr, ℕ, zero, suc, ◌+◌, ◌-◌, ◌<◌, ◌≤◌, List, [], ◌∷◌, ◌++◌, length, refl, sym, ap, subst, ◌∙◌, arith}
use Rattle.std.specs.Prelude.{⊤, nat_eq}
use Rattle.std.specs.List.{AllByRecursion, AllZip}
use Rattle.cq_value.proofs.Lists.{all_append, all_both, append_nil}
use Rattle.cq_answer.specs.declared.answered.Answered.{Answered}
use Rattle.cq_answer.specs.declared.answered.Settings.{Settings}
use Rattle.cq_catalog.specs.declared.info.TableInfo.{TableInfo}
use Rattle.cq_planning.specs.Touched.{numbers}
use Rattle.cq_history.specs.Phases.{MayBeInBlock, AreInScriptOrder, StandsBefore}
use Rattle.cq_block_laws.specs.Closing.{Session, answers_of, AreRising, AreApart, IsOfSession, AreSessions}
use Rattle.cq_script.specs.declared.reader.Placed.{Placed}
use Rattle.cq_script.specs.Directives.{IsSession, IsBlockAt}
use Rattle.cq_phase.specs.Phases.{of_session, by_session, sessions, IsAnswerTo}
use Rattle.cq_phase.proofs.Orders.{AreRising as ArePlacedRising, IsNumberOf, all_numbered, are_rising, rising_filtered, are_of_session, none_outside, of_sessions, of_sessions_both, all_of_sessions}
use Rattle.cq_phase.proofs.Blocks.{answers_all}

-- the sessions are 0, those up to a number, and the others
sessions_parted : (k : ℕ) → k ≤ 8 → sessions ≡ 0 ∷ numbers 1 k ++ numbers (k + 1) (8 - k)
sessions_parted zero h = refl
sessions_parted (suc zero) h = refl
sessions_parted (suc (suc zero)) h = refl
sessions_parted (suc (suc (suc zero))) h = refl
sessions_parted (suc (suc (suc (suc zero)))) h = refl
sessions_parted (suc (suc (suc (suc (suc zero))))) h = refl
sessions_parted (suc (suc (suc (suc (suc (suc zero)))))) h = refl
sessions_parted (suc (suc (suc (suc (suc (suc (suc zero))))))) h = refl
sessions_parted (suc (suc (suc (suc (suc (suc (suc (suc zero)))))))) h = refl
sessions_parted (suc (suc (suc (suc (suc (suc (suc (suc (suc k))))))))) h = absurd (omega (arith, h))

none_from : (n k : ℕ) (ps : List Placed) → ((s : ℕ) → n ≤ s → of_session s ps ≡ []) → of_sessions (numbers n k) ps ≡ []
none_from n zero ps none = refl
none_from n (suc k) ps none = ap (λ v. v ++ of_sessions (numbers (n + 1) k) ps) (none n (omega arith)) ∙ none_from (n + 1) k ps (λ s le. none s (omega (arith, le)))

-- the statements of a block whose sessions are those from 1 to a number
pub block_of : (k : ℕ) (ps : List Placed) → k ≤ 8 → AllByRecursion (λ (p : Placed). IsSession p.session) ps → ((s : ℕ) → k < s → of_session s ps ≡ []) → by_session ps ≡ of_sessions (numbers 1 k) ps
block_of k ps few inside others =
    ap (λ xs. of_sessions xs ps) (sessions_parted k few) ∙ ap (λ v. v ++ of_sessions (numbers 1 k ++ numbers (k + 1) (8 - k)) ps) (none_outside ps inside)
    ∙ of_sessions_both (numbers 1 k) (numbers (k + 1) (8 - k)) ps ∙ ap (λ v. of_sessions (numbers 1 k) ps ++ v) (none_from (k + 1) (8 - k) ps (λ s le. others s (omega (arith, le))))
    ∙ append_nil (of_sessions (numbers 1 k) ps)

stand_apart : (first : ℕ) (a b : Answered) → a.phase ≡ first → b.phase ≡ first → StandsBefore a b → a.statement ≢ b.statement
stand_apart first a b pa pb (inl h) same = (let lt = h.0 in absurd (omega (arith, lt, pa, pb)))
stand_apart first a b pa pb (inr i) same = elim i.order [ inl apart ↦ absurd (apart.1 same) | inr within ↦ (let lt = within.1 in absurd (omega (arith, lt, same))) ]

-- no statement of a script stands twice
pub apart_in_order : (first : ℕ) (done : List Answered) → AllByRecursion (λ (a : Answered). a.phase ≡ first) done → AreInScriptOrder done → AreApart done
apart_in_order first [] phases order = tt
apart_in_order first (a ∷ done) phases order = (
  all_both (λ (b : Answered). b.phase ≡ first) (StandsBefore a) (λ (b : Answered). a.statement ≢ b.statement) (λ b is stands. stand_apart first a b phases.0 is stands) done phases.1 order.0,
  apart_in_order first done phases.1 order.1,
)

zips_both : {A B : Type 0} (R : A → B → Type 0) (xs us : List A) (ys vs : List B) → AllZip R xs ys → AllZip R us vs → AllZip R (xs ++ us) (ys ++ vs)
zips_both R [] us [] vs p q = q
zips_both R [] us (y ∷ ys) vs p q = absurd p
zips_both R (x ∷ xs) us [] vs p q = absurd p
zips_both R (x ∷ xs) us (y ∷ ys) vs p q = (p.0, zips_both R xs us ys vs p.1 q)

module _ (tables : List TableInfo) (given : Settings) (ps : List Placed) where
  -- the session of this number answered its statements
  pub record HasAnswered (n : ℕ) (s : Session) : Type 0 where
    pub number : s.number ≡ n
    pub answers : AllZip (IsAnswerTo tables) (of_session n ps) s.answers
    pub settings : AllByRecursion (λ (a : Answered). a.settings ≡ given) s.answers
    pub allowed : AllByRecursion (λ (a : Answered). MayBeInBlock a.bound) s.answers

  -- so did those from this number on
  abbrev pub HaveAnswered : ℕ → List Session → Type 0
  HaveAnswered n [] = ⊤
  HaveAnswered n (s ∷ more) = HasAnswered n s × HaveAnswered (n + 1) more

  pub zip_from : (n : ℕ) (done : List Session) → HaveAnswered n done → AllZip (IsAnswerTo tables) (of_sessions (numbers n (length done)) ps) (answers_of done)
  zip_from n [] h = tt
  zip_from n (s ∷ done) h = zips_both (IsAnswerTo tables) (of_session n ps) (of_sessions (numbers (n + 1) (length done)) ps) s.answers (answers_of done) h.0.answers (zip_from (n + 1) done h.1)

  pub all_from : (P : Answered → Type 0) → ((n : ℕ) (s : Session) → HasAnswered n s → AllByRecursion P s.answers) → (n : ℕ) (done : List Session) → HaveAnswered n done → AllByRecursion P (answers_of done)
  all_from P so n [] h = tt
  all_from P so n (s ∷ done) h = all_append P s.answers (answers_of done) (so n s h.0) (all_from P so (n + 1) done h.1)

  rising_with : (qs : List Placed) (done : List Answered) → AllZip (IsAnswerTo tables) qs done → ArePlacedRising qs → AreRising done
  rising_with [] [] zip h = tt
  rising_with (p ∷ qs) (a ∷ done) zip h = (
    answers_all tables (λ (q : Placed). p.number < q.number) (λ (b : Answered). a.statement < b.statement)
        (λ q b its lt. (let pa = zip.0.statement in let qb = its.statement in omega (arith, lt, pa, qb))) qs done zip.1 h.0,
    rising_with qs done zip.1 h.1,
  )
  rising_with [] (a ∷ done) zip h = absurd zip
  rising_with (p ∷ qs) [] zip h = absurd zip

  record IsIts (first count n : ℕ) (p : Placed) : Type 0 where
    is : IsNumberOf first first count p
    session : p.session ≡ n

  of_one : (first count n : ℕ) (done : List Answered) → AllZip (IsAnswerTo tables) (of_session n ps) done → AllByRecursion (IsNumberOf first first count) (of_session n ps) →
      AllByRecursion (λ (a : Answered). a.settings ≡ given) done → AllByRecursion (λ (a : Answered). MayBeInBlock a.bound) done → AllByRecursion (IsOfSession first count given n) done
  of_one first count n done zip numbered settings allowed =
      let its = all_both (IsNumberOf first first count) (λ (p : Placed). p.session ≡ n) (IsIts first count n) (λ p i s. record { is = i; session = s }) (of_session n ps) numbered (are_of_session n ps) in
      let placed : AllByRecursion (λ (a : Answered). (a.session ≡ n) × (a.phase ≡ first) × (first ≤ a.statement) × (a.statement < first + count)) done =
      answers_all tables (IsIts first count n) (λ (a : Answered). (a.session ≡ n) × (a.phase ≡ first) × (first ≤ a.statement) × (a.statement < first + count))
      (λ p a pa i. (pa.session ∙ i.session, pa.phase ∙ i.is.phase, (let low = i.is.low in let is = pa.statement in omega (arith, low, is)), (let high = i.is.high in let is = pa.statement in omega (arith, high, is))))
      (of_session n ps) done zip its in
      all_both (λ (a : Answered). (a.session ≡ n) × (a.phase ≡ first) × (first ≤ a.statement) × (a.statement < first + count)) (λ (a : Answered). (a.settings ≡ given) × MayBeInBlock a.bound) (IsOfSession first count given n)
      (λ a h k. record { session = h.0; phase = h.1; low = h.2; high = h.3; settings = k.0; allowed = k.1 }) done placed
      (all_both (λ (a : Answered). a.settings ≡ given) (λ (a : Answered). MayBeInBlock a.bound) (λ (a : Answered). (a.settings ≡ given) × MayBeInBlock a.bound) (λ a h k. (h, k)) done settings allowed)

  -- they are the sessions of a block
  pub are_sessions : (read : ℕ) → IsBlockAt read ps → (n : ℕ) (done : List Session) → HaveAnswered n done → AreSessions (read + 1) (length ps) given n done
  are_sessions read block n [] h = tt
  are_sessions read block n (s ∷ done) h =
      let first = read + 1 in
      let numbered = all_of_sessions (IsNumberOf first first (length ps)) (n ∷ []) ps (all_numbered first first ps block.numbered) in
      let own = subst (AllByRecursion (IsNumberOf first first (length ps))) (append_nil (of_session n ps)) numbered in
      let rising = rising_filtered (λ (p : Placed). nat_eq p.session n) ps (are_rising first first ps block.numbered) in (
        (let is = h.0.number in omega (arith, is)),
        subst (λ m. AllByRecursion (IsOfSession first (length ps) given m) s.answers) (sym h.0.number) (of_one first (length ps) n s.answers h.0.answers own h.0.settings h.0.allowed),
        rising_with (of_session n ps) s.answers h.0.answers rising,
        subst (λ m. AreSessions first (length ps) given (m + 1) done) (sym h.0.number) (are_sessions read block (n + 1) done h.1),
      )

-- The statements of a block, session after session: each of them once, and in the order of a script.
use Rattle.std.proofs.Common.{◌≡◌, ◌≢◌, ◌⊎◌, inl, inr, ℕ, zero, suc, ◌+◌, ◌<◌, ◌≤◌, Bool, cond, List, [], ◌∷◌, ◌++◌, length, refl, sym, ap, ◌∙◌, arith, length-append, append_assoc, ne_eqb}
use Rattle.std.specs.Prelude.{⊤, filter, nat_eq}
use Rattle.std.specs.List.{AllByRecursion, flat_map}
use Rattle.cq_value.proofs.Lists.{all_weaker, all_both, all_append, all_filtered}
use Rattle.cq_value.proofs.Truths.{two_ways, same_number, nat_eq_itself}
use Rattle.cq_script.specs.declared.reader.Placed.{Placed}
use Rattle.cq_script.specs.Directives.{IsSession, AreNumbered}
use Rattle.cq_phase.specs.Phases.{of_session, sessions, by_session}

-- ---- lists of sessions

abbrev pub of_sessions : List ℕ → List Placed → List Placed
of_sessions xs ps = flat_map (λ s. of_session s ps) xs

pub of_sessions_both : (xs ys : List ℕ) (ps : List Placed) → of_sessions (xs ++ ys) ps ≡ of_sessions xs ps ++ of_sessions ys ps
of_sessions_both [] ys ps = refl
of_sessions_both (s ∷ xs) ys ps = ap (λ v. of_session s ps ++ v) (of_sessions_both xs ys ps) ∙ sym (append_assoc (of_session s ps) (of_sessions xs ps) (of_sessions ys ps))

-- ---- all statements

abbrev mark : Bool → ℕ
mark b = cond b 1 0

-- how often a number stands in a list
abbrev times : ℕ → List ℕ → ℕ
times k [] = 0
times k (x ∷ xs) = mark (nat_eq k x) + times k xs

once : (s : ℕ) → IsSession s → times s sessions ≡ 1
once zero h = absurd (omega (arith, h.0))
once (suc zero) h = refl
once (suc (suc zero)) h = refl
once (suc (suc (suc zero))) h = refl
once (suc (suc (suc (suc zero)))) h = refl
once (suc (suc (suc (suc (suc zero))))) h = refl
once (suc (suc (suc (suc (suc (suc zero)))))) h = refl
once (suc (suc (suc (suc (suc (suc (suc zero))))))) h = refl
once (suc (suc (suc (suc (suc (suc (suc (suc zero)))))))) h = refl
once (suc (suc (suc (suc (suc (suc (suc (suc (suc s))))))))) h = absurd (omega (arith, h.1))

first_counts : (xs : List ℕ) (p : Placed) (ps : List Placed) → length (of_sessions xs (p ∷ ps)) ≡ times p.session xs + length (of_sessions xs ps)
first_counts [] p ps = refl
first_counts (s ∷ xs) p ps =
    let more = first_counts xs p ps in
    let all = length-append (of_session s (p ∷ ps)) (of_sessions xs (p ∷ ps)) in
    let others = length-append (of_session s ps) (of_sessions xs ps) in
    elim (two_ways (nat_eq p.session s)) [
      | inl y ↦
          (let own : length (of_session s (p ∷ ps)) ≡ 1 + length (of_session s ps) = rw y (omega arith) in
          let here : mark (nat_eq p.session s) ≡ 1 = rw y refl in
          omega (arith, more, all, others, own, here))
      | inr n ↦
          (let own : length (of_session s (p ∷ ps)) ≡ length (of_session s ps) = rw n refl in
          let here : mark (nat_eq p.session s) ≡ 0 = rw n refl in
          omega (arith, more, all, others, own, here))
    ]

pub all_counted : (ps : List Placed) → AllByRecursion (λ (p : Placed). IsSession p.session) ps → length (by_session ps) ≡ length ps
all_counted [] all = refl
all_counted (p ∷ ps) all = (let first = first_counts sessions p ps in let one = once p.session all.0 in let more = all_counted ps all.1 in omega (arith, first, one, more))

-- what is true of all statements is true of those of sessions
pub all_of_sessions : (P : Placed → Type 0) (xs : List ℕ) (ps : List Placed) → AllByRecursion P ps → AllByRecursion P (of_sessions xs ps)
all_of_sessions P [] ps all = tt
all_of_sessions P (s ∷ xs) ps all = all_append P (of_session s ps) (of_sessions xs ps) (all_filtered P (λ (p : Placed). nat_eq p.session s) ps all) (all_of_sessions P xs ps all)

-- no statement of a block is outside blocks
pub none_outside : (ps : List Placed) → AllByRecursion (λ (p : Placed). IsSession p.session) ps → of_session 0 ps ≡ []
none_outside [] all = refl
none_outside (p ∷ ps) all = (let isnt : p.session ≢ 0 = λ is. omega (arith, is, all.0.0) in rw (ne_eqb p.session 0 isnt) (none_outside ps all.1))

-- ---- their numbers

-- a statement of a phase of so many
pub record IsNumberOf (named first count : ℕ) (p : Placed) : Type 0 where
  pub phase : p.phase ≡ named
  pub low : first ≤ p.number
  pub high : p.number < first + count

pub all_numbered : (phase n : ℕ) (ps : List Placed) → AreNumbered phase n ps → AllByRecursion (IsNumberOf phase n (length ps)) ps
all_numbered phase n [] h = tt
all_numbered phase n (p ∷ ps) h = (
  record { phase = h.1; low = (let is = h.0 in omega (arith, is)); high = (let is = h.0 in omega (arith, is)) },
  all_weaker (IsNumberOf phase (n + 1) (length ps)) (IsNumberOf phase n (length (p ∷ ps)))
      (λ q i. record { phase = i.phase; low = (let low = i.low in omega (arith, low)); high = (let high = i.high in omega (arith, high)) }) ps (all_numbered phase (n + 1) ps h.2),
)

-- each number is above those before it
abbrev pub AreRising : List Placed → Type 0
AreRising [] = ⊤
AreRising (p ∷ ps) = AllByRecursion (λ (q : Placed). p.number < q.number) ps × AreRising ps

pub are_rising : (phase n : ℕ) (ps : List Placed) → AreNumbered phase n ps → AreRising ps
are_rising phase n [] h = tt
are_rising phase n (p ∷ ps) h = (
  all_weaker (IsNumberOf phase (n + 1) (length ps)) (λ (q : Placed). p.number < q.number) (λ q i. (let is = h.0 in let low = i.low in omega (arith, is, low))) ps (all_numbered phase (n + 1) ps h.2),
  are_rising phase (n + 1) ps h.2,
)

pub rising_filtered : (f : Placed → _) (ps : List Placed) → AreRising ps → AreRising (filter f ps)
rising_filtered f [] h = tt
rising_filtered f (p ∷ ps) h = elim (two_ways (f p)) [
  | inl y ↦ rw y (all_filtered (λ (q : Placed). p.number < q.number) f ps h.0, rising_filtered f ps h.1)
  | inr n ↦ rw n (rising_filtered f ps h.1)
]

-- the session of the statement of a number
abbrev session_for : List Placed → ℕ → ℕ
session_for [] n = 0
session_for (p ∷ ps) n = cond (nat_eq p.number n) p.session (session_for ps n)

-- one number has one session
one_session : (ps : List Placed) → AreRising ps → AllByRecursion (λ (p : Placed). session_for ps p.number ≡ p.session) ps
one_session [] h = tt
one_session (p ∷ ps) h = (
  rw (nat_eq_itself p.number) refl,
  all_both (λ (q : Placed). p.number < q.number) (λ (q : Placed). session_for ps q.number ≡ q.session) (λ (q : Placed). session_for (p ∷ ps) q.number ≡ q.session)
      (λ q above is. (let isnt : p.number ≢ q.number = λ e. omega (arith, above, e) in rw (ne_eqb p.number q.number isnt) is)) ps h.0 (one_session ps h.1),
)

-- ---- the order of a script

-- by session, and in it by number; no number stands twice
abbrev pub GoesBefore : Placed → Placed → Type 0
GoesBefore p q = ((p.session < q.session) × (p.number ≢ q.number)) ⊎ ((p.session ≡ q.session) × (p.number < q.number))

abbrev pub AreOrdered : List Placed → Type 0
AreOrdered [] = ⊤
AreOrdered (p ∷ ps) = AllByRecursion (GoesBefore p) ps × AreOrdered ps

ordered_both : (ps qs : List Placed) → AreOrdered ps → AreOrdered qs → AllByRecursion (λ p. AllByRecursion (GoesBefore p) qs) ps → AreOrdered (ps ++ qs)
ordered_both [] qs h k apart = k
ordered_both (p ∷ ps) qs h k apart = (all_append (GoesBefore p) ps qs h.0 apart.0, ordered_both ps qs h.1 k apart.1)

pub are_of_session : (s : ℕ) (ps : List Placed) → AllByRecursion (λ (p : Placed). p.session ≡ s) (of_session s ps)
are_of_session s [] = tt
are_of_session s (p ∷ ps) = elim (two_ways (nat_eq p.session s)) [ inl y ↦ rw y (same_number p.session s y, are_of_session s ps) | inr n ↦ rw n (are_of_session s ps) ]

within_session : (s : ℕ) (ps : List Placed) → AreRising ps → AllByRecursion (λ (p : Placed). p.session ≡ s) ps → AreOrdered ps
within_session s [] h all = tt
within_session s (p ∷ ps) h all = (
  all_both (λ (q : Placed). p.number < q.number) (λ (q : Placed). q.session ≡ s) (GoesBefore p) (λ q above is. inr (all.0 ∙ sym is, above)) ps h.0 all.1,
  within_session s ps h.1 all.1,
)

-- numbers that rise, each at least so much
abbrev AreFrom : ℕ → List ℕ → Type 0
AreFrom low [] = ⊤
AreFrom low (s ∷ xs) = (low ≤ s) × AreFrom (s + 1) xs

are_above : (low : ℕ) (xs : List ℕ) (ps : List Placed) → AreFrom low xs → AllByRecursion (λ (p : Placed). low ≤ p.session) (of_sessions xs ps)
are_above low [] ps h = tt
are_above low (s ∷ xs) ps h =
    all_append (λ (p : Placed). low ≤ p.session) (of_session s ps) (of_sessions xs ps)
    (all_weaker (λ (p : Placed). p.session ≡ s) (λ (p : Placed). low ≤ p.session) (λ p is. (let le = h.0 in omega (arith, is, le))) (of_session s ps) (are_of_session s ps))
    (all_weaker (λ (p : Placed). s + 1 ≤ p.session) (λ (p : Placed). low ≤ p.session) (λ p above. (let le = h.0 in omega (arith, above, le))) (of_sessions xs ps) (are_above (s + 1) xs ps h.1))

-- of one session, and of those behind it: no number is of two sessions
before_all : (σ : ℕ → ℕ) (s : ℕ) (p : Placed) (qs : List Placed) → p.session ≡ s → σ p.number ≡ p.session → AllByRecursion (λ (q : Placed). s + 1 ≤ q.session) qs → AllByRecursion (λ (q : Placed). σ q.number ≡ q.session) qs →
    AllByRecursion (GoesBefore p) qs
before_all σ s p qs is own above owns =
    all_both (λ (q : Placed). s + 1 ≤ q.session) (λ (q : Placed). σ q.number ≡ q.session) (GoesBefore p)
    (λ q high its. inl (omega (arith, is, high), λ same. (let two : p.session ≡ q.session = sym own ∙ ap σ same ∙ its in omega (arith, is, high, two)))) qs above owns

ordered_from : (σ : ℕ → ℕ) (low : ℕ) (xs : List ℕ) (ps : List Placed) → AreFrom low xs → AreRising ps → AllByRecursion (λ (p : Placed). σ p.number ≡ p.session) ps → AreOrdered (of_sessions xs ps)
ordered_from σ low [] ps h rising own = tt
ordered_from σ low (s ∷ xs) ps h rising own =
    let is_of = λ (p : Placed). nat_eq p.session s in
    let behind = of_sessions xs ps in
    ordered_both (of_session s ps) behind (within_session s (of_session s ps) (rising_filtered is_of ps rising) (are_of_session s ps)) (ordered_from σ (s + 1) xs ps h.1 rising own)
    (all_both (λ (p : Placed). p.session ≡ s) (λ (p : Placed). σ p.number ≡ p.session) (λ p. AllByRecursion (GoesBefore p) behind)
    (λ p is its. before_all σ s p behind is its (are_above (s + 1) xs ps h.1) (all_of_sessions (λ (q : Placed). σ q.number ≡ q.session) xs ps own))
    (of_session s ps) (are_of_session s ps) (all_filtered (λ (p : Placed). σ p.number ≡ p.session) is_of ps own))

sessions_rise : AreFrom 0 sessions
sessions_rise = (omega arith, (omega arith, (omega arith, (omega arith, (omega arith, (omega arith, (omega arith, (omega arith, (omega arith, tt)))))))))

pub are_ordered : (phase n : ℕ) (ps : List Placed) → AreNumbered phase n ps → AreOrdered (by_session ps)
are_ordered phase n ps h = (let rising = are_rising phase n ps h in ordered_from (session_for ps) 0 sessions ps sessions_rise rising (one_session ps rising))

-- a statement outside blocks is answered alone
pub only_outside : (p : Placed) → p.session ≡ 0 → by_session (p ∷ []) ≡ p ∷ []
only_outside p none = rw none refl

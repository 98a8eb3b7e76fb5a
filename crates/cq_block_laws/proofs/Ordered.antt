-- The answers of a block in their order: those of one session, and all in the order of a script.
use Rattle.std.proofs.Common.{◌≡◌, ◌≢◌, ◌+◌, ◌<◌, ◌≤◌, inl, inr, ℕ, Bool, true, false, List, [], ◌∷◌, ◌++◌, refl, sym, ◌∙◌, ap, arith, eq-eqb, ne_eqb}
use Rattle.std.specs.Prelude.{nat_eq, ◌||◌, Option, Some, None}
use Rattle.std.specs.List.{AllByRecursion}
use Rattle.std.proofs.lemmas.List.Elements.{filter-append}
use Rattle.cq_value.proofs.Lists.{all_weaker, all_both, all_append, all_right, filter_none, append_nil}
use Rattle.cq_answer.specs.declared.answer.Answer.{Answer}
use Rattle.cq_answer.specs.declared.answer.Answer.TheVariants as answer
use Rattle.cq_answer.specs.declared.answered.Answered.{Answered}
use Rattle.cq_answer.specs.declared.answered.Settings.{Settings}
use Rattle.cq_answer.specs.declared.fault.Fault.{Fault}
use Rattle.cq_answer.specs.declared.fault.Fault.TheVariants as fault
use Rattle.cq_tree.specs.declared.statement.Statement.{Statement}
use Rattle.cq_tree.specs.declared.statement.Statement.TheVariants as statement
use Rattle.cq_planning.specs.Touched.{among}
use Rattle.cq_history.specs.Run.{Environment, retiring, after}
use Rattle.cq_history.specs.Phases.{StandsBefore, AreInScriptOrder, MayBeInBlock}
use Rattle.cq_history.specs.Log.{of_session, IsNext}
use Rattle.cq_history.proofs.Lists.{filter_all}
use Rattle.cq_block_laws.specs.Closing.{Session, numbers_of, answers_of, IsOfSession, AreRising, AreApart, AreSessions}
use Rattle.cq_block_laws.specs.Laws.{BlockKeeps}

module _ (phase count : ℕ) (settings : Settings) where
  abbrev IsOf : ℕ → Answered → Type 0
  IsOf s a = IsOfSession phase count settings s a

  abbrev Are : ℕ → List Session → Type 0
  Are low sessions = AreSessions phase count settings low sessions

  -- what holds of each answer, whichever its session
  pub each_answer : (P : Answered → Type 0) (low : ℕ) (sessions : List Session) → ((s : ℕ) (a : Answered) → low ≤ s → IsOf s a → P a) → Are low sessions → AllByRecursion P (answers_of sessions)
  each_answer P low [] by all = tt
  each_answer P low (s ∷ more) by all =
      all_append P s.answers (answers_of more) (all_weaker (IsOf s.number) P (λ a o. by s.number a all.0 o) s.answers all.1)
      (each_answer P (s.number + 1) more (λ t a l o. by t a (let h = all.0 in omega (arith, l, h)) o) all.3)

  -- the answers of the sessions from a number on
  none_below : (n low : ℕ) (sessions : List Session) → n < low → Are low sessions → of_session n (answers_of sessions) ≡ []
  none_below n low sessions less all =
      filter_none (λ (a : Answered). nat_eq a.session n) (answers_of sessions)
      (each_answer (λ (a : Answered). nat_eq a.session n ≡ false) low sessions (λ s a l o. ne_eqb a.session n (λ same. let is = o.session in omega (arith, same, is, l, less))) all)

  all_own : (s : Session) → AllByRecursion (IsOf s.number) s.answers → of_session s.number s.answers ≡ s.answers
  all_own s all = filter_all (λ (a : Answered). nat_eq a.session s.number) s.answers (all_weaker (IsOf s.number) (λ (a : Answered). nat_eq a.session s.number ≡ true) (λ a o. eq-eqb a.session s.number o.session) s.answers all)

  split : (n : ℕ) (s : Session) (more : List Session) → of_session n (answers_of (s ∷ more)) ≡ of_session n s.answers ++ of_session n (answers_of more)
  split n s more = filter-append (λ (a : Answered). nat_eq a.session n) s.answers (answers_of more)

  -- each session's answers are those of its number
  abbrev IsOwn : List Answered → Session → Type 0
  IsOwn answers s = of_session s.number answers ≡ s.answers

  numbers_above : (low : ℕ) (sessions : List Session) → Are low sessions → AllByRecursion (λ (s : Session). low ≤ s.number) sessions
  numbers_above low [] all = tt
  numbers_above low (s ∷ more) all =
      (all.0, all_weaker (λ (t : Session). s.number + 1 ≤ t.number) (λ (t : Session). low ≤ t.number) (λ t l. let h = all.0 in omega (arith, l, h)) more (numbers_above (s.number + 1) more all.3))

  pub all_of_sessions : (low : ℕ) (sessions : List Session) → Are low sessions → AllByRecursion (IsOwn (answers_of sessions)) sessions
  all_of_sessions low [] all = tt
  all_of_sessions low (s ∷ more) all = (
    split s.number s more ∙ ap (λ v. v ++ of_session s.number (answers_of more)) (all_own s all.1) ∙ ap (λ v. s.answers ++ v) (none_below s.number (s.number + 1) more (omega arith) all.3) ∙ append_nil s.answers,
    all_both (IsOwn (answers_of more)) (λ (t : Session). s.number + 1 ≤ t.number) (IsOwn (answers_of (s ∷ more)))
        (λ t is l. split t.number s more ∙ ap (λ v. v ++ of_session t.number (answers_of more)) (none_here t.number l) ∙ is) more (all_of_sessions (s.number + 1) more all.3) (numbers_above (s.number + 1) more all.3),
  )
    where
      none_here : (n : ℕ) → s.number + 1 ≤ n → of_session n s.answers ≡ []
      none_here n l = filter_none (λ (a : Answered). nat_eq a.session n) s.answers
          (all_weaker (IsOf s.number) (λ (a : Answered). nat_eq a.session n ≡ false) (λ a o. ne_eqb a.session n (λ same. let is = o.session in omega (arith, same, is, l))) s.answers all.1)

  -- ---- the order of a script

  in_session : (s : ℕ) → 1 ≤ s → (answers : List Answered) → AllByRecursion (IsOf s) answers → AreRising answers → AreInScriptOrder answers
  in_session s l [] all rising = tt
  in_session s l (a ∷ more) all rising = (
    all_both (IsOf s) (λ (b : Answered). a.statement < b.statement) (StandsBefore a)
        (λ b o up. inr (record {
          phase = o.phase ∙ sym all.0.phase;
          session = (let is = all.0.session in omega (arith, is, l));
          order = inr (all.0.session ∙ sym o.session, up);
        })) more all.1 rising.0,
    in_session s l more all.1 rising.1,
  )

  order_append : (xs ys : List Answered) → AreInScriptOrder xs → AreInScriptOrder ys → AllByRecursion (λ (a : Answered). AllByRecursion (StandsBefore a) ys) xs → AreInScriptOrder (xs ++ ys)
  order_append [] ys h k cross = k
  order_append (a ∷ xs) ys h k cross = (all_append (StandsBefore a) xs ys h.0 cross.0, order_append xs ys h.1 k cross.1)

  apart_right : (xs ys : List Answered) → AreApart (xs ++ ys) → AreApart ys
  apart_right [] ys all = all
  apart_right (a ∷ xs) ys all = apart_right xs ys all.1

  apart_across : (xs ys : List Answered) → AreApart (xs ++ ys) → AllByRecursion (λ (a : Answered). AllByRecursion (λ (b : Answered). a.statement ≢ b.statement) ys) xs
  apart_across [] ys all = tt
  apart_across (a ∷ xs) ys all = (all_right (λ (b : Answered). a.statement ≢ b.statement) xs ys all.0, apart_across xs ys all.1)

  pub in_script_order : (low : ℕ) → 1 ≤ low → (sessions : List Session) → Are low sessions → AreApart (answers_of sessions) → AreInScriptOrder (answers_of sessions)
  in_script_order low one [] all apart = tt
  in_script_order low one (s ∷ more) all apart =
      order_append s.answers (answers_of more) (in_session s.number (let l = all.0 in omega (arith, l, one)) s.answers all.1 all.2)
      (in_script_order (s.number + 1) (omega arith) more all.3 (apart_right s.answers (answers_of more) apart))
      (all_both (IsOf s.number) (λ (a : Answered). AllByRecursion (λ (b : Answered). a.statement ≢ b.statement) (answers_of more)) (λ (a : Answered). AllByRecursion (StandsBefore a) (answers_of more))
      (λ a o far. all_both (λ (b : Answered). (phase ≡ b.phase) × (s.number < b.session)) (λ (b : Answered). a.statement ≢ b.statement) (StandsBefore a)
      (λ b up n. inr (record { phase = sym up.0 ∙ sym o.phase; session = (let is = o.session in let l = all.0 in omega (arith, is, l, one)); order = inl ((let is = o.session in let u = up.1 in omega (arith, is, u)), n) })) (answers_of more)
      (each_answer (λ (b : Answered). (phase ≡ b.phase) × (s.number < b.session)) (s.number + 1) more (λ t b l p. (sym p.phase, (let is = p.session in omega (arith, is, l)))) all.3) far)
      s.answers all.1 (apart_across s.answers (answers_of more) apart))

  -- the answers are the next ones, each of one of the sessions
  pub are_next : (e : Environment) (low : ℕ) → 1 ≤ low → (sessions : List Session) → e.settings ≡ settings → Are low sessions → AllByRecursion (IsNext phase e) (answers_of sessions)
  are_next e low one sessions same all =
      each_answer (IsNext phase e) low sessions (λ s a l o. (o.phase, (let p = o.phase in let low = o.low in omega (arith, p, low)), (λ zero. (let is = o.session in absurd (omega (arith, is, zero, l, one)))), o.settings ∙ sym same)) all

  pub are_known : (low : ℕ) (sessions : List Session) → Are low sessions → AllByRecursion (λ (a : Answered). among a.session (numbers_of sessions) ≡ true) (answers_of sessions)
  are_known low [] all = tt
  are_known low (s ∷ more) all =
      all_append (λ (a : Answered). among a.session (numbers_of (s ∷ more)) ≡ true) s.answers (answers_of more)
      (all_weaker (IsOf s.number) (λ (a : Answered). among a.session (numbers_of (s ∷ more)) ≡ true) (λ a o. rw (eq-eqb a.session s.number o.session) refl) s.answers all.1)
      (all_weaker (λ (a : Answered). among a.session (numbers_of more) ≡ true) (λ (a : Answered). among a.session (numbers_of (s ∷ more)) ≡ true) (λ a m. further (nat_eq a.session s.number) (among a.session (numbers_of more)) m) (answers_of more)
      (are_known (s.number + 1) more all.3))
    where
      further : (b c : Bool) → c ≡ true → (b || c) ≡ true
      further true c t = refl
      further false c t = t

-- ---- the environment behind a block

record Stays (e next : Environment) : Type 0 where
  catalog : next.catalog ≡ e.catalog
  settings : next.settings ≡ e.settings

retiring_stays : (e : Environment) (f : Fault) → Stays e (retiring e f)
retiring_stays e (fault.Retired failure) = record { catalog = refl; settings = refl }
retiring_stays e f = record { catalog = refl; settings = refl }

one_stays : (e : Environment) (bound : Option Statement) (a : Answer) → MayBeInBlock bound → Stays e (after e bound a)
one_stays e None (answer.Failed f) m = record { catalog = refl; settings = refl }
one_stays e None (answer.Tag t) m = record { catalog = refl; settings = refl }
one_stays e None (answer.Table names rows) m = record { catalog = refl; settings = refl }
one_stays e (Some (statement.Select q)) (answer.Failed f) m = record { catalog = refl; settings = refl }
one_stays e (Some (statement.Select q)) (answer.Tag t) m = record { catalog = refl; settings = refl }
one_stays e (Some (statement.Select q)) (answer.Table names rows) m = record { catalog = refl; settings = refl }
one_stays e (Some (statement.Write op)) (answer.Failed f) m = record { catalog = refl; settings = refl }
one_stays e (Some (statement.Write op)) (answer.Tag t) m = record { catalog = refl; settings = refl }
one_stays e (Some (statement.Write op)) (answer.Table names rows) m = record { catalog = refl; settings = refl }
one_stays e (Some (statement.Move shard from to)) (answer.Failed f) m = retiring_stays e f
one_stays e (Some (statement.Move shard from to)) (answer.Tag t) m = record { catalog = refl; settings = refl }
one_stays e (Some (statement.Move shard from to)) (answer.Table names rows) m = record { catalog = refl; settings = refl }
one_stays e (Some s) a m = absurd m

pub block_keeps : BlockKeeps
block_keeps e [] all = (refl, refl)
block_keeps e (a ∷ block) all =
    let one = one_stays e a.bound a.answer all.0 in
    let rest = block_keeps (after e a.bound a.answer) block all.1 in
    (rest.0 ∙ one.catalog, rest.1 ∙ one.settings)

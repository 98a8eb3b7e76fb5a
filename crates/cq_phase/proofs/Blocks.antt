-- The answers of a block, by its statements: they are in the order of a script, and of the block's numbers.
use Rattle.std.proofs.Common.{◌≡◌, inl, inr, ℕ, ◌+◌, ◌<◌, ◌≤◌, List, [], ◌∷◌, length, sym, subst, ◌∙◌, arith}
use Rattle.std.specs.List.{AllByRecursion, AllZip}
use Rattle.cq_value.proofs.Lists.{all_both}
use Rattle.cq_answer.specs.declared.answered.Answered.{Answered}
use Rattle.cq_answer.specs.declared.answered.Settings.{Settings}
use Rattle.cq_catalog.specs.declared.info.TableInfo.{TableInfo}
use Rattle.cq_history.specs.Phases.{MayBeInBlock, AreInScriptOrder, StandsBefore}
use Rattle.cq_turn_laws.specs.Turns.{IsOfBlock, IsBlock}
use Rattle.cq_script.specs.declared.reader.Placed.{Placed}
use Rattle.cq_script.specs.Directives.{IsSession, IsBlockAt}
use Rattle.cq_phase.specs.Phases.{by_session, sessions, IsAnswerTo}
use Rattle.cq_phase.proofs.Orders.{GoesBefore, AreOrdered, IsNumberOf, all_numbered, all_counted, all_of_sessions, are_ordered}

module _ (tables : List TableInfo) where
  -- what is true of statements is true of their answers
  pub answers_all : (P : Placed → Type 0) (Q : Answered → Type 0) → ((p : Placed) (a : Answered) → IsAnswerTo tables p a → P p → Q a) → (ps : List Placed) (done : List Answered) → AllZip (IsAnswerTo tables) ps done → AllByRecursion P ps → AllByRecursion Q done
  answers_all P Q so [] [] zip all = tt
  answers_all P Q so (p ∷ ps) (a ∷ done) zip all = (so p a zip.0 all.0, answers_all P Q so ps done zip.1 all.1)
  answers_all P Q so [] (a ∷ done) zip all = absurd zip
  answers_all P Q so (p ∷ ps) [] zip all = absurd zip

  pub answers_count : (ps : List Placed) (done : List Answered) → AllZip (IsAnswerTo tables) ps done → length done ≡ length ps
  answers_count [] [] zip = omega arith
  answers_count (p ∷ ps) (a ∷ done) zip = (let more = answers_count ps done zip.1 in omega (arith, more))
  answers_count [] (a ∷ done) zip = absurd zip
  answers_count (p ∷ ps) [] zip = absurd zip

  -- what each statement of a block is
  record IsPlaced (first count : ℕ) (p : Placed) : Type 0 where
    is : IsNumberOf first first count p
    session : IsSession p.session

  stands_before : (first count : ℕ) (p q : Placed) (a b : Answered) → IsAnswerTo tables p a → IsAnswerTo tables q b → IsPlaced first count p → IsPlaced first count q → GoesBefore p q → StandsBefore a b
  stands_before first count p q a b pa qb i j before = inr (record {
    phase = qb.phase ∙ j.is.phase ∙ sym (pa.phase ∙ i.is.phase);
    session = (let low = i.session.0 in let is = pa.session in omega (arith, low, is));
    order = (let ps = pa.session in let qs = qb.session in let pn = pa.statement in let qn = qb.statement in elim before [
      | inl apart ↦ inl ((let lt = apart.0 in omega (arith, lt, ps, qs)), λ same. apart.1 (sym pn ∙ same ∙ qn))
      | inr within ↦ inr (ps ∙ within.0 ∙ sym qs, (let lt = within.1 in omega (arith, lt, pn, qn)))
    ]);
  })

  in_script_order : (first count : ℕ) (ps : List Placed) (done : List Answered) → AllZip (IsAnswerTo tables) ps done → AllByRecursion (IsPlaced first count) ps → AreOrdered ps → AreInScriptOrder done
  in_script_order first count [] [] zip all ordered = tt
  in_script_order first count (p ∷ ps) (a ∷ done) zip all ordered = (
    answers_all (λ q. GoesBefore p q × IsPlaced first count q) (StandsBefore a) (λ q b qb h. stands_before first count p q a b zip.0 qb all.0 h.1 h.0) ps done zip.1
        (all_both (GoesBefore p) (IsPlaced first count) (λ q. GoesBefore p q × IsPlaced first count q) (λ q h k. (h, k)) ps ordered.0 all.1),
    in_script_order first count ps done zip.1 all.1 ordered.1,
  )
  in_script_order first count [] (a ∷ done) zip all ordered = absurd zip
  in_script_order first count (p ∷ ps) [] zip all ordered = absurd zip

  -- and what its answer is
  record IsPlacedAnswer (first count : ℕ) (a : Answered) : Type 0 where
    session : 1 ≤ a.session
    phase : a.phase ≡ first
    low : first ≤ a.statement
    high : a.statement < first + count

  placed_answer : (first count : ℕ) (p : Placed) (a : Answered) → IsAnswerTo tables p a → IsPlaced first count p → IsPlacedAnswer first count a
  placed_answer first count p a pa i = record {
    session = (let low = i.session.0 in let is = pa.session in omega (arith, low, is));
    phase = pa.phase ∙ i.is.phase;
    low = (let low = i.is.low in let is = pa.statement in omega (arith, low, is));
    high = (let high = i.is.high in let is = pa.statement in omega (arith, high, is));
  }

  -- the answers to the statements of a block, session after session
  pub is_block : (read : ℕ) (given : Settings) (ps : List Placed) (done : List Answered) → IsBlockAt read ps → AllZip (IsAnswerTo tables) (by_session ps) done → AllByRecursion (λ (a : Answered). a.settings ≡ given) done →
      AllByRecursion (λ (a : Answered). MayBeInBlock a.bound) done → IsBlock (read + 1) given done
  is_block read given ps done block zip settings allowed =
      let first = read + 1 in
      let placed = all_both (IsNumberOf first first (length ps)) (λ (p : Placed). IsSession p.session) (IsPlaced first (length ps)) (λ p i s. record { is = i; session = s }) ps (all_numbered first first ps block.numbered) block.sessions in
      let all = all_of_sessions (IsPlaced first (length ps)) sessions ps placed in
      let count : length done ≡ length ps = answers_count (by_session ps) done zip ∙ all_counted ps block.sessions in
      record {
        each = subst (λ n. AllByRecursion (IsOfBlock first n given) done) (sym count)
            (all_both (λ (a : Answered). IsPlacedAnswer first (length ps) a × (a.settings ≡ given)) (λ (a : Answered). MayBeInBlock a.bound) (IsOfBlock first (length ps) given)
            (λ a h may. record { session = h.0.session; phase = h.0.phase; low = h.0.low; high = h.0.high; settings = h.1; allowed = may }) done
            (all_both (IsPlacedAnswer first (length ps)) (λ (a : Answered). a.settings ≡ given) (λ (a : Answered). IsPlacedAnswer first (length ps) a × (a.settings ≡ given)) (λ a h k. (h, k)) done
            (answers_all (IsPlaced first (length ps)) (IsPlacedAnswer first (length ps)) (λ p a pa i. placed_answer first (length ps) p a pa i) (by_session ps) done zip all) settings) allowed);
        script = in_script_order first (length ps) (by_session ps) done zip all (are_ordered first first ps block.numbered);
      }

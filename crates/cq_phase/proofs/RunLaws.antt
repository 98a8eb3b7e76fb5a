-- What stands between two phases stands behind the next one.
use Rattle.std.proofs.Common.{Some, slice_get, ◌≡◌, ◌≢◌, inl, inr, ℕ, ◌+◌, ◌≤◌, Option, List, [], ◌∷◌, ◌++◌, length, refl, sym, ap, subst, ◌∙◌, arith}
use Rattle.std.specs.Prelude.{Result, Ok, Err, OnOk, OnErr}
use Rattle.std.specs.List.{AllByRecursion, AllZip}
use Rattle.cq_value.proofs.Lists.{all_weaker, all_both}
use Rattle.cq_tree.specs.declared.journal.Who.{Who}
use Rattle.cq_tree.specs.declared.statement.Statement.{Statement}
use Rattle.cq_answer.specs.declared.answer.Answer.{Answer}
use Rattle.cq_answer.specs.declared.answered.Answered.{Answered}
use Rattle.cq_answer.specs.declared.answered.Settings.{Settings}
use Rattle.cq_bound_laws.proofs.Columns.{columns_stand}
use Rattle.cq_history.specs.Log.{IsConsistent, IsAnswered}
use Rattle.cq_history.specs.Phases.{who_of, AreComplete, IsNumbered}
use Rattle.cq_history.specs.Refusals.{rules}
use Rattle.cq_history.proofs.Script.{answers_go_on}
use Rattle.cq_store.specs.Stores.{StoreState}
use Rattle.cq_store.specs.declared.worker.Worker.{Worker}
use Rattle.cq_cluster.specs.Accounts.{IsNext}
use Rattle.cq_cluster.specs.Cluster.{run_of}
use Rattle.cq_cluster.proofs.RetiringLaws.{retires_on}
use Rattle.cq_coordinator.specs.Coordination.{environment, journals}
use Rattle.cq_coordinator.specs.declared.coordinator.Coordinator.{Coordinator}
use Rattle.cq_script.specs.declared.reader.Placed.{Placed}
use Rattle.cq_script.specs.Directives.{IsPhaseAt}
use Rattle.cq_phase.specs.Phases.{by_session, IsAnswerTo, IsRunning}
use Rattle.cq_phase.specs.Turns.{IsReady, TakesTurn, RunsPhase, RunsNothing}
use Rattle.cq_phase.proofs.Orders.{only_outside}
use Rattle.cq_phase.proofs.SteadyLaws.{steady_more}

-- ---- the next answer

-- the answers so far are of the phases before
phases_before : (answers : List Answered) → AreComplete answers → AllByRecursion (IsNumbered answers) answers → AllByRecursion (λ (b : Answered). b.phase ≤ length answers + 1) answers
phases_before answers complete numbered =
    all_both (λ (b : Answered). b.statement ≤ length answers) (IsNumbered answers) (λ (b : Answered). b.phase ≤ length answers + 1) (λ b le n. (let low = n.low in omega (arith, le, low))) answers complete numbered

-- the answer to the next statement
is_next : (answers : List Answered) (a : Answered) → AreComplete answers → AllByRecursion (IsNumbered answers) answers → a.statement ≡ length answers + 1 → a.phase ≡ length answers + 1 → IsNext (who_of a) a answers
is_next answers a complete numbered is phase = record {
  is = refl;
  answered = all_weaker (λ (b : Answered). b.statement ≤ length answers) (λ (b : Answered). b.statement ≢ a.statement) (λ b le same. omega (arith, le, is, same)) answers complete;
  phases = all_weaker (λ (b : Answered). b.phase ≤ length answers + 1) (λ (b : Answered). b.phase ≤ a.phase) (λ b le. omega (arith, le, phase)) answers (phases_before answers complete numbered);
}

-- ---- the next phase

-- it is one statement outside blocks, where its first one is
pub is_alone : (read : ℕ) (ps : List Placed) (p : Placed) → IsPhaseAt read ps → slice_get ps 0 ≡ Some p → p.session ≡ 0 → (ps ≡ p ∷ []) × (p.number ≡ read + 1) × (p.phase ≡ read + 1)
is_alone read ps p (inl (q, is, session, number, phase)) there none =
    let same : q ≡ p = (let at : Some q ≡ Some p = sym (ap (λ (v : List Placed). slice_get v 0) is) ∙ there in cc) in
    (is ∙ ap (λ (r : Placed). r ∷ []) same, sym (ap (λ (r : Placed). r.number) same) ∙ number, sym (ap (λ (r : Placed). r.phase) same) ∙ phase)
is_alone read [] p (inr block) there none = cc
is_alone read (q ∷ ps) p (inr block) there none =
    let same : q ≡ p = cc in
    let some = block.sessions.0.0 in
    let is = ap (λ (r : Placed). r.session) same in
    absurd (omega (arith, some, is, none))

-- ---- a statement outside blocks

abbrev put_down : ℕ → ℕ → ℕ → Settings → Option Statement → Answer → Answered
put_down session n phase given bound a = record { session = session; statement = n; phase = phase; settings = given; bound = bound; answer = a }

answered_is : (a : Answered) (n : ℕ) (given : Settings) → a.session ≡ 0 → a.statement ≡ n → a.phase ≡ n → a.settings ≡ given →
    a ≡ put_down 0 n n given a.bound a.answer
answered_is a n given session statement phase settings =
    ap (λ s. put_down s a.statement a.phase a.settings a.bound a.answer) session ∙ ap (λ m. put_down 0 m a.phase a.settings a.bound a.answer) statement ∙ ap (λ k. put_down 0 n k a.settings a.bound a.answer) phase
    ∙ ap (λ v. put_down 0 n n v a.bound a.answer) settings

who_is : (a : Answered) (n : ℕ) → a.session ≡ 0 → a.statement ≡ n → who_of a ≡ record { session = 0; statement = n }
who_is a n session statement = cc

module _ {X : Type 0} (state : X → StoreState) (initial : Settings) (entry : List (Worker X)) where
  -- what a statement finds between two phases
  pub running_ready : (co : Coordinator X) (answers : List Answered) → IsRunning state initial entry co answers → IsReady state co
  running_ready co answers r = record {
    sound = r.sound;
    legal = r.consistent.log.legal;
    keyed = r.consistent.log.laid.keyed;
    columns = columns_stand rules (run_of co.cluster.nodes initial entry) (environment co) answers (journals co) r.consistent;
  }

  -- ---- phases

  pub running_behind_one : (old new : Coordinator X) (answers : List Answered) (p : Placed) (a : Answered) → IsRunning state initial entry old answers → p.session ≡ 0 → p.number ≡ length answers + 1 → p.phase ≡ length answers + 1 →
      TakesTurn state old new a → IsAnswerTo old.cluster.catalog.tables p a → IsRunning state initial entry new (answers ++ a ∷ [])
  running_behind_one old new answers p a r session number phase turn its =
      let run = run_of old.cluster.nodes initial entry in
      let n = length answers + 1 in
      let statement = its.statement ∙ number in
      let same = answered_is a n old.settings (its.session ∙ session) statement (its.phase ∙ phase) turn.settings in
      let who = who_is a n (its.session ∙ session) statement in
      record {
        consistent = subst (λ m. IsConsistent rules (run_of m initial entry) (environment new) (answers ++ a ∷ []) (journals new)) (sym turn.stores.nodes)
            (subst (λ (b : Answered). IsConsistent rules run (environment new) (answers ++ b ∷ []) (journals new)) (sym same)
            (answers_go_on rules run (environment old) (environment new) answers (journals old) (journals new) a.bound a.answer r.consistent
            (subst (λ (w : Who). IsAnswered rules run (environment old) (environment new) w (journals old) (journals new) a.bound a.answer) who (turn.answered initial entry r.stores))));
        sound = turn.sound;
        stores = turn.stores.stores entry r.stores;
        accounted = turn.accounted answers (is_next answers a r.consistent.complete r.consistent.log.numbered statement (its.phase ∙ phase)) r.accounted;
        retired = retires_on answers (who_of a) a old.cluster.retired.items new.cluster.retired.items refl turn.retires r.retired;
        steady = steady_more state entry old.cluster new.cluster answers a turn.steady r.steady;
      }

-- ---- what a call did that ran a phase

module _ {X : Type 0} (state : X → StoreState) where
  pub runs_one : (old new : Coordinator X) (answers after : List Answered) (ps : List Placed) (p : Placed) (a : Answered) → IsPhaseAt (length answers) ps → slice_get ps 0 ≡ Some p → p.session ≡ 0 → TakesTurn state old new a →
      IsAnswerTo old.cluster.catalog.tables p a → after ≡ answers ++ a ∷ [] → RunsPhase state ps old new answers after
  runs_one old new answers after ps p a next there none turn its log =
      let one = is_alone (length answers) ps p next there none in
      record {
        more = a ∷ [];
        log = log;
        answers = subst (λ (v : List Placed). AllZip (IsAnswerTo old.cluster.catalog.tables) (by_session v) (a ∷ [])) (sym one.0)
            (subst (λ (v : List Placed). AllZip (IsAnswerTo old.cluster.catalog.tables) v (a ∷ [])) (sym (only_outside p none)) (its, tt));
        running = λ initial entry r. subst (λ (v : List Answered). IsRunning state initial entry new v) (sym log) (running_behind_one state initial entry old new answers p a r none one.1 one.2 turn its);
        nodes = turn.stores.nodes;
      }

  -- whether it ran one or not
  pub running_after : {T E : Type 0} (initial : Settings) (entry : List (Worker X)) (old new : Coordinator X) (ps : List Placed) (before after : List Answered) (result : Result T E) → OnOk result (RunsPhase state ps old new before after) →
      OnErr result (RunsNothing state old new before after) → IsRunning state initial entry old before → IsRunning state initial entry new after
  running_after initial entry old new ps before after (Ok u) ok err r = ok.running initial entry r
  running_after initial entry old new ps before after (Err e) ok err r = err.running initial entry r

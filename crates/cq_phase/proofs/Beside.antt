-- A block whose sessions ran side by side is a phase: what stands between two phases stands behind it.
use Rattle.std.proofs.Common.{Ok, Err, inl, inr, ◌≡◌, ◌≢◌, ℕ, zero, suc, ◌+◌, ◌<◌, ◌≤◌, List, [], ◌∷◌, ◌++◌, length, length-append, map, take, drop, refl, sym, ap, subst, ◌∙◌, arith}
use Rattle.std.specs.Prelude.{nat_eq, Result, OnOk, OnErr}
use Rattle.std.specs.List.{AllByRecursion, AllZip, flat_map}
use Rattle.std.proofs.lemmas.List.{length-map, length-drop}
use Rattle.cq_value.proofs.Lists.{all_weaker, all_both, all_append}
use Rattle.cq_planning.specs.Touched.{numbers}
use Rattle.cq_catalog.specs.Contents.{Contents}
use Rattle.cq_answer.specs.declared.answered.Answered.{Answered}
use Rattle.cq_answer.specs.declared.answered.Settings.{Settings}
use Rattle.cq_answer.specs.declared.fault.Fault.{Fault}
use Rattle.cq_journal.specs.Records.{Journal}
use Rattle.cq_history.specs.Log.{IsConsistent, AreConsistent, no_era}
use Rattle.cq_history.specs.Phases.{MayBeInBlock, AreComplete, IsNumbered}
use Rattle.cq_history.specs.Legality.{IsLegalKind}
use Rattle.cq_history.specs.Refusals.{rules}
use Rattle.cq_history.specs.Run.{Run, environment_from}
use Rattle.cq_store.specs.Stores.{StoreState}
use Rattle.cq_store.specs.declared.worker.Worker.{Worker}
use Rattle.cq_group.specs.declared.group.GroupState.{GroupState}
use Rattle.cq_group.specs.Groups.{journal_of}
use Rattle.cq_group.specs.Resting.{journals_of}
use Rattle.cq_groups.specs.Looking.{environment_at}
use Rattle.cq_cluster.specs.declared.retired.Retired.{Retired}
use Rattle.cq_cluster.specs.declared.cluster.Cluster.{Cluster}
use Rattle.cq_cluster.specs.Accounts.{AreAccounted, AreRetired}
use Rattle.cq_cluster.specs.Cluster.{run_of, retired_nodes}
use Rattle.cq_cluster.specs.Steady.{AreSteady, GroupsAreSteady, WorkersAreSteady, NamesNode, NamesNoSteady}
use Rattle.cq_cluster.proofs.GroupLaws.{rests}
use Rattle.cq_cluster.proofs.JournalLaws.{journal_at}
use Rattle.cq_groups.proofs.HeldAlone.{rests_whole}
use Rattle.cq_coordinator.proofs.QueryAnswers.{are_shaped}
use Rattle.cq_coordinator.specs.Coordination.{environment, journals}
use Rattle.cq_coordinator.specs.declared.coordinator.Coordinator.{Coordinator}
use Rattle.cq_cell.specs.Lists.{NotIn, Distinct}
use Rattle.cq_place_laws.specs.Placing.{IsBlock as IsPlaced}
use Rattle.cq_place_laws.proofs.PlacingLaws.{block_places, block_nodes_used, block_movers}
use Rattle.cq_block_laws.specs.Closing.{Session, History, answers_of, numbers_of, AreApart as AreAnswersApart, AreSessions, IsClosed}
use Rattle.cq_block_laws.specs.Serving.{Opening}
use Rattle.cq_block_laws.specs.Sessions.{HasRun, retired_by}
use Rattle.cq_block_laws.proofs.Closed.{block_closes}
use Rattle.cq_block_laws.proofs.Phases.{block_goes_on, block_is_phase}
use Rattle.cq_block_laws.proofs.Retiring.{block_retires_all}
use Rattle.cq_block_laws.proofs.Settled.{block_settles}
use Rattle.cq_block_laws.proofs.Still.{moves_are_over}
use Rattle.cq_block_accounts.specs.Accounts.{AreToldOf}
use Rattle.cq_block_accounts.specs.Blames.{AllGoOnBy}
use Rattle.cq_block_accounts.specs.Cluster.{AreAtRest, AreKeptBy, StaysSound, used_workers}
use Rattle.cq_block_accounts.proofs.Clusters.{block_leaves_cluster, cluster_may_be_shared, workers_are_free}
use Rattle.cq_block_accounts.proofs.Faults.{block_is_accounted}
use Rattle.cq_block_accounts.proofs.Leaving.{closed_may_retire}
use Rattle.cq_block_accounts.proofs.Numbers.{sessions_are_new}
use Rattle.cq_block_accounts.proofs.Retiring.{block_retires, retired_on}
use Rattle.cq_block_accounts.proofs.Telling.{block_tells, block_names_below}
use Rattle.cq_block_accounts.proofs.Workers.{taken_count, taken_got}
use Rattle.cq_turn_laws.specs.Turns.{IsOfBlock, IsBlock}
use Rattle.cq_script.specs.declared.reader.Placed.{Placed}
use Rattle.cq_script.specs.Directives.{IsBlockAt}
use Rattle.cq_session.specs.declared.copying.Reading.{Reading}
use Rattle.cq_session.specs.Shared.{bound_of}
use Rattle.cq_session.specs.Responses.{IsReadAs, ReadsAs}
use Rattle.cq_block.specs.declared.drafts.Draft.{Draft}
use Rattle.cq_block.specs.declared.drafts.SessionDrafts.{SessionDrafts}
use Rattle.cq_block.specs.declared.legality.Ground.{Ground}
use Rattle.cq_block.specs.Drafts.{MayStand, IsDraftOf, IsDrafted, HaveDrafts}
use Rattle.cq_block.specs.Ground.{terms_of, IsGroundOf}
use Rattle.cq_block.specs.Running.{AreApart, MayRun, IsDraftIn, IsAnswerTo as IsAnswerToDraft, IsDone, HasRunSessions}
use Rattle.cq_phase.specs.Beside.{RunsBeside, IsAsBefore}
use Rattle.cq_phase.specs.Phases.{of_session, by_session, IsAnswerTo, IsRunning}
use Rattle.cq_phase.specs.Turns.{RunsPhase, RunsNothing}
use Rattle.cq_phase.proofs.Blocks.{is_block, answers_count}
use Rattle.cq_phase.proofs.Orders.{AreRising, all_counted, are_of_session, are_rising, of_sessions, rising_filtered}
use Rattle.cq_phase.proofs.Sessions.{HaveAnswered, zip_from, all_from, are_sessions, block_of, apart_in_order}

same_first : {A : Type 0} {x y : A} {xs ys : List A} → x ∷ xs ≡ y ∷ ys → x ≡ y
same_first e = cc e

same_rest : {A : Type 0} {x y : A} {xs ys : List A} → x ∷ xs ≡ y ∷ ys → xs ≡ ys
same_rest e = cc e

-- what was read stands in a block
may_be : (c : Contents) (read : Result Reading Fault) → MayStand c read → MayBeInBlock (bound_of read)
may_be c (Ok r) stands = stands.0
may_be c (Err f) stands = tt

module _ {X : Type 0} (state : X → StoreState) (nodes : ℕ) (c : Contents) (given : Settings) (ps : List Placed) where
  -- the answers to drafts are those to their statements
  answer_to : (p : Placed) (d : Draft) (a : Answered) → IsDraftOf c p d → IsAnswerToDraft c given d a → IsAnswerTo c.tables p a
  answer_to p d a draft its =
      let same = draft.placed in
      let session = its.session ∙ ap (λ (q : Placed). q.session) same in
      record {
        session = session;
        statement = its.statement ∙ ap (λ (q : Placed). q.number) same;
        phase = its.phase ∙ ap (λ (q : Placed). q.phase) same;
        reads = subst (λ s. ReadsAs s a.bound a.answer p.item.text p.item.copied c.tables) session
            (its.reads p.item.text p.item.copied (subst (λ s. IsReadAs s p.item.text p.item.copied c.tables d.read) (sym session) draft.reads));
      }

  answers_to : (qs : List Placed) (ds : List Draft) (done : List Answered) → AllZip (IsDraftOf c) qs ds → AllZip (IsAnswerToDraft c given) ds done →
      AllZip (IsAnswerTo c.tables) qs done × AllByRecursion (λ (a : Answered). (a.settings ≡ given) × MayBeInBlock a.bound) done
  answers_to [] [] [] drafts its = (tt, tt)
  answers_to [] [] (a ∷ done) drafts its = absurd its
  answers_to [] (d ∷ ds) done drafts its = absurd drafts
  answers_to (p ∷ qs) [] done drafts its = absurd drafts
  answers_to (p ∷ qs) (d ∷ ds) [] drafts its = absurd its
  answers_to (p ∷ qs) (d ∷ ds) (a ∷ done) drafts its =
      let more = answers_to qs ds done drafts.1 its.1 in (
        (answer_to p d a drafts.0 its.0, more.0),
        ((its.0.given, subst MayBeInBlock (sym its.0.bound) (may_be c d.read drafts.0.stands)), more.1),
      )

  -- the sessions answered their statements
  pub have_answered : (n : ℕ) (ones : List SessionDrafts) (done : List Session) → map (λ (one : SessionDrafts). one.session) ones ≡ numbers n (length ones) → AllByRecursion (λ (one : SessionDrafts). IsDrafted c ps one.session one) ones →
      AllZip (IsDone state c nodes given) ones done → HaveAnswered c.tables given ps n done × (length done ≡ length ones)
  have_answered n [] [] numbered each are = (tt, refl)
  have_answered n [] (s ∷ done) numbered each are = absurd are
  have_answered n (one ∷ ones) [] numbered each are = absurd are
  have_answered n (one ∷ ones) (s ∷ done) numbered each are =
      let more = have_answered (n + 1) ones done (same_rest numbered) each.1 are.1 in
      let number : one.session ≡ n = same_first numbered in
      let own = answers_to (of_session one.session ps) one.drafts.items s.answers each.0.drafts are.0.answers in
      let long = more.1 in (
        (
          record {
            number = are.0.number ∙ number;
            answers = subst (λ m. AllZip (IsAnswerTo c.tables) (of_session m ps) s.answers) number own.0;
            settings = all_weaker (λ (a : Answered). (a.settings ≡ given) × MayBeInBlock a.bound) (λ (a : Answered). a.settings ≡ given) (λ a h. h.0) s.answers own.1;
            allowed = all_weaker (λ (a : Answered). (a.settings ≡ given) × MayBeInBlock a.bound) (λ (a : Answered). MayBeInBlock a.bound) (λ a h. h.1) s.answers own.1;
          },
          more.0,
        ),
        omega (arith, long),
      )

-- ---- statements that sessions may run side by side

all_in : (c : Contents) (n : ℕ) (qs : List Placed) (ds : List Draft) → AllZip (IsDraftOf c) qs ds → AllByRecursion (λ (p : Placed). p.session ≡ n) qs → AllByRecursion (IsDraftIn c n) ds
all_in c n [] [] zip own = tt
all_in c n [] (d ∷ ds) zip own = absurd zip
all_in c n (p ∷ qs) [] zip own = absurd zip
all_in c n (p ∷ qs) (d ∷ ds) zip own = (record { own = ap (λ (q : Placed). q.session) zip.0.placed ∙ own.0; stands = zip.0.stands }, all_in c n qs ds zip.1 own.1)

-- the sessions of a block may run side by side
pub may_run_beside : (c : Contents) (ps : List Placed) (ones : List SessionDrafts) → HaveDrafts c ps ones → AllByRecursion (λ (one : SessionDrafts). AllByRecursion (IsDraftIn c one.session) one.drafts.items) ones
may_run_beside c ps ones drafts =
    all_weaker (λ (one : SessionDrafts). IsDrafted c ps one.session one) (λ (one : SessionDrafts). AllByRecursion (IsDraftIn c one.session) one.drafts.items)
    (λ one its. all_in c one.session (of_session one.session ps) one.drafts.items its.drafts (are_of_session one.session ps)) ones drafts.each

-- no two drafts of a session have one number
others_apart : (c : Contents) (d : Draft) (p : Placed) → d.placed.now ≡ p → (qs : List Placed) (ds : List Draft) → AllZip (IsDraftOf c) qs ds → AllByRecursion (λ (q : Placed). p.number < q.number) qs →
    AllByRecursion (λ (e : Draft). e.placed.now.number ≢ d.placed.now.number) ds
others_apart c d p is [] [] zip above = tt
others_apart c d p is [] (e ∷ ds) zip above = absurd zip
others_apart c d p is (q ∷ qs) [] zip above = absurd zip
others_apart c d p is (q ∷ qs) (e ∷ ds) zip above = (
  λ same. (let one = ap (λ (r : Placed). r.number) is in let other = ap (λ (r : Placed). r.number) zip.0.placed in let lt = above.0 in omega (arith, one, other, lt, same)),
  others_apart c d p is qs ds zip.1 above.1,
)

all_apart : (c : Contents) (qs : List Placed) (ds : List Draft) → AllZip (IsDraftOf c) qs ds → AreRising qs → AreApart ds
all_apart c [] [] zip rising = tt
all_apart c [] (d ∷ ds) zip rising = absurd zip
all_apart c (p ∷ qs) [] zip rising = absurd zip
all_apart c (p ∷ qs) (d ∷ ds) zip rising = (others_apart c d p zip.0.placed qs ds zip.1 rising.0, all_apart c qs ds zip.1 rising.1)

pub numbered_beside : (c : Contents) (read : ℕ) (ps : List Placed) (ones : List SessionDrafts) → IsBlockAt read ps → HaveDrafts c ps ones → AllByRecursion (λ (one : SessionDrafts). AreApart one.drafts.items) ones
numbered_beside c read ps ones block drafts =
    all_weaker (λ (one : SessionDrafts). IsDrafted c ps one.session one) (λ (one : SessionDrafts). AreApart one.drafts.items)
    (λ one its. all_apart c (of_session one.session ps) one.drafts.items its.drafts (rising_filtered (λ (p : Placed). nat_eq p.session one.session) ps (are_rising (read + 1) (read + 1) ps block.numbered)))
    ones drafts.each

drafts_long : (c : Contents) (qs : List Placed) (ds : List Draft) → AllZip (IsDraftOf c) qs ds → length ds ≡ length qs
drafts_long c [] [] zip = refl
drafts_long c [] (d ∷ ds) zip = absurd zip
drafts_long c (p ∷ qs) [] zip = absurd zip
drafts_long c (p ∷ qs) (d ∷ ds) zip = (let more = drafts_long c qs ds zip.1 in omega (arith, more))

all_long : (c : Contents) (ps : List Placed) (n : ℕ) (ones : List SessionDrafts) → map (λ (one : SessionDrafts). one.session) ones ≡ numbers n (length ones) → AllByRecursion (λ (one : SessionDrafts). IsDrafted c ps one.session one) ones →
    length (flat_map (λ (one : SessionDrafts). one.drafts.items) ones) ≡ length (of_sessions (numbers n (length ones)) ps)
all_long c ps n [] numbered each = refl
all_long c ps n (one ∷ ones) numbered each =
    let own = drafts_long c (of_session one.session ps) one.drafts.items each.0.drafts in
    let is = ap (λ m. length (of_session m ps)) (same_first numbered) in
    let more = all_long c ps (n + 1) ones (same_rest numbered) each.1 in
    let left = length-append one.drafts.items (flat_map (λ (one : SessionDrafts). one.drafts.items) ones) in
    let right = length-append (of_session n ps) (of_sessions (numbers (n + 1) (length ones)) ps) in
    omega (arith, own, is, more, left, right)

-- there are as many drafts as statements
pub as_many_drafts : (c : Contents) (read : ℕ) (ps : List Placed) (ones : List SessionDrafts) → IsBlockAt read ps → HaveDrafts c ps ones → length (flat_map (λ (one : SessionDrafts). one.drafts.items) ones) ≡ length ps
as_many_drafts c read ps ones block drafts =
    all_long c ps 1 ones drafts.numbered drafts.each ∙ ap (λ qs. length qs) (sym (block_of (length ones) ps drafts.few block.sessions drafts.others)) ∙ all_counted ps block.sessions

not_from : (m n k : ℕ) → m < n → NotIn m (numbers n k)
not_from m n zero h = tt
not_from m n (suc k) h = (λ is. omega (arith, h, is), not_from m (n + 1) k (omega (arith, h)))

distinct_from : (n k : ℕ) → Distinct (numbers n k)
distinct_from n zero = tt
distinct_from n (suc k) = (not_from n (n + 1) k (omega arith), distinct_from (n + 1) k)

-- no session has another's number
pub apart_beside : (c : Contents) (ps : List Placed) (ones : List SessionDrafts) → HaveDrafts c ps ones → Distinct (map (λ (one : SessionDrafts). one.session) ones)
apart_beside c ps ones drafts = subst Distinct (sym drafts.numbered) (distinct_from 1 (length ones))

-- ---- what sessions share

module _ {X : Type 0} (state : X → StoreState) (initial : Settings) (entry : List (Worker X)) (co : Coordinator X) (answers : List Answered) (r : IsRunning state initial entry co answers) where
  abbrev cl : Cluster X
  cl = co.cluster

  module _ (rule : Ground X) (is : IsGroundOf cl.nodes cl.catalog cl.groups.items (used_workers cl) rule) where
    kept_by : AreKeptBy state cl (terms_of state rule)
    kept_by = record {
      allows = λ g kind legal. subst (λ (c : Contents). IsLegalKind c g kind) (sym is.catalog) legal;
      steady = λ node both. (subst (λ (gs : List (GroupState X)). GroupsAreSteady state node gs) is.groups both.0, subst (λ (ws : List (Worker X)). WorkersAreSteady state node ws) is.workers both.1);
    }

    -- the groups between two phases, and the workers of the run, are such as sessions may share
    pub may_share : MayRun state cl.catalog cl.nodes rule cl.groups.items (used_workers cl)
    may_share =
        let both = cluster_may_be_shared state (Ground X) (terms_of state) cl rule r.sound kept_by r.consistent.log.legal in
        record {
          over = is;
          share = both.0;
          spare = both.1;
          ground = record {
            whole = r.sound.whole;
            are = r.sound.groups;
            legal = r.consistent.log.legal;
            kinds = λ g kind may. subst (λ (c : Contents). IsLegalKind c g kind) is.catalog may;
            enough = (let many = taken_count cl.nodes cl.workers.items r.sound.enough in omega (arith, many));
            on = λ at w there. (let place = taken_got cl.nodes cl.workers.items at w there in (r.sound.workers.1.used at w place.0 place.1).node);
            reaches = λ node. (λ le. subst (λ n. node ≤ n) is.nodes le, λ le. subst (λ n. node ≤ n) (sym is.nodes) le);
          };
          whole = rests_whole cl.groups.items state cl.catalog cl.nodes (rests state cl r.sound) (are_shaped state cl r.sound) r.consistent.log.legal;
          numbered = λ g x at. sym (ap (λ (j : Journal). j.number) (journal_at cl.groups.items g x at)) ∙ r.consistent.log.numbers g;
          few = (let count = r.sound.groups.count in let few = r.sound.whole.few_groups in omega (arith, count, few));
          some = r.sound.some;
          keyed = r.consistent.log.laid.keyed;
        }

  -- so they may where they are these
  pub may_run : (gs : List (GroupState X)) (ws : List (Worker X)) → gs ≡ cl.groups.items → ws ≡ used_workers cl → (rule : Ground X) → IsGroundOf cl.nodes cl.catalog gs ws rule → MayRun state cl.catalog cl.nodes rule gs ws
  may_run gs ws groups workers =
      subst (λ (v : List (GroupState X) × List (Worker X)). (rule : Ground X) → IsGroundOf cl.nodes cl.catalog v.0 v.1 rule → MayRun state cl.catalog cl.nodes rule v.0 v.1) (λ i. (sym groups i, sym workers i)) (λ rule is. may_share rule is)

-- ---- the phase

-- no answer of earlier phases is of this phase
earlier : (answers : List Answered) → AllByRecursion (IsNumbered answers) answers → AreComplete answers → AllByRecursion (λ (a : Answered). a.phase < length answers + 1) answers
earlier answers numbered complete =
    all_both (IsNumbered answers) (λ (a : Answered). a.statement ≤ length answers) (λ (a : Answered). a.phase < length answers + 1) (λ a i le. (let low = i.low in omega (arith, low, le))) answers numbered complete

taken_all : {A : Type 0} (P : A → Type 0) (n : ℕ) (xs : List A) → AllByRecursion P xs → AllByRecursion P (take n xs)
taken_all P zero xs h = tt
taken_all P (suc n) [] h = tt
taken_all P (suc n) (x ∷ xs) h = (h.0, taken_all P n xs h.1)

module _ {X : Type 0} (state : X → StoreState) (co new : Coordinator X) (before after : List Answered) (ps : List Placed) (ones : List SessionDrafts) (block : IsBlockAt (length before) ps) (drafts : HaveDrafts co.cluster.catalog ps ones)
    (b : RunsBeside state ones co new before after) where
  abbrev h : HasRunSessions state co.cluster.catalog co.cluster.nodes co.settings ones co.cluster.groups.items new.cluster.groups.items (used_workers co.cluster) b.returned before after co.cluster.retired.items new.cluster.retired.items
  h = b.ran

  own : HaveAnswered co.cluster.catalog.tables co.settings ps 1 h.done × (length h.done ≡ length ones)
  own = have_answered state co.cluster.nodes co.cluster.catalog co.settings ps 1 ones h.done drafts.numbered drafts.each h.are

  abbrev pub more : List Answered
  more = answers_of h.done

  count : length h.done ≡ length ones
  count = own.1

  -- the answers are those to the statements of the block, by session
  pub beside_answers : AllZip (IsAnswerTo co.cluster.catalog.tables) (by_session ps) more
  beside_answers =
      subst (λ qs. AllZip (IsAnswerTo co.cluster.catalog.tables) qs more)
      (ap (λ k. of_sessions (numbers 1 k) ps) count ∙ sym (block_of (length ones) ps drafts.few block.sessions drafts.others))
      (zip_from co.cluster.catalog.tables co.settings ps 1 h.done own.0)

  allowed : AllByRecursion (λ (a : Answered). MayBeInBlock a.bound) more
  allowed = all_from co.cluster.catalog.tables co.settings ps (λ (a : Answered). MayBeInBlock a.bound) (λ n s i. i.allowed) 1 h.done own.0

  is : IsBlock (length before + 1) co.settings more
  is =
      is_block co.cluster.catalog.tables (length before) co.settings ps more block beside_answers
      (all_from co.cluster.catalog.tables co.settings ps (λ (a : Answered). a.settings ≡ co.settings) (λ n s i. i.settings) 1 h.done own.0) allowed

  phases : AllByRecursion (λ (a : Answered). a.phase ≡ length before + 1) more
  phases = all_weaker (IsOfBlock (length before + 1) (length more) co.settings) (λ (a : Answered). a.phase ≡ length before + 1) (λ a i. i.phase) more is.each

  sessions_are : AreSessions (length before + 1) (length more) co.settings 1 h.done
  sessions_are =
      subst (λ n. AreSessions (length before + 1) n co.settings 1 h.done) (sym (answers_count co.cluster.catalog.tables (by_session ps) more beside_answers ∙ all_counted ps block.sessions))
      (are_sessions co.cluster.catalog.tables co.settings ps (length before) block 1 h.done own.0)

  abbrev opening : Opening
  opening = record { environment = environment co; journals = journals co; sessions = numbers_of h.done }

  module _ (initial : Settings) (entry : List (Worker X)) (r : IsRunning state initial entry co before) where
    abbrev run : Run
    run = run_of co.cluster.nodes initial entry

    groups_long : co.cluster.catalog.groups ≤ length (journals co)
    groups_long = (let long = length-map co.cluster.groups.items (λ (g : GroupState X). journal_of g) in let many = r.sound.groups.count in omega (arith, long, many))

    ran : (z : HasRun state (terms_of state) rules co.cluster.nodes opening co.cluster.groups.items (used_workers co.cluster) h.done new.cluster.groups.items b.returned) × IsGroundOf co.cluster.nodes co.cluster.catalog co.cluster.groups.items (used_workers co.cluster) z.shared_by
        × (new.cluster.retired.items ≡ co.cluster.retired.items ++ retired_by z.lasts)
    ran = h.ran opening (record { retired = retired_nodes co.cluster; environment = refl; sessions = refl; groups = groups_long }) refl

    closed : (z : History) × IsClosed rules run opening z h.done (journals new)
    closed = block_closes state (terms_of state) rules run co.cluster.nodes opening co.cluster.groups.items (used_workers co.cluster) h.done new.cluster.groups.items b.returned ran.0 refl refl (workers_are_free state co.cluster initial entry opening r.sound r.stores refl refl refl)

    retires : AreRetired more (retired_by ran.0.lasts)
    retires = (block_retires_all state (terms_of state) rules co.cluster.nodes opening co.cluster.groups.items (used_workers co.cluster) h.done new.cluster.groups.items b.returned ran.0).0

    environment_kept : environment_from (environment co) more ≡ environment new
    environment_kept =
        block_retires (environment co) more co.cluster.retired.items new.cluster.retired.items (closed_may_retire run opening closed.0 h.done (journals new) closed.1 allowed) (retired_by ran.0.lasts, ran.2, retires) refl
        ∙ (λ i. record { catalog = sym b.keeps.catalog i; settings = sym b.keeps.settings i; retired = retired_nodes new.cluster })

    abbrev eras : AreConsistent rules run [] (environment co) before (journals co)
    eras = record { whole = tt; still = λ g. refl; closed = tt; present = r.consistent }

    apart : AreAnswersApart more
    apart = apart_in_order (length before + 1) more phases is.script

    goes_on : IsConsistent rules run (environment_from (environment co) more) (before ++ more) (journals new)
    goes_on = (block_goes_on rules run [] before opening closed.0 h.done (journals new) eras sessions_are apart closed.1).present

    consistent_beside : IsConsistent rules run (environment new) (before ++ more) (journals new)
    consistent_beside = subst (λ e. IsConsistent rules run e (before ++ more) (journals new)) environment_kept goes_on

    phase : IsPlaced rules run no_era before (environment co) before more (numbers_of h.done) (journals co) (journals new)
    phase = record {
      was = r.consistent;
      phase = block_is_phase rules run 0 (length more) before opening closed.0 h.done (journals new) r.consistent.log.laid sessions_are apart closed.1;
      allowed = allowed;
    }

    distinct : Distinct (numbers_of h.done)
    distinct = (sessions_are_new rules run no_era [] before (environment co) co.cluster.groups.items (length more) co.settings h.done r.consistent sessions_are).distinct

    at_rest : AreAtRest co.cluster.catalog co.cluster.nodes more (journals co) (journals new)
    at_rest = record {
      still = moves_are_over rules run no_era (before ++ more) (environment_from (environment co) more) (before ++ more) (journals new) goes_on;
      used = block_nodes_used rules run no_era before (environment co) before more (numbers_of h.done) (journals co) (journals new) phase;
      placed = λ node some. block_places rules run no_era before (environment co) before more (numbers_of h.done) (journals co) (journals new) phase node;
    }

    all_go_on : AllGoOnBy more (journals co) (journals new)
    all_go_on g low =
        let m = block_movers rules run no_era before (environment co) before more (numbers_of h.done) (journals co) (journals new) phase g low in
        record { more = m.0; all = ap (λ (j : Journal). j.entries) m.1; cuts = elim m.2 [ inl cut ↦ inl cut | inr stays ↦ inr stays.0 ] }

    told_beside : AreToldOf state (length before + 1) before more co.cluster.groups.items new.cluster.groups.items
    told_beside =
        block_tells state (terms_of state) rules co.cluster.nodes opening co.cluster (used_workers co.cluster) h.done new.cluster.groups.items b.returned (length before + 1) before ran.0 r.sound
        (sessions_are_new rules run no_era [] before (environment co) co.cluster.groups.items (length more) co.settings h.done r.consistent sessions_are) phases all_go_on

    stays : StaysSound state more co.cluster new.cluster
    stays =
        block_leaves_cluster state (Ground X) (terms_of state) opening h.done co.cluster new.cluster b.returned ran.0 refl distinct (record { workers = b.workers; retired = ran.2; catalog = b.keeps.catalog; nodes = b.keeps.nodes }) at_rest
        (λ node steady. (
          subst (λ (gs : List (GroupState X)). GroupsAreSteady state node gs) (sym ran.1.groups) steady.groups,
          subst (λ (ws : List (Worker X)). WorkersAreSteady state node ws) (sym ran.1.workers) (taken_all (λ (w : Worker X). AreSteady state node w.stores.items) co.cluster.nodes co.cluster.workers.items steady.workers),
        )) r.sound

    -- what stood before it stands behind it
    pub running_beside : IsRunning state initial entry new after
    running_beside =
        subst (λ (v : List Answered). IsRunning state initial entry new v) (sym h.log)
        (record {
          consistent = subst (λ n. IsConsistent rules (run_of n initial entry) (environment new) (before ++ more) (journals new)) (sym b.keeps.nodes) consistent_beside;
          sound = stays.sound;
          stores = stays.stores.stores entry r.stores;
          accounted =
              subst (λ (c : Contents). AreAccounted state c (before ++ more) new.cluster.groups.items) (sym b.keeps.catalog)
              (block_is_accounted state co.cluster.catalog (length before + 1) before more co.cluster.groups.items new.cluster.groups.items (omega arith) (earlier before r.consistent.log.numbered r.consistent.complete) phases
              (block_names_below state (terms_of state) rules co.cluster.nodes opening co.cluster (used_workers co.cluster) h.done new.cluster.groups.items b.returned ran.0 r.sound) told_beside r.accounted);
          retired = retired_on before more co.cluster.retired.items new.cluster.retired.items (retired_by ran.0.lasts, ran.2, retires) r.retired;
          steady = record {
            names = λ node steady. all_append (λ (a : Answered). NamesNode a.answer node → ⊥) before more (r.steady.names node steady)
                (all_weaker (λ (a : Answered). NamesNoSteady state co.cluster a.answer) (λ (a : Answered). NamesNode a.answer node → ⊥) (λ a none named. none node (r.steady.keeps node steady) named) more stays.names);
            keeps = λ node steady. stays.steady node (r.steady.keeps node steady);
          };
        })

-- ---- the workers that come back

numbers_done : {X : Type 0} (state : X → StoreState) (c : Contents) (nodes : ℕ) (given : Settings) (ones : List SessionDrafts) (done : List Session) → AllZip (IsDone state c nodes given) ones done → numbers_of done ≡ map (λ (one : SessionDrafts). one.session) ones
numbers_done state c nodes given [] [] are = refl
numbers_done state c nodes given [] (s ∷ done) are = absurd are
numbers_done state c nodes given (one ∷ ones) [] are = absurd are
numbers_done state c nodes given (one ∷ ones) (s ∷ done) are = (let more = numbers_done state c nodes given ones done are.1 in λ i. are.0.number i ∷ more i)

-- as many workers come back as went out
pub as_many_back : {X : Type 0} (state : X → StoreState) (c : Contents) (nodes : ℕ) (given : Settings) (ones : List SessionDrafts) (groups closed : List (GroupState X)) (workers returned : List (Worker X)) (before after : List Answered)
    (retired now : List (Retired X)) → HasRunSessions state c nodes given ones groups closed workers returned before after retired now → c.groups ≤ length groups → Distinct (map (λ (one : SessionDrafts). one.session) ones) →
    length returned ≡ length workers
as_many_back {X} state c nodes given ones groups closed workers returned before after retired now h many apart =
    let opening : Opening = record { environment = environment_at c given []; journals = journals_of groups; sessions = numbers_of h.done } in
    let long = length-map groups (λ (g : GroupState X). journal_of g) in
    let ran = h.ran opening (record { retired = []; environment = refl; sessions = refl; groups = omega (arith, long, many) }) refl in
    (block_settles state (terms_of state) rules nodes opening groups workers h.done closed returned ran.0 (subst Distinct (sym (numbers_done state c nodes given ones h.done h.are)) apart)).0

-- there is room for them where they stood
pub room_back : {A : Type 0} (n : ℕ) (old others back : List A) → n ≤ length old → others ≡ drop n old → length back ≡ n → length others + length back ≡ length old
room_back n old others back low is long = (let left = ap (λ v. length v) is ∙ length-drop n old in omega (arith, left, long, low))

-- ---- nothing was done

-- where all is as it was, what stood stands
pub running_same : {X : Type 0} (state : X → StoreState) (initial : Settings) (entry : List (Worker X)) (co new : Coordinator X) (before after : List Answered) → IsAsBefore co new before after → IsRunning state initial entry co before → IsRunning state initial entry new before
running_same state initial entry co new before after same r = record {
  consistent = rw (same.keeps.nodes, same.keeps.catalog, same.retired, same.keeps.settings, same.groups) r.consistent;
  sound = record {
    groups = rw (same.keeps.catalog, same.keeps.nodes, same.groups) r.sound.groups;
    whole = rw same.keeps.catalog r.sound.whole;
    ids = rw same.keeps.catalog r.sound.ids;
    some = rw same.keeps.nodes r.sound.some;
    few = rw same.keeps.nodes r.sound.few;
    enough = rw (same.workers, same.keeps.nodes) r.sound.enough;
    workers = (r.sound.workers.0, rw (same.keeps.nodes, same.retired, same.workers, same.groups) r.sound.workers.1);
    retired = rw same.retired r.sound.retired;
  };
  stores = rw (same.keeps.nodes, same.retired, same.workers, same.groups) r.stores;
  accounted = rw (same.keeps.catalog, same.groups) r.accounted;
  retired = rw same.retired r.retired;
  steady = record {
    names = r.steady.names;
    keeps = λ node steady. (let k = r.steady.keeps node steady in record { groups = rw same.groups k.groups; workers = rw same.workers k.workers; retired = rw same.retired k.retired });
  };
}

-- what a call did that ran the sessions of a block side by side
pub runs_beside : {X : Type 0} (state : X → StoreState) (co new : Coordinator X) (before after : List Answered) (ps : List Placed) (ones : List SessionDrafts) → IsBlockAt (length before) ps → HaveDrafts co.cluster.catalog ps ones →
    RunsBeside state ones co new before after → RunsPhase state ps co new before after
runs_beside state co new before after ps ones block drafts b = record {
  more = answers_of b.ran.done;
  log = b.ran.log;
  answers = beside_answers state co new before after ps ones block drafts b;
  running = λ initial entry r. running_beside state co new before after ps ones block drafts b initial entry r;
  nodes = b.keeps.nodes;
}

pub runs_nothing : {X : Type 0} (state : X → StoreState) (co new : Coordinator X) (before after : List Answered) → IsAsBefore co new before after → RunsNothing state co new before after
runs_nothing state co new before after same = record {
  log = same.log;
  running = λ initial entry r. subst (IsRunning state initial entry new) (sym same.log) (running_same state initial entry co new before after same r);
  nodes = same.keeps.nodes;
}

-- ---- a coordinator of which nothing but room has changed

module _ {X : Type 0} (state : X → StoreState) (co mid : Coordinator X) (before : List Answered) (same : IsAsBefore co mid before before) where
  pub runs_behind : (new : Coordinator X) (after : List Answered) (ps : List Placed) → RunsPhase state ps mid new before after → RunsPhase state ps co new before after
  runs_behind new after ps h = record {
    more = h.more;
    log = h.log;
    answers = subst (λ (c : Contents). AllZip (IsAnswerTo c.tables) (by_session ps) h.more) same.keeps.catalog h.answers;
    running = λ initial entry r. h.running initial entry (running_same state initial entry co mid before before same r);
    nodes = h.nodes ∙ same.keeps.nodes;
  }

  pub nothing_behind : (new : Coordinator X) (after : List Answered) → RunsNothing state mid new before after → RunsNothing state co new before after
  nothing_behind new after h = record {
    log = h.log;
    running = λ initial entry r. h.running initial entry (running_same state initial entry co mid before before same r);
    nodes = h.nodes ∙ same.keeps.nodes;
  }

module _ {X T E : Type 0} (state : X → StoreState) (co mid new : Coordinator X) (before after : List Answered) (ps : List Placed) (same : IsAsBefore co mid before before) where
  -- whether it ran them or not
  pub ran_beside : (ones : List SessionDrafts) → IsBlockAt (length before) ps → HaveDrafts mid.cluster.catalog ps ones → (r : Result T E) → OnOk r (RunsBeside state ones mid new before after) → OnOk r (RunsPhase state ps co new before after)
  ran_beside ones block drafts (Ok t) h = runs_behind state co mid before same new after ps (runs_beside state mid new before after ps ones block drafts h)
  ran_beside ones block drafts (Err e) h = tt

  pub none_beside : (r : Result T E) → OnErr r (IsAsBefore mid new before after) → OnErr r (RunsNothing state co new before after)
  none_beside (Ok t) h = tt
  none_beside (Err e) h = nothing_behind state co mid before same new after (runs_nothing state mid new before after h)

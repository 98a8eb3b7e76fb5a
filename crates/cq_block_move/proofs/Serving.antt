-- The move of a shard serves as a statement of its session's block.
use Rattle.std.proofs.Common.{◌≡◌, inl, inr, ℕ, ◌+◌, ◌-◌, ◌<◌, ◌≤◌, true, false, List, [], ◌∷◌, ◌++◌, length, refl, sym, ap, ◌∙◌, subst, arith, Option, Some, None, slice_get}
use Rattle.std.specs.Prelude.{⊤, Result, Ok, Err}
use Rattle.std.proofs.lemmas.Bool.Decides.{eqb_tells}
use Rattle.std.proofs.lemmas.List.{append-nil}
use Rattle.std.proofs.lemmas.Option.{same_Some}
use Rattle.std.specs.List.{AllByRecursion}
use Rattle.atomic_table.specs.Seated.{TableId}
use Rattle.cq_tree.specs.declared.failure.StoreFailure.{StoreFailure}
use Rattle.cq_tree.specs.declared.journal.Who.{Who}
use Rattle.cq_tree.specs.declared.statement.Statement.TheVariants.{Move}
use Rattle.cq_catalog.specs.Contents.{Contents}
use Rattle.cq_catalog.specs.Placement.{group_of_shard}
use Rattle.cq_answer.specs.declared.answer.Answer.{Answer}
use Rattle.cq_answer.specs.declared.answer.Answer.TheVariants as answer
use Rattle.cq_answer.specs.declared.answered.Answered.{Answered}
use Rattle.cq_answer.specs.declared.fault.Fault.{Fault}
use Rattle.cq_answer.specs.declared.fault.Fault.TheVariants as fault
use Rattle.cq_history.specs.Phases.{MayBeInBlock, who_of}
use Rattle.cq_history.specs.Refusals.{rules}
use Rattle.cq_history.specs.Room.{stores_moved}
use Rattle.cq_store.specs.Stores.{StoreState}
use Rattle.cq_group.specs.declared.start.MoveWhy.{MoveWhy}
use Rattle.cq_group.specs.declared.start.MoveWhy.TheVariants as why
use Rattle.cq_group.specs.Groups.{Outline}
use Rattle.cq_reach.proofs.Growth.{got, got_below}
use Rattle.cq_move.specs.declared.outcome.MoveReport.{MoveReport}
use Rattle.cq_move.specs.Outcomes.{EndsMove as EndsBy}
use Rattle.cq_cluster.specs.declared.retired.Retired.{Retired}
use Rattle.cq_cluster.specs.Accounts.{Retires}
use Rattle.cq_cluster.specs.Moving.{Loses, fault_told, move_answer}
use Rattle.cq_shared.specs.declared.errand.Errand.{Errand}
use Rattle.cq_shared.specs.declared.note.Note.TheVariants as note
use Rattle.cq_shared.specs.declared.worker.Stock.{Stock}
use Rattle.cq_shared.specs.Errands.{WorkerPass, IsRuledAt}
use Rattle.cq_shared.specs.Quiet.{Blames}
use Rattle.cq_shared.specs.Seen.{Pass}
use Rattle.cq_shared.specs.Stocks.{give_notes}
use Rattle.cq_shared.specs.Terms.{Terms}
use Rattle.cq_desk.specs.Moving.{AreKept, HasFailedBy}
use Rattle.cq_block_laws.specs.Serving.{Opening}
use Rattle.cq_block_laws.specs.Sessions.{AreUnder, Hands, IsSpared, PassGoesOn, PassesGoOn, ServesOne}
use Rattle.cq_block_laws.specs.Settling.{lost_in}
use Rattle.cq_move_laws.specs.Notes.{at_node}
use Rattle.cq_block_move.specs.Benches.{AreUnsent, BenchesSend, RetiresOn, SteadyOn}
use Rattle.cq_block_move.specs.Hands.{AreHands, IsMoveOf, IsOpenedOver}
use Rattle.cq_block_move.specs.Moves.{KeepsGroup, MovesGroup, MovesIn, MovesShard, Reaches, StaysAway, TakesNone, TakesStores, exchanging}
use Rattle.cq_block_move.proofs.Answering.{IsAnsweredBy, ended_answered, exchanged, memory_answered, moved_answered, node_answered, nothing_answered, refused_answered, room_answered, unknown_answered}
use Rattle.cq_block_move.proofs.Sending.{send_none}
use Rattle.cq_block_move.proofs.Settling.{SettleWith, done_settles, fresh_by, kept_settles, none_settles, retires_by, settles_by}

-- ---- passes

module _ {X C : Type 0} where
  same_go_on : (old new : List (Pass X C)) → new ≡ old → PassesGoOn old new
  same_go_on old new same = subst (PassesGoOn old) (sym same) (record {
    count = refl;
    each = λ at p q e f. subst (PassGoesOn p) (same_Some p q (sym e ∙ f)) (record { same = (refl, refl, refl, refl, refl); notes = []; mine = sym (append-nil p.place.me.0.mine) });
  })

  -- a call for one group leaves the passes to others
  kept_go_on : (group : ℕ) (old new : List (Pass X C)) → AreKept group old new → PassesGoOn old new
  kept_go_on group old new keeps = record {
    count = keeps.count;
    each = λ at p q e f. elim (eqb_tells at group) [
      | inl y ↦
          let on = keeps.here p q (subst (λ k. slice_get old k ≡ Some p) y.1 e) (subst (λ k. slice_get new k ≡ Some q) y.1 f) in
          record { same = on.same; notes = on.notes; mine = on.mine }
      | inr z ↦ subst (PassGoesOn p) (same_Some p q (sym e ∙ (sym (keeps.others at z.1) ∙ f))) (record { same = (refl, refl, refl, refl, refl); notes = []; mine = sym (append-nil p.place.me.0.mine) })
    ];
  }

  benches_go_on : (ours : ℕ → List Errand) (old new : List (WorkerPass X C)) → BenchesSend ours old new → PassesGoOn old new
  benches_go_on ours old new sends = record { count = sends.count; each = λ at p q e f. let s = sends.each at p q e f in record { same = s.same; notes = ours at; mine = s.mine } }

  -- the rules stay, by which all stores of a node are steady
  steady_then : (terms : C → Terms) (rule : C) (node : ℕ) (ours : ℕ → List Errand) (old mid : List (WorkerPass X C)) → ((at : ℕ) (p : WorkerPass X C) → slice_get old at ≡ Some p → IsRuledAt p.place rule) → BenchesSend ours old mid → (k : ℕ) → (terms rule).steady k →
      SteadyOn terms node mid k
  steady_then terms rule node ours old mid under sends k steady q e d ruled =
      let low = got_below mid (node - 1) q e in
      let long = sends.count in
      let p = got old (node - 1) (omega (arith, low, long)) in
      let was = under (node - 1) p.0 p.1 in
      let s = sends.each (node - 1) p.0 q p.1 e in
      let stock : was.0 ≡ ruled.0 = same_Some was.0 ruled.0 (sym was.1 ∙ (sym s.same.2 ∙ ruled.1)) in
      let one : rule ≡ d = sym was.2 ∙ (ap (λ (v : Stock X C). v.rules.value) stock ∙ ruled.2) in
      subst (λ (v : C). (terms v).steady k) one steady

-- ---- faults

abbrev IsNoWorker : Fault → Type 0
IsNoWorker (fault.Worker failure) = ⊥
IsNoWorker f = ⊤

abbrev fault_in : Answer → Fault
fault_in (answer.Failed f) = f
fault_in a = fault.Memory

no_worker : (ans : Answer) (f : Fault) (failure : StoreFailure) → ans ≡ answer.Failed f → ans ≡ answer.Failed (fault.Worker failure) → IsNoWorker f → ⊥
no_worker ans f failure is e other = subst IsNoWorker (ap fault_in (sym is ∙ e)) other

-- a move that began blames no store of the group
ended_other : (w : MoveWhy) → IsNoWorker (fault_told true w)
ended_other (why.Moving by) = tt
ended_other (why.NotThere node) = tt
ended_other (why.SameNode node) = tt
ended_other (why.Worker failure) = tt
ended_other why.Memory = tt

-- by one that didn't begin no store is retired, and by one that did, one of the node to which it went
refused_on : (w : MoveWhy) (to k : ℕ) → RetiresOn k (fault_told false w) → k ≡ to
refused_on (why.Moving by) to k on = absurd on
refused_on (why.NotThere node) to k on = absurd on
refused_on (why.SameNode node) to k on = absurd on
refused_on (why.Worker failure) to k on = absurd on
refused_on why.Memory to k on = absurd on

ended_on : {X : Type 0} (state : X → StoreState) (os : List Outline) (to : ℕ) (given back : List X) (w : MoveWhy) → EndsBy state os to w given back → (k : ℕ) → RetiresOn k (fault_told true w) → k ≡ to
ended_on state os to given back (why.Moving by) h k on = absurd on
ended_on state os to given back (why.NotThere node) h k on = absurd on
ended_on state os to given back (why.SameNode node) h k on = absurd on
ended_on state os to given back (why.Worker failure) h k on = sym on ∙ h.there
ended_on state os to given back why.Memory h k on = absurd on

told_worker : (f failure : StoreFailure) → fault.Worker f ≡ fault.Worker failure → f ≡ failure
told_worker f failure e = cc

-- where one didn't begin since a store of the group failed, that is noted
refused_blames : {X C : Type 0} (who : Who) (group : ℕ) (failure : StoreFailure) (old new : List (Pass X C)) (w : MoveWhy) → HasFailedBy who group w old new → fault_told false w ≡ fault.Worker failure → Blames who failure old new
refused_blames who group failure old new (why.Moving by) h e = absurd (cc e)
refused_blames who group failure old new (why.NotThere node) h e = absurd (cc e)
refused_blames who group failure old new (why.SameNode node) h e = absurd (cc e)
refused_blames who group failure old new (why.Worker f) h e = record {
  group = group;
  noted = record { before = h.before; after = h.after; was = h.was; is = h.is; holds = ([], h.holds ∙ λ i. sym (append-nil h.before.place.me.0.mine) i ++ note.Failed who (told_worker f failure e i) ∷ []) };
}
refused_blames who group failure old new why.Memory h e = absurd (cc e)

-- ---- a statement

module _ {X C : Type 0} (state : X → StoreState) (terms : C → Terms) (nodes : ℕ) (cells stalls : List TableId) (o : Opening) (a : Answered) (shard from to : ℕ) (bound : a.bound ≡ Some (Move shard from to))
    (opened : o.environment.catalog.groups ≤ length o.journals) (old : Hands X C) (hands : AreHands state terms o.environment.catalog nodes cells stalls o.sessions a.session old) where
  abbrev c : Contents
  c = o.environment.catalog

  abbrev who : Who
  who = who_of a

  abbrev Answers : Hands X C → Type 0
  Answers new = IsAnsweredBy state terms nodes cells stalls o a shard from to bound opened old hands new

  abbrev Serves : Hands X C → Type 0
  Serves new = ServesOne state terms rules nodes o a old new

  -- what a statement that failed leaves
  module _ (new : Hands X C) (f : Fault) (is : a.answer ≡ answer.Failed f) (gone : ℕ) (loses : Loses state who gone old.retired new.retired f) where
    serves_failed : Answers new → (ours : ℕ → List Errand) → BenchesSend ours old.benches new.benches → PassesGoOn old.passes new.passes → ((at : ℕ) → SettleWith c (at + 1) a (ours at)) →
        ((failure : StoreFailure) → f ≡ fault.Worker failure → Blames who failure old.passes new.passes) → ((rule : C) → AreUnder rule old → (k : ℕ) → (terms rule).steady k → RetiresOn k f → ⊥) → Serves new
    serves_failed answered ours sends goes settle blames spared = record {
      answered = answered;
      allowed = subst MayBeInBlock (sym bound) tt;
      goes_on = goes;
      benches = benches_go_on ours old.benches new.benches sends;
      settles = λ at p q e g. settles_by o (at + 1) a p q (ours at) (sends.each at p q e g) (settle at);
      blames = λ failure e. blames failure (ap fault_in (sym is ∙ e));
      retires = subst (λ (v : Answer). Retires who v old.retired new.retired) (sym is) (retires_by state who gone old.retired new.retired f loses);
      fresh = λ rule under. fresh_by state terms rule who gone old.retired new.retired f loses (spared rule under);
    }

  -- one that did nothing
  still_failed : (f : Fault) → a.answer ≡ answer.Failed f → Loses state who 0 old.retired old.retired f → IsNoWorker f → ((k : ℕ) → lost_in k (answer.Failed f) ≡ 0) → ((k : ℕ) → RetiresOn k f → ⊥) → Answers old → Serves old
  still_failed f is loses other keeps none answered =
      serves_failed old f is 0 loses answered (λ at. []) (send_none old.benches) (same_go_on old.passes old.passes refl) (λ at. none_settles c a f (at + 1) is (keeps (at + 1)))
      (λ failure e. absurd (subst IsNoWorker e other)) (λ rule under k steady. none k)

  -- memory ran out before the move
  pub serves_nothing : a.answer ≡ answer.Failed fault.Memory → Serves old
  serves_nothing is = still_failed fault.Memory is (refl, refl) tt (λ k. refl) (λ k on. absurd on) (by_group (group_of_shard c shard) refl)
    where
      by_group : (g : Option ℕ) → group_of_shard c shard ≡ g → Answers old
      by_group None e = unknown_answered state terms nodes cells stalls o a shard from to bound opened old hands e (inr is)
      by_group (Some group) e = nothing_answered state terms nodes cells stalls o a shard from to bound opened old hands group e is

  module _ (new : Hands X C) (then : AreHands state terms c nodes cells stalls o.sessions a.session new) (unsent : AreUnsent who old.benches) where
    module _ (group : ℕ) (is : group_of_shard c shard ≡ Some group) where
      abbrev n : ℕ
      n = stores_moved c (Some group)

      -- ---- it came to no group

      module _ (same : (new.passes ≡ old.passes) × (new.retired ≡ old.retired)) (low : 0 < to) (high : to ≤ nodes) where
        took_none : (f : Fault) → TakesNone who n to f old.benches new.benches → a.answer ≡ answer.Failed f → Serves new
        took_none (fault.NoRoom node free needed) t ans =
            let told : a.answer ≡ answer.Failed (fault.NoRoom to free n) = ans ∙ (λ i. answer.Failed (fault.NoRoom (t.0 i) free (t.1 i))) in
            serves_failed new (fault.NoRoom to free n) told 0 (refl, same.1)
            (room_answered state terms nodes cells stalls o a shard from to bound opened old hands group is new same.0 low high free t.2 unsent t.3 t.4 told)
            (λ at. []) t.4 (same_go_on old.passes new.passes same.0) (λ at. none_settles c a (fault.NoRoom to free n) (at + 1) told refl)
            (λ failure e. absurd (cc e)) (λ rule under k steady on. absurd on)
        took_none fault.Memory t ans = elim t [
          | inl s ↦
              serves_failed new fault.Memory ans 0 (refl, same.1) (memory_answered state terms nodes cells stalls o a shard from to bound opened old hands group is new same.0 low high (inl s) ans)
              (λ at. []) s (same_go_on old.passes new.passes same.0) (λ at. none_settles c a fault.Memory (at + 1) ans refl) (λ failure e. absurd (cc e)) (λ rule under k steady on. absurd on)
          | inr s ↦
              serves_failed new fault.Memory ans 0 (refl, same.1) (memory_answered state terms nodes cells stalls o a shard from to bound opened old hands group is new same.0 low high (inr s) ans)
              (exchanging who n to s.0 n to) s.1 (same_go_on old.passes new.passes same.0)
              (kept_settles state c a who n to s.0 n 0 old.retired new.retired fault.Memory ans (omega arith) (refl, same.1) (λ k on. absurd on)) (λ failure e. absurd (cc e)) (λ rule under k steady on. absurd on)
        ]
        took_none f t ans = absurd t

      away : (f : Fault) → StaysAway state c nodes who group to f old new → a.answer ≡ answer.Failed f → Serves new
      away f s ans = elim s.why [
        | inl h ↦
            let told : a.answer ≡ answer.Failed (fault.NoNode to) = ans ∙ ap answer.Failed h.0 in
            subst Serves (sym h.2) (still_failed (fault.NoNode to) told (refl, refl) tt (λ k. refl) (λ k on. absurd on) (node_answered state terms nodes cells stalls o a shard from to bound opened old hands group is h.1 told))
        | inr h ↦ took_none s.same h.0 h.1 f h.2 ans
      ]

      -- ---- it came to its group

      module _ (low : 0 < to) (high : to ≤ nodes) (mid : Hands X C) (same : (mid.passes ≡ old.passes) × (mid.retired ≡ old.retired)) (stores : List X) (takes : TakesStores state terms who nodes n from to stores old.benches mid.benches)
          (keeps : AreKept group old.passes new.passes) where
        sends_all : (given node : ℕ) → BenchesSend (at_node node (give_notes who given)) mid.benches new.benches → BenchesSend (exchanging who n to takes.room given node) old.benches new.benches
        sends_all = exchanged state terms nodes cells stalls o a shard from to bound opened old hands group is mid new then unsent low high same.0 stores takes keeps

        moved : (r : MoveReport) → MovesGroup o.sessions who group from to n r mid new → a.answer ≡ move_answer (Ok r) → Serves new
        moved r m ans =
            let sends = sends_all n from m.sends in
            let kept : new.retired ≡ old.retired = m.retired ∙ same.1 in
            record {
              answered = moved_answered state terms nodes cells stalls o a shard from to bound opened old hands group is mid new then unsent low high same.0 stores takes keeps r m ans;
              allowed = subst MayBeInBlock (sym bound) tt;
              goes_on = kept_go_on group old.passes new.passes keeps;
              benches = benches_go_on (exchanging who n to takes.room n from) old.benches new.benches sends;
              settles = λ at p q e f. settles_by o (at + 1) a p q (exchanging who n to takes.room n from at) (sends.each at p q e f) (done_settles c a shard from to group takes.room who r bound ans is at);
              blames = λ failure e. absurd (let bad : move_answer (Ok r) ≡ answer.Failed (fault.Worker failure) = sym ans ∙ e in cc bad);
              retires = subst (λ (v : Answer). Retires who v old.retired new.retired) (sym ans) kept;
              fresh = λ rule under all. subst (AllByRecursion (IsSpared state terms rule)) (sym kept) all;
            }

        kept : (f : Fault) → KeepsGroup state terms o.sessions who group from to n f mid new → a.answer ≡ answer.Failed f → Serves new
        kept f k ans =
            let sends = sends_all k.given to k.sends in
            let loses : Loses state who k.lost old.retired new.retired f = subst (λ (l : List (Retired X)). Loses state who k.lost l new.retired f) same.1 k.loses in
            let by : Answers new → ((m : ℕ) → RetiresOn m f → m ≡ to) → ((failure : StoreFailure) → f ≡ fault.Worker failure → Blames who failure old.passes new.passes) → Serves new =
            (λ answered on blames.
            serves_failed new f ans k.lost loses answered (exchanging who n to takes.room k.given to) sends (kept_go_on group old.passes new.passes keeps)
            (kept_settles state c a who n to takes.room k.given k.lost old.retired new.retired f ans k.all loses on) blames
            (λ rule under m steady. k.spared m (steady_then terms rule to _ old.benches mid.benches under.benches takes.sends m steady))) in
            elim k.why [
              | inl r ↦
                  by (refused_answered state terms nodes cells stalls o a shard from to bound opened old hands group is mid new then unsent low high same.0 stores takes keeps f k.given k.lost r k.all k.sends k.loses ans)
                  (λ m on. refused_on r.why to m (subst (RetiresOn m) r.fault on))
                  (λ failure e. subst (λ (ps : List (Pass X C)). Blames who failure ps new.passes) same.0 (refused_blames who group failure mid.passes new.passes r.why r.failed (sym r.fault ∙ e)))
              | inr e ↦
                  by (ended_answered state terms nodes cells stalls o a shard from to bound opened old hands group is mid new then unsent low high same.0 stores takes keeps f k.given k.lost e k.all k.sends ans)
                  (λ m on. ended_on state _ to e.given e.ended.stores.items e.ended.why e.stopped.why m (subst (RetiresOn m) e.fault on))
                  (λ failure d. absurd (subst IsNoWorker (sym e.fault ∙ d) (ended_other e.ended.why)))
            ]

      comes : (result : Result MoveReport Fault) → Reaches state terms c nodes o.sessions who group from to result old new → a.answer ≡ move_answer result → Serves new
      comes (Ok r) h ans = moved h.low h.high h.mid h.same h.stores h.takes h.keeps r h.comes ans
      comes (Err f) h ans = kept h.low h.high h.mid h.same h.stores h.takes h.keeps f h.comes ans

    moves_in : (result : Result MoveReport Fault) → MovesIn state terms c nodes o.sessions who shard from to result old new → a.answer ≡ move_answer result → Serves new
    moves_in (Ok r) m ans = elim m.does [ inl h ↦ absurd h | inr h ↦ comes m.group m.is (Ok r) h ans ]
    moves_in (Err f) m ans = elim m.does [ inl h ↦ away m.group m.is f h ans | inr h ↦ comes m.group m.is (Err f) h ans ]

    -- what the move of a shard came to is a statement's service
    pub serves_move : (result : Result MoveReport Fault) → MovesShard state terms c nodes o.sessions who shard from to result old new → a.answer ≡ move_answer result → Serves new
    serves_move result m ans = elim m [
      | inl h ↦
          let told : a.answer ≡ answer.Failed (fault.NoShard shard) = ans ∙ ap move_answer h.1 in
          subst Serves (sym h.2) (still_failed (fault.NoShard shard) told (refl, refl) tt (λ k. refl) (λ k on. absurd on)
          (unknown_answered state terms nodes cells stalls o a shard from to bound opened old hands h.0 (inl told)))
      | inr h ↦ moves_in result h ans
    ]

-- ---- a statement of a block over a catalogue

module _ {X C : Type 0} (state : X → StoreState) (terms : C → Terms) (c : Contents) (nodes : ℕ) (cells stalls : List TableId) (sessions : List ℕ) (who : Who) (shard from to : ℕ) (ans : Answer) (o : Opening) (a : Answered) (opened : IsOpenedOver c sessions o)
    (is : IsMoveOf who shard from to ans a) where
  abbrev HandsOver : Contents × List ℕ × ℕ → Hands X C → Type 0
  HandsOver v h = AreHands state terms v.0 nodes cells stalls v.1 v.2 h

  over : (h : Hands X C) → AreHands state terms c nodes cells stalls sessions who.session h → AreHands state terms o.environment.catalog nodes cells stalls o.sessions a.session h
  over h hands = subst (λ (v : Contents × List ℕ × ℕ). HandsOver v h) (λ i. (sym opened.catalog i, sym opened.sessions i, (sym is.by i).session)) hands

  few : o.environment.catalog.groups ≤ length o.journals
  few = let groups = opened.groups in let same = ap (λ (v : Contents). v.groups) opened.catalog in omega (arith, groups, same)

  pub statement_failed : (old : Hands X C) → AreHands state terms c nodes cells stalls sessions who.session old → ans ≡ answer.Failed fault.Memory → ServesOne state terms rules nodes o a old old
  statement_failed old hands failed = serves_nothing state terms nodes cells stalls o a shard from to is.bound few old (over old hands) (is.answer ∙ failed)

  pub statement_moved : (old new : Hands X C) → AreHands state terms c nodes cells stalls sessions who.session old → AreHands state terms c nodes cells stalls sessions who.session new → AreUnsent who old.benches → (result : Result MoveReport Fault) →
      MovesShard state terms c nodes sessions who shard from to result old new → ans ≡ move_answer result → ServesOne state terms rules nodes o a old new
  statement_moved old new hands then unsent result moves told =
      serves_move state terms nodes cells stalls o a shard from to is.bound few old (over old hands) new (over new then) (subst (λ (w : Who). AreUnsent w old.benches) (sym is.by) unsent) result
      (subst (λ (v : Contents × List ℕ × Who). MovesShard state terms v.0 nodes v.1 v.2 shard from to result old new) (λ i. (sym opened.catalog i, sym opened.sessions i, sym is.by i)) moves)
      (is.answer ∙ told)

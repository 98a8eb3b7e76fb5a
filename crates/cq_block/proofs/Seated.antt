-- The sessions of a block, from its opening to its end.
use Rattle.std.proofs.Common.{◌≡◌, ◌<◌, ◌≤◌, ℕ, zero, suc, List, [], ◌∷◌, ◌++◌, length, map, refl, sym, ◌∙◌, ap, subst, arith, length-append}
use Rattle.std.specs.Prelude.{⊤, false, All, slice_index_or, vec_len, vec_capacity}
use Rattle.std.specs.List.{AllZip, AllByRecursion, flat_map}
use Rattle.atomic_table.specs.Seated.{TableId}
use Rattle.cq_tree.specs.declared.journal.Who.{Who}
use Rattle.cq_catalog.specs.Contents.{Contents}
use Rattle.cq_answer.specs.declared.answered.Answered.{Answered}
use Rattle.cq_answer.specs.declared.answered.Settings.{Settings}
use Rattle.cq_store.specs.Stores.{StoreState}
use Rattle.cq_store.specs.declared.worker.Worker.{Worker}
use Rattle.cq_group.specs.declared.group.GroupState.{GroupState}
use Rattle.cq_history.specs.Refusals.{rules}
use Rattle.cq_cell.specs.declared.view.Key.{Key}
use Rattle.cq_cell.specs.Lists.{AllThree}
use Rattle.cq_cell.specs.Many.{IsFirst, IsBack, AllBack, origin_in}
use Rattle.cq_cluster.specs.declared.retired.Retired.{Retired}
use Rattle.cq_shared.specs.declared.content.Shard.{Shard}
use Rattle.cq_shared.specs.declared.worker.Stock.{Stock}
use Rattle.cq_shared.specs.declared.errand.Errand.{Errand}
use Rattle.cq_shared.specs.Blocks.{IsShared, IsStock, AreShared, AreStocked, HaveParted, HaveReturned}
use Rattle.cq_shared.specs.Errands.{WorkerPass}
use Rattle.cq_shared.specs.Seen.{Pass}
use Rattle.cq_desk.specs.Desks.{IsReady}
use Rattle.cq_desk.proofs.First.{ids, first_ready, come_back}
use Rattle.cq_block_laws.specs.Serving.{Opening, sent_for}
use Rattle.cq_block_laws.specs.Closing.{Session, numbers_of, answers_of}
use Rattle.cq_block_laws.specs.Sessions.{Hands, AreServedBy, HasRun, passes_of, benches_of, retired_by}
use Rattle.cq_block_move.specs.Benches.{AreUnsent}
use Rattle.cq_block_move.specs.Hands.{IsPassTo, IsBenchTo, AreReady}
use Rattle.cq_block_move.proofs.First.{stall_ids, benches_first, benches_back}
use Rattle.cq_block.specs.declared.drafts.SessionDrafts.{SessionDrafts}
use Rattle.cq_block.specs.declared.drafts.Draft.{Draft}
use Rattle.cq_block.specs.declared.legality.Ground.{Ground}
use Rattle.cq_block.specs.declared.session.Hands.{Hands as HeldHands}
use Rattle.cq_block.specs.declared.session.Session.{Session as Seat}
use Rattle.cq_block.specs.Ground.{terms_of}
use Rattle.cq_block.specs.Running.{who_in, AreApart, NoneSent, IsDraftIn, IsAnswerTo, AreAnswersTo, IsOpeningFor, MayRun, IsSeated, IsWaiting, HasServed, IsDone, HasRunSessions, hands_of}
use Rattle.cq_block.specs.Seating.{IsPrepared, AreSeated}

-- ---- lists, by places

module _ {A : Type 0} where
  pub all_by_place : (P : A → Type 0) (xs : List A) → AllByRecursion P xs → All P xs
  all_by_place P [] h k d l = absurd (omega arith)
  all_by_place P (x ∷ xs) h zero d l = h.0
  all_by_place P (x ∷ xs) h (suc k) d l = all_by_place P xs h.1 k d (omega arith)

  pub zip_by_place : (R : A → A → Type 0) (xs ys : List A) → length ys ≡ length xs → ((i : ℕ) (d : A) → i < length xs → R (slice_index_or xs i d) (slice_index_or ys i d)) → AllZip R xs ys
  zip_by_place R [] [] l f = tt
  zip_by_place R [] (y ∷ ys) l f = absurd (omega (arith, l))
  zip_by_place R (x ∷ xs) [] l f = absurd (omega (arith, l))
  zip_by_place R (x ∷ xs) (y ∷ ys) l f = (f 0 x (omega arith), zip_by_place R xs ys (omega (arith, l)) (λ i d k. f (suc i) d (omega (arith, k))))

-- ---- as sessions get their passes

-- the passes of a session, to each group and to each worker, as they are given out
pub record AreGiven {X : Type 0} (numbers : List ℕ) (cs : List (TableId × Key (Shard X (Ground X)))) (ks : List (TableId × Key (Stock X (Ground X)))) (n : ℕ) (row : List (Pass X (Ground X))) (bench : List (WorkerPass X (Ground X))) : Type 0 where
  pub groups : AllZip (IsFirst numbers n) cs row
  pub workers : AllZip (IsFirst numbers n) ks bench

-- passes that were just given out have seen no note
first_unsent : {X : Type 0} (numbers : List ℕ) (n : ℕ) (who : Who) (ks : List (TableId × Key (Stock X (Ground X)))) (bench : List (WorkerPass X (Ground X))) → AllZip (IsFirst numbers n) ks bench → AreUnsent who bench
first_unsent numbers n who [] [] f at p e = absurd (cc e)
first_unsent numbers n who [] (q ∷ bench) f at p e = absurd f
first_unsent numbers n who (k ∷ ks) [] f at p e = absurd f
first_unsent {X} numbers n who (k ∷ ks) (q ∷ bench) f zero p e =
    let same : q ≡ p = cc in
    let none : q.place.me.0.news ≡ [] = ap (λ m. m.0.news) f.0.me in
    subst (λ (v : WorkerPass X (Ground X)). AllByRecursion (λ (m : Errand). sent_for who m ≡ false) v.place.me.0.news) same (subst (AllByRecursion (λ (m : Errand). sent_for who m ≡ false)) (sym none) tt)
first_unsent numbers n who (k ∷ ks) (q ∷ bench) f (suc at) p e = first_unsent numbers n who ks bench f.1 at p e

none_sent : {X : Type 0} (drafts : List Draft) (h : HeldHands X) → ((who : Who) → AreUnsent who h.benches.items) → NoneSent drafts h
none_sent [] h f = tt
none_sent (d ∷ drafts) h f = (f (who_in d), none_sent drafts h f)

-- of four lists, by places
abbrev pub AllFour : {A B D E : Type 0} → (A → B → D → E → Type 0) → List A → List B → List D → List E → Type 0
AllFour R [] [] [] [] = ⊤
AllFour R (a ∷ xs) (b ∷ ys) (d ∷ zs) (e ∷ us) = R a b d e × AllFour R xs ys zs us
AllFour R xs ys zs us = ⊥

module _ {X : Type 0} (state : X → StoreState) (c : Contents) (nodes : ℕ) (rule : Ground X) (groups : List (GroupState X)) (workers : List (Worker X)) (may : MayRun state c nodes rule groups workers) (numbers : List ℕ)
    (cs : List (TableId × Key (Shard X (Ground X)))) (roots : List (Pass X (Ground X))) (rows : List (List (Pass X (Ground X)))) (shared : AreShared numbers rule groups cs roots rows)
    (ks : List (TableId × Key (Stock X (Ground X)))) (stalls : List (WorkerPass X (Ground X))) (bench_rows : List (List (WorkerPass X (Ground X)))) (stocked : AreStocked numbers rule workers ks stalls bench_rows) where
  to_each : (n : ℕ) (gs : List (GroupState X)) (zs : List (TableId × Key (Shard X (Ground X)))) (row : List (Pass X (Ground X))) → AllZip (IsShared rule) gs (map origin_in zs) → AllZip (IsFirst numbers n) zs row → AllZip (IsPassTo rule) gs row
  to_each n [] [] [] s f = tt
  to_each n [] [] (p ∷ row) s f = absurd f
  to_each n [] (k ∷ zs) row s f = absurd s
  to_each n (g ∷ gs) [] row s f = absurd s
  to_each n (g ∷ gs) (k ∷ zs) [] s f = absurd f
  to_each n (g ∷ gs) (k ∷ zs) (p ∷ row) s f = (record { shard = k.1.origin.value; origin = ap (λ m. m.0.origin) f.0.me; shared = s.0 }, to_each n gs zs row s.1 f.1)

  to_workers : (n : ℕ) (ws : List (Worker X)) (zs : List (TableId × Key (Stock X (Ground X)))) (row : List (WorkerPass X (Ground X))) → AllZip (IsStock rule) ws (map origin_in zs) → AllZip (IsFirst numbers n) zs row → AllZip (IsBenchTo rule) ws row
  to_workers n [] [] [] s f = tt
  to_workers n [] [] (p ∷ row) s f = absurd f
  to_workers n [] (k ∷ zs) row s f = absurd s
  to_workers n (w ∷ ws) [] row s f = absurd s
  to_workers n (w ∷ ws) (k ∷ zs) [] s f = absurd f
  to_workers n (w ∷ ws) (k ∷ zs) (p ∷ row) s f = (record { stock = k.1.origin.value; origin = ap (λ m. m.0.origin) f.0.me; shared = s.0 }, to_workers n ws zs row s.1 f.1)

  -- a session at its place, with the passes that it was given
  pub record IsAtSeat (one : SessionDrafts) (row : List (Pass X (Ground X))) (bench : List (WorkerPass X (Ground X))) (s : Seat X) : Type 0 where
    pub number : s.number ≡ one.session
    pub drafts : s.drafts ≡ one.drafts
    pub none : s.log.items ≡ []
    pub room : vec_len s.drafts ≤ vec_capacity s.log
    pub nothing : s.hands.retired.items ≡ []
    pub space : vec_len s.drafts ≤ vec_capacity s.hands.retired
    pub passes : s.hands.passes.items ≡ row
    pub benches : s.hands.benches.items ≡ bench
    pub given : AreGiven numbers cs ks one.session row bench
    pub can : AllByRecursion (IsDraftIn c one.session) one.drafts.items
    pub apart : AreApart one.drafts.items

  pub first_seated : (one : SessionDrafts) (row : List (Pass X (Ground X))) (bench : List (WorkerPass X (Ground X))) (s : Seat X) → IsAtSeat one row bench s → IsSeated state c nodes (ids cs) (stall_ids ks) numbers s.number s.hands
  first_seated one row bench s at = record {
    hands = record {
      rule = rule;
      opened = groups;
      workers = workers;
      ground = may.ground;
      to = subst (AllZip (IsPassTo rule) groups) (sym at.passes) (to_each one.session groups cs row (subst (AllZip (IsShared rule) groups) (sym shared.opened.values) shared.are) at.given.groups);
      to_workers = subst (AllZip (IsBenchTo rule) workers) (sym at.benches) (to_workers one.session workers ks bench (subst (AllZip (IsStock rule) workers) (sym stocked.opened.values) stocked.are) at.given.workers);
      passes = subst (λ (v : ℕ × List (Pass X (Ground X))). IsReady state (terms_of state) (ids cs) numbers v.1 v.0) (λ i. (sym at.number i, sym at.passes i))
          (first_ready state (terms_of state) rule numbers groups cs roots rows may.share shared one.session row at.given.groups);
      benches = subst (λ (v : ℕ × List (WorkerPass X (Ground X))). AreReady state (terms_of state) (stall_ids ks) numbers v.0 v.1) (λ i. (sym at.number i, sym at.benches i))
          (benches_first state (terms_of state) rule numbers workers ks stalls bench_rows may.spare stocked one.session bench at.given.workers);
    };
    may = may;
  }

  pub at_seats : (ss : List SessionDrafts) (ps : List (Seat X)) (rs : List (List (Pass X (Ground X)))) (bs : List (List (WorkerPass X (Ground X)))) (ts : List (Seat X)) → AllZip IsPrepared ss ps → AreSeated ps rs bs ts →
      AllZip (λ n row. AllZip (IsFirst numbers n) cs row) (map (λ (one : SessionDrafts). one.session) ss) rs → AllZip (λ n row. AllZip (IsFirst numbers n) ks row) (map (λ (one : SessionDrafts). one.session) ss) bs →
      AllByRecursion (λ (one : SessionDrafts). AllByRecursion (IsDraftIn c one.session) one.drafts.items) ss → AllByRecursion (λ (one : SessionDrafts). AreApart one.drafts.items) ss → AllFour IsAtSeat ss rs bs ts
  at_seats [] [] [] [] [] z t f g d a = tt
  at_seats [] [] [] [] (u ∷ ts) z t f g d a = absurd t
  at_seats [] [] [] (b ∷ bs) ts z t f g d a = absurd t
  at_seats [] [] (r ∷ rs) bs ts z t f g d a = absurd t
  at_seats [] (p ∷ ps) rs bs ts z t f g d a = absurd z
  at_seats (s ∷ ss) [] rs bs ts z t f g d a = absurd z
  at_seats (s ∷ ss) (p ∷ ps) [] bs ts z t f g d a = absurd t
  at_seats (s ∷ ss) (p ∷ ps) (r ∷ rs) [] ts z t f g d a = absurd t
  at_seats (s ∷ ss) (p ∷ ps) (r ∷ rs) (b ∷ bs) [] z t f g d a = absurd t
  at_seats (s ∷ ss) (p ∷ ps) (r ∷ rs) (b ∷ bs) (u ∷ ts) z t f g d a = (
    record {
      number = t.0.number ∙ z.0.number;
      drafts = t.0.drafts ∙ z.0.drafts;
      none = ap (λ l. l.items) t.0.log ∙ z.0.none;
      room = (let low = z.0.room in let long = ap (λ l. vec_len l) t.0.drafts in let wide = ap (λ l. vec_capacity l) t.0.log in omega (arith, low, long, wide));
      nothing = ap (λ l. l.items) t.0.retired ∙ z.0.nothing;
      space = (let low = z.0.space in let long = ap (λ l. vec_len l) t.0.drafts in let wide = ap (λ l. vec_capacity l) t.0.retired in omega (arith, low, long, wide));
      passes = t.0.passes;
      benches = t.0.benches;
      given = record { groups = f.0; workers = g.0 };
      can = d.0;
      apart = a.0;
    },
    at_seats ss ps rs bs ts z.1 t.1 f.1 g.1 d.1 a.1,
  )

  pub seats : (ss : List SessionDrafts) (ps ts : List (Seat X)) → numbers ≡ map (λ (one : SessionDrafts). one.session) ss → AllZip IsPrepared ss ps → AreSeated ps rows bench_rows ts →
      AllByRecursion (λ (one : SessionDrafts). AllByRecursion (IsDraftIn c one.session) one.drafts.items) ss → AllByRecursion (λ (one : SessionDrafts). AreApart one.drafts.items) ss → AllFour IsAtSeat ss rows bench_rows ts
  seats ss ps ts e z t d a =
      at_seats ss ps rows bench_rows ts z t (subst (λ v. AllZip (λ n row. AllZip (IsFirst numbers n) cs row) v rows) e shared.passes) (subst (λ v. AllZip (λ n row. AllZip (IsFirst numbers n) ks row) v bench_rows) e stocked.passes) d a

  pub all_wait : (ss : List SessionDrafts) (rs : List (List (Pass X (Ground X)))) (bs : List (List (WorkerPass X (Ground X)))) (ts : List (Seat X)) → AllFour IsAtSeat ss rs bs ts → AllByRecursion (IsWaiting state c nodes (ids cs) (stall_ids ks) numbers) ts
  all_wait [] [] [] [] h = tt
  all_wait [] [] [] (u ∷ ts) h = absurd h
  all_wait [] [] (b ∷ bs) ts h = absurd h
  all_wait [] (r ∷ rs) bs ts h = absurd h
  all_wait (s ∷ ss) [] bs ts h = absurd h
  all_wait (s ∷ ss) (r ∷ rs) [] ts h = absurd h
  all_wait (s ∷ ss) (r ∷ rs) (b ∷ bs) [] h = absurd h
  all_wait (s ∷ ss) (r ∷ rs) (b ∷ bs) (u ∷ ts) h = (
    record {
      seated = first_seated s r b u h.0;
      drafts = subst (λ n. AllByRecursion (IsDraftIn c n) u.drafts.items) (sym h.0.number) (subst (λ ds. AllByRecursion (IsDraftIn c s.session) ds) (sym (ap (λ v. v.items) h.0.drafts)) h.0.can);
      apart = subst AreApart (sym (ap (λ v. v.items) h.0.drafts)) h.0.apart;
      unsent = none_sent u.drafts.items u.hands (λ who. subst (AreUnsent who) (sym h.0.benches) (first_unsent numbers s.session who ks b h.0.given.workers));
      none = h.0.none;
      room = h.0.room;
      nothing = h.0.nothing;
      space = h.0.space;
    },
    all_wait ss rs bs ts h.1,
  )

  -- ---- as they end

  -- what a session held at first
  abbrev pub first_hands : List (Pass X (Ground X)) → List (WorkerPass X (Ground X)) → Hands X (Ground X)
  first_hands row bench = record { passes = row; benches = bench; retired = [] }

  module _ (settings : Settings) where
    pub record HasEnded (one : SessionDrafts) (row : List (Pass X (Ground X))) (bench : List (WorkerPass X (Ground X))) (s : Seat X) : Type 0 where
      pub number : s.number ≡ one.session
      pub served : (o : Opening) → IsOpeningFor c settings numbers o → AreServedBy state (terms_of state) rules nodes o (first_hands row bench) s.log.items (hands_of s.hands)
      pub answered : AreAnswersTo c settings one.drafts.items s.log.items
      pub passes : IsReady state (terms_of state) (ids cs) numbers s.hands.passes.items s.number
      pub benches : AreReady state (terms_of state) (stall_ids ks) numbers s.number s.hands.benches.items
      pub few : length s.hands.retired.items ≤ length one.drafts.items

    pub all_ended : (ss : List SessionDrafts) (rs : List (List (Pass X (Ground X)))) (bs : List (List (WorkerPass X (Ground X)))) (ts us : List (Seat X)) → AllFour IsAtSeat ss rs bs ts → AllZip (HasServed state c nodes settings (ids cs) (stall_ids ks) numbers) ts us → AllFour HasEnded ss rs bs us
    all_ended [] [] [] [] [] h k = tt
    all_ended [] [] [] [] (u ∷ us) h k = absurd k
    all_ended [] [] [] (t ∷ ts) us h k = absurd h
    all_ended [] [] (b ∷ bs) ts us h k = absurd h
    all_ended [] (r ∷ rs) bs ts us h k = absurd h
    all_ended (s ∷ ss) [] bs ts us h k = absurd h
    all_ended (s ∷ ss) (r ∷ rs) [] ts us h k = absurd h
    all_ended (s ∷ ss) (r ∷ rs) (b ∷ bs) [] us h k = absurd h
    all_ended (s ∷ ss) (r ∷ rs) (b ∷ bs) (t ∷ ts) [] h k = absurd k
    all_ended (s ∷ ss) (r ∷ rs) (b ∷ bs) (t ∷ ts) (u ∷ us) h k = (
      record {
        number = k.0.number ∙ h.0.number;
        served = λ o for. subst (λ v. AreServedBy state (terms_of state) rules nodes o v u.log.items (hands_of u.hands)) (λ i. record { passes = h.0.passes i; benches = h.0.benches i; retired = h.0.nothing i }) (k.0.served o for);
        answered = subst (λ v. AreAnswersTo c settings v u.log.items) (ap (λ v. v.items) h.0.drafts) k.0.answered;
        passes = k.0.seated.hands.passes;
        benches = k.0.seated.hands.benches;
        few = subst (λ v. length u.hands.retired.items ≤ length v) (ap (λ v. v.items) h.0.drafts) k.0.few;
      },
      all_ended ss rs bs ts us h.1 k.1,
    )

    pub ends : (ss : List SessionDrafts) (ps ts us : List (Seat X)) (cells stall_cells : List TableId) → numbers ≡ map (λ (one : SessionDrafts). one.session) ss → AllZip IsPrepared ss ps → AreSeated ps rows bench_rows ts →
        AllByRecursion (λ (one : SessionDrafts). AllByRecursion (IsDraftIn c one.session) one.drafts.items) ss → AllByRecursion (λ (one : SessionDrafts). AreApart one.drafts.items) ss → ids cs ≡ cells → stall_ids ks ≡ stall_cells → AllZip (HasServed state c nodes settings cells stall_cells numbers) ts us → AllFour HasEnded ss rows bench_rows us
    ends ss ps ts us cells stall_cells e z t d a is at h =
        all_ended ss rows bench_rows ts us (seats ss ps ts e z t d a) (subst (λ (v : List TableId × List TableId). AllZip (HasServed state c nodes settings v.0 v.1 numbers) ts us) (λ i. (sym is i, sym at i)) h)

    answers_count : (one : SessionDrafts) (xs : List _) (ys : List Answered) → AllZip (IsAnswerTo c settings) xs ys → length ys ≡ length xs
    answers_count one [] [] h = refl
    answers_count one [] (y ∷ ys) h = absurd h
    answers_count one (x ∷ xs) [] h = absurd h
    answers_count one (x ∷ xs) (y ∷ ys) h = ap suc (answers_count one xs ys h.1)

    -- a session with its answers
    abbrev pub done_of : Seat X → Session
    done_of s = record { number = s.number; answers = s.log.items }

    pub as_many : (ss : List SessionDrafts) (rs : List (List (Pass X (Ground X)))) (bs : List (List (WorkerPass X (Ground X)))) (us : List (Seat X)) → AllFour HasEnded ss rs bs us →
        length (flat_map (λ (s : Seat X). s.log.items) us) ≡ length (flat_map (λ (one : SessionDrafts). one.drafts.items) ss)
    as_many [] [] [] [] h = refl
    as_many [] [] [] (u ∷ us) h = absurd h
    as_many [] [] (b ∷ bs) us h = absurd h
    as_many [] (r ∷ rs) bs us h = absurd h
    as_many (s ∷ ss) [] bs us h = absurd h
    as_many (s ∷ ss) (r ∷ rs) [] us h = absurd h
    as_many (s ∷ ss) (r ∷ rs) (b ∷ bs) [] h = absurd h
    as_many (s ∷ ss) (r ∷ rs) (b ∷ bs) (u ∷ us) h =
        let one = answers_count s s.drafts.items u.log.items h.0.answered in
        let more = as_many ss rs bs us h.1 in
        let p = length-append u.log.items (flat_map (λ (v : Seat X). v.log.items) us) in
        let q = length-append s.drafts.items (flat_map (λ (v : SessionDrafts). v.drafts.items) ss) in
        omega (arith, one, more, p, q)

    -- no session retired more stores than it has statements
    pub few_retired : (ss : List SessionDrafts) (rs : List (List (Pass X (Ground X)))) (bs : List (List (WorkerPass X (Ground X)))) (us : List (Seat X)) → AllFour HasEnded ss rs bs us →
        length (flat_map (λ (s : Seat X). s.hands.retired.items) us) ≤ length (flat_map (λ (one : SessionDrafts). one.drafts.items) ss)
    few_retired [] [] [] [] h = omega arith
    few_retired [] [] [] (u ∷ us) h = absurd h
    few_retired [] [] (b ∷ bs) us h = absurd h
    few_retired [] (r ∷ rs) bs us h = absurd h
    few_retired (s ∷ ss) [] bs us h = absurd h
    few_retired (s ∷ ss) (r ∷ rs) [] us h = absurd h
    few_retired (s ∷ ss) (r ∷ rs) (b ∷ bs) [] h = absurd h
    few_retired (s ∷ ss) (r ∷ rs) (b ∷ bs) (u ∷ us) h =
        let one = h.0.few in
        let more = few_retired ss rs bs us h.1 in
        let p = length-append u.hands.retired.items (flat_map (λ (v : Seat X). v.hands.retired.items) us) in
        let q = length-append s.drafts.items (flat_map (λ (v : SessionDrafts). v.drafts.items) ss) in
        omega (arith, one, more, p, q)

    -- all passes come back
    pub groups_back : (ss : List SessionDrafts) (rs : List (List (Pass X (Ground X)))) (bs : List (List (WorkerPass X (Ground X)))) (us : List (Seat X)) → AllFour HasEnded ss rs bs us →
        AllZip (λ n row. AllZip (IsBack n) cs row) (map (λ (one : SessionDrafts). one.session) ss) (map (λ (s : Seat X). s.hands.passes.items) us)
    groups_back [] [] [] [] h = tt
    groups_back [] [] [] (u ∷ us) h = absurd h
    groups_back [] [] (b ∷ bs) us h = absurd h
    groups_back [] (r ∷ rs) bs us h = absurd h
    groups_back (s ∷ ss) [] bs us h = absurd h
    groups_back (s ∷ ss) (r ∷ rs) [] us h = absurd h
    groups_back (s ∷ ss) (r ∷ rs) (b ∷ bs) [] h = absurd h
    groups_back (s ∷ ss) (r ∷ rs) (b ∷ bs) (u ∷ us) h =
        (subst (λ n. AllZip (IsBack n) cs u.hands.passes.items) h.0.number (come_back state (terms_of state) numbers u.number cs u.hands.passes.items h.0.passes), groups_back ss rs bs us h.1)

    pub workers_back : (ss : List SessionDrafts) (rs : List (List (Pass X (Ground X)))) (bs : List (List (WorkerPass X (Ground X)))) (us : List (Seat X)) → AllFour HasEnded ss rs bs us →
        AllZip (λ n row. AllZip (IsBack n) ks row) (map (λ (one : SessionDrafts). one.session) ss) (map (λ (s : Seat X). s.hands.benches.items) us)
    workers_back [] [] [] [] h = tt
    workers_back [] [] [] (u ∷ us) h = absurd h
    workers_back [] [] (b ∷ bs) us h = absurd h
    workers_back [] (r ∷ rs) bs us h = absurd h
    workers_back (s ∷ ss) [] bs us h = absurd h
    workers_back (s ∷ ss) (r ∷ rs) [] us h = absurd h
    workers_back (s ∷ ss) (r ∷ rs) (b ∷ bs) [] h = absurd h
    workers_back (s ∷ ss) (r ∷ rs) (b ∷ bs) (u ∷ us) h =
        (subst (λ n. AllZip (IsBack n) ks u.hands.benches.items) h.0.number (benches_back state (terms_of state) numbers u.number ks u.hands.benches.items h.0.benches), workers_back ss rs bs us h.1)

    pub all_done : (ss : List SessionDrafts) (rs : List (List (Pass X (Ground X)))) (bs : List (List (WorkerPass X (Ground X)))) (us : List (Seat X)) → AllFour HasEnded ss rs bs us → AllZip (IsDone state c nodes settings) ss (map done_of us)
    all_done [] [] [] [] h = tt
    all_done [] [] [] (u ∷ us) h = absurd h
    all_done [] [] (b ∷ bs) us h = absurd h
    all_done [] (r ∷ rs) bs us h = absurd h
    all_done (s ∷ ss) [] bs us h = absurd h
    all_done (s ∷ ss) (r ∷ rs) [] us h = absurd h
    all_done (s ∷ ss) (r ∷ rs) (b ∷ bs) [] h = absurd h
    all_done (s ∷ ss) (r ∷ rs) (b ∷ bs) (u ∷ us) h = (record { number = h.0.number; answers = h.0.answered }, all_done ss rs bs us h.1)

    pub all_numbers : (ss : List SessionDrafts) (rs : List (List (Pass X (Ground X)))) (bs : List (List (WorkerPass X (Ground X)))) (us : List (Seat X)) → AllFour HasEnded ss rs bs us → numbers_of (map done_of us) ≡ map (λ (one : SessionDrafts). one.session) ss
    all_numbers [] [] [] [] h = refl
    all_numbers [] [] [] (u ∷ us) h = absurd h
    all_numbers [] [] (b ∷ bs) us h = absurd h
    all_numbers [] (r ∷ rs) bs us h = absurd h
    all_numbers (s ∷ ss) [] bs us h = absurd h
    all_numbers (s ∷ ss) (r ∷ rs) [] us h = absurd h
    all_numbers (s ∷ ss) (r ∷ rs) (b ∷ bs) [] h = absurd h
    all_numbers (s ∷ ss) (r ∷ rs) (b ∷ bs) (u ∷ us) h = (let more = all_numbers ss rs bs us h.1 in λ i. h.0.number i ∷ more i)

    -- what the sessions held at first
    abbrev pub all_firsts : List (List (Pass X (Ground X))) → List (List (WorkerPass X (Ground X))) → List (Hands X (Ground X))
    all_firsts [] bs = []
    all_firsts (r ∷ rs) [] = []
    all_firsts (r ∷ rs) (b ∷ bs) = first_hands r b ∷ all_firsts rs bs

    abbrev pub lasts_of : List (Seat X) → List (Hands X (Ground X))
    lasts_of us = map (λ (s : Seat X). hands_of s.hands) us

    pub all_serve : (o : Opening) → IsOpeningFor c settings numbers o → (ss : List SessionDrafts) (rs : List (List (Pass X (Ground X)))) (bs : List (List (WorkerPass X (Ground X)))) (us : List (Seat X)) → AllFour HasEnded ss rs bs us →
        AllThree (λ (s : Session) first last. AreServedBy state (terms_of state) rules nodes o first s.answers last) (map done_of us) (all_firsts rs bs) (lasts_of us)
    all_serve o for [] [] [] [] h = tt
    all_serve o for [] [] [] (u ∷ us) h = absurd h
    all_serve o for [] [] (b ∷ bs) us h = absurd h
    all_serve o for [] (r ∷ rs) bs us h = absurd h
    all_serve o for (s ∷ ss) [] bs us h = absurd h
    all_serve o for (s ∷ ss) (r ∷ rs) [] us h = absurd h
    all_serve o for (s ∷ ss) (r ∷ rs) (b ∷ bs) [] h = absurd h
    all_serve o for (s ∷ ss) (r ∷ rs) (b ∷ bs) (u ∷ us) h = (h.0.served o for, all_serve o for ss rs bs us h.1)

    -- the parts of what they held at first
    record AreFirsts (rs : List (List (Pass X (Ground X)))) (bs : List (List (WorkerPass X (Ground X)))) : Type 0 where
      passes : passes_of (all_firsts rs bs) ≡ rs
      benches : benches_of (all_firsts rs bs) ≡ bs
      none : AllByRecursion (λ (h : Hands X (Ground X)). h.retired ≡ []) (all_firsts rs bs)

    are_firsts : (ss : List SessionDrafts) (rs : List (List (Pass X (Ground X)))) (bs : List (List (WorkerPass X (Ground X)))) (us : List (Seat X)) → AllFour HasEnded ss rs bs us → AreFirsts rs bs
    are_firsts [] [] [] [] h = record { passes = refl; benches = refl; none = tt }
    are_firsts [] [] [] (u ∷ us) h = absurd h
    are_firsts [] [] (b ∷ bs) us h = absurd h
    are_firsts [] (r ∷ rs) bs us h = absurd h
    are_firsts (s ∷ ss) [] bs us h = absurd h
    are_firsts (s ∷ ss) (r ∷ rs) [] us h = absurd h
    are_firsts (s ∷ ss) (r ∷ rs) (b ∷ bs) [] h = absurd h
    are_firsts (s ∷ ss) (r ∷ rs) (b ∷ bs) (u ∷ us) h =
        (let more = are_firsts ss rs bs us h.1 in record { passes = ap (λ v. r ∷ v) more.passes; benches = ap (λ v. b ∷ v) more.benches; none = (refl, more.none) })

    passes_last : (us : List (Seat X)) → passes_of (lasts_of us) ≡ map (λ (s : Seat X). s.hands.passes.items) us
    passes_last [] = refl
    passes_last (u ∷ us) = ap (λ v. u.hands.passes.items ∷ v) (passes_last us)

    benches_last : (us : List (Seat X)) → benches_of (lasts_of us) ≡ map (λ (s : Seat X). s.hands.benches.items) us
    benches_last [] = refl
    benches_last (u ∷ us) = ap (λ v. u.hands.benches.items ∷ v) (benches_last us)

    retired_last : (us : List (Seat X)) → flat_map (λ (s : Seat X). s.hands.retired.items) us ≡ retired_by (lasts_of us)
    retired_last [] = refl
    retired_last (u ∷ us) = ap (λ v. u.hands.retired.items ++ v) (retired_last us)

    all_answers : (us : List (Seat X)) → flat_map (λ (s : Seat X). s.log.items) us ≡ answers_of (map done_of us)
    all_answers [] = refl
    all_answers (u ∷ us) = ap (λ v. u.log.items ++ v) (all_answers us)

    -- the sessions have run
    module _ (ss : List SessionDrafts) (us : List (Seat X)) (e : numbers ≡ map (λ (one : SessionDrafts). one.session) ss) (h : AllFour HasEnded ss rows bench_rows us) where
      pub passes_back : (lasts : List (List (Pass X (Ground X)))) → lasts ≡ map (λ (s : Seat X). s.hands.passes.items) us → AllBack cs numbers lasts
      passes_back lasts is = subst (λ (v : List ℕ × List (List (Pass X (Ground X)))). AllBack cs v.0 v.1) (λ i. (sym e i, sym is i)) (groups_back ss rows bench_rows us h)

      pub all_benches_back : (lasts : List (List (WorkerPass X (Ground X)))) → lasts ≡ map (λ (s : Seat X). s.hands.benches.items) us → AllBack ks numbers lasts
      all_benches_back lasts is = subst (λ (v : List ℕ × List (List (WorkerPass X (Ground X)))). AllBack ks v.0 v.1) (λ i. (sym e i, sym is i)) (workers_back ss rows bench_rows us h)

      pub has_run : (lasts : List (List (Pass X (Ground X)))) (bench_lasts : List (List (WorkerPass X (Ground X)))) → lasts ≡ map (λ (s : Seat X). s.hands.passes.items) us → bench_lasts ≡ map (λ (s : Seat X). s.hands.benches.items) us →
          (closed : List (GroupState X)) (returned : List (Worker X)) → HaveParted state (terms_of state) cs closed lasts → HaveReturned state (terms_of state) ks returned bench_lasts →
          (before after : List Answered) → after ≡ before ++ flat_map (λ (s : Seat X). s.log.items) us → (retired now : List (Retired X)) → now ≡ retired ++ flat_map (λ (s : Seat X). s.hands.retired.items) us →
          HasRunSessions state c nodes settings ss groups closed workers returned before after retired now
      has_run lasts bench_lasts is at closed returned parted back before after log retired now broken = record {
        done = map done_of us;
        are = all_done ss rows bench_rows us h;
        log = log ∙ ap (λ v. before ++ v) (all_answers us);
        ran = λ o for js.
            let same : numbers_of (map done_of us) ≡ numbers = all_numbers ss rows bench_rows us h ∙ sym e in
            let told : o.sessions ≡ numbers = for.sessions ∙ same in
            let firsts = are_firsts ss rows bench_rows us h in (
              record {
                shared_by = rule;
                cells = cs;
                roots = roots;
                stalls = ks;
                stall_roots = stalls;
                firsts = all_firsts rows bench_rows;
                lasts = lasts_of us;
                numbers = for.sessions;
                opens = subst (λ (v : List ℕ × List (List (Pass X (Ground X)))). AreShared v.0 rule groups cs roots v.1) (λ i. (sym told i, sym firsts.passes i)) shared;
                opens_workers = subst (λ (v : List ℕ × List (List (WorkerPass X (Ground X)))). AreStocked v.0 rule workers ks stalls v.1) (λ i. (sym told i, sym firsts.benches i)) stocked;
                none = firsts.none;
                serves = all_serve o (record { retired = for.retired; environment = for.environment; sessions = told; groups = for.groups }) ss rows bench_rows us h;
                closes = subst (λ v. HaveParted state (terms_of state) cs closed v) (is ∙ sym (passes_last us)) parted;
                closes_workers = subst (λ v. HaveReturned state (terms_of state) ks returned v) (at ∙ sym (benches_last us)) back;
              },
              may.over,
              broken ∙ ap (λ v. retired ++ v) (retired_last us),
            );
      }

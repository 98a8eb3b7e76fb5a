-- What the cells of a block's groups and workers tell as it is closed: of each its notes, and of each session what its passes made of them.
use Rattle.std.proofs.Common.{◌≡◌, ℕ, List, [], ◌∷◌, ◌++◌, length, refl, sym, ◌∙◌, ap, subst, Some}
use Rattle.std.specs.Prelude.{slice_get}
use Rattle.std.specs.List.{AllZip, AllByRecursion}
use Rattle.cq_value.proofs.Lists.{length_map}
use Rattle.cq_answer.specs.declared.answered.Answered.{Answered}
use Rattle.cq_store.specs.Stores.{StoreState}
use Rattle.cq_store.specs.declared.worker.Worker.{Worker}
use Rattle.cq_group.specs.declared.group.GroupState.{GroupState}
use Rattle.cq_group.specs.Groups.{stores_of}
use Rattle.cq_move_calls.specs.Moving.{AreSteadyOn}
use Rattle.cq_history.specs.Run.{Run, Rules}
use Rattle.cq_cell.specs.Lists.{NotIn, own, AllThree}
use Rattle.cq_cell.specs.Many.{IsFirst}
use Rattle.cq_cell.specs.Passes.{IsOver}
use Rattle.cq_cell.proofs.Zips.{zip_long}
use Rattle.cq_shared.specs.declared.content.Shard.{Shard}
use Rattle.cq_shared.specs.declared.worker.Stock.{Stock}
use Rattle.cq_shared.specs.declared.errand.Errand.{Errand}
use Rattle.cq_shared.specs.declared.note.Note.{Note}
use Rattle.cq_shared.specs.Terms.{Terms}
use Rattle.cq_shared.specs.Blocks.{IsShared, group_in, IsStock, worker_in}
use Rattle.cq_shared.specs.Errands.{WorkerPass, IsBench, sent_by}
use Rattle.cq_shared.specs.Notes.{who_of, IsShard, MayNote, Stands}
use Rattle.cq_shared.specs.Seen.{Pass, group_of}
use Rattle.cq_block_laws.specs.Serving.{Opening, AreAnswered}
use Rattle.cq_block_laws.specs.Closing.{Session, numbers_of}
use Rattle.cq_block_laws.specs.Sessions.{Hands, PassesGoOn, known_by, stores_first, AreFree, ServesOne, AreServedBy, passes_of, benches_of, HasRun, HasMade, RanOver}
use Rattle.cq_block_laws.proofs.Places.{got_as, got_map, same_there, three_weaker, zip_got}
use Rattle.cq_block_laws.proofs.Cells.{go_on_none, go_on_more, HasPassed, HasCome, values_count, histories_count as came_count, come_back, passed}

-- ---- the statements of a session

module _ {X C : Type 0} (state : X → StoreState) (terms : C → Terms) (rules : Rules) (nodes : ℕ) (o : Opening) where
  abbrev Served : Hands X C → List Answered → Hands X C → Type 0
  Served first answers last = AreServedBy state terms rules nodes o first answers last

  pub served_go_on : (first : Hands X C) (answers : List Answered) (last : Hands X C) → Served first answers last → PassesGoOn first.passes last.passes
  served_go_on first [] last h = subst (λ (v : Hands X C). PassesGoOn first.passes v.passes) (sym h) (go_on_none first.passes)
  served_go_on first (a ∷ more) last h = go_on_more first.passes h.0.passes last.passes h.1.goes_on (served_go_on h.0 more last h.2)

  pub served_benches : (first : Hands X C) (answers : List Answered) (last : Hands X C) → Served first answers last → PassesGoOn first.benches last.benches
  served_benches first [] last h = subst (λ (v : Hands X C). PassesGoOn first.benches v.benches) (sym h) (go_on_none first.benches)
  served_benches first (a ∷ more) last h = go_on_more first.benches h.0.benches last.benches h.1.benches (served_benches h.0 more last h.2)

  pub served_snoc : (old : Hands X C) (answers : List Answered) (mid : Hands X C) (a : Answered) (new : Hands X C) → Served old answers mid → ServesOne state terms rules nodes o a mid new → Served old (answers ++ a ∷ []) new
  served_snoc old [] mid a new h one = (new, subst (λ v. ServesOne state terms rules nodes o a v new) h one, refl)
  served_snoc old (b ∷ answers) mid a new h one = (h.0, h.1, served_snoc h.0 answers mid a new h.2 one)

  -- passes keep what their cells were at the opening
  still_free : (run : Run) (old new : List (WorkerPass X C)) → PassesGoOn old new → AreFree run o old → AreFree run o new
  still_free run old new on free at q less e =
      let p = got_as new old at q on.count e in
      ap (λ v. stores_first v) (on.each at p.0 q p.1 e).same.2 ∙ free at p.0 less p.1

  pub are_answered : (run : Run) → run.workers ≡ nodes → (first : Hands X C) (answers : List Answered) (last : Hands X C) → AreFree run o first.benches → Served first answers last → AreAnswered rules run o (known_by first) answers (known_by last)
  are_answered run of first [] last free h = ap known_by h
  are_answered run of first (a ∷ more) last free h =
      (known_by h.0, h.1.answered run of free, are_answered run of h.0 more last (still_free run first.benches h.0.benches h.1.benches free) h.2)

-- ---- the cells

module _ {X C : Type 0} (state : X → StoreState) (terms : C → Terms) (rules : Rules) (nodes : ℕ) (o : Opening) (opened : List (GroupState X)) (workers : List (Worker X)) (sessions : List Session) (closed : List (GroupState X))
    (returned : List (Worker X)) (h : HasRun state terms rules nodes o opened workers sessions closed returned) where
  abbrev pub histories : List (List Note)
  histories = h.closes.closed.histories

  abbrev pub errand_histories : List (List Errand)
  errand_histories = h.closes_workers.closed.histories

  shards_count : length h.opens.shards ≡ length opened
  shards_count = zip_long (IsShared h.shared_by) opened h.opens.shards h.opens.are

  stocks_count : length h.opens_workers.stocks ≡ length workers
  stocks_count = zip_long (IsStock h.shared_by) workers h.opens_workers.stocks h.opens_workers.are

  -- as many groups came back
  pub as_many : length closed ≡ length opened
  as_many =
      ap length h.closes.are
      ∙ length_map group_in h.closes.shards
      ∙ values_count o.sessions h.opens.shards h.cells h.roots h.opens.opened who_of (IsShard state terms) h.closes.shards (passes_of h.lasts) h.closes.closed
      ∙ shards_count

  pub histories_count : length histories ≡ length opened
  histories_count = came_count o.sessions h.opens.shards h.cells h.roots h.opens.opened who_of (IsShard state terms) h.closes.shards (passes_of h.lasts) h.closes.closed ∙ shards_count

  -- and as many workers
  pub as_many_workers : length returned ≡ length workers
  as_many_workers =
      ap length h.closes_workers.are
      ∙ length_map worker_in h.closes_workers.stocks
      ∙ values_count o.sessions h.opens_workers.stocks h.stalls h.stall_roots h.opens_workers.opened sent_by (IsBench state terms) h.closes_workers.stocks (benches_of h.lasts) h.closes_workers.closed
      ∙ stocks_count

  pub errand_count : length errand_histories ≡ length workers
  errand_count = came_count o.sessions h.opens_workers.stocks h.stalls h.stall_roots h.opens_workers.opened sent_by (IsBench state terms) h.closes_workers.stocks (benches_of h.lasts) h.closes_workers.closed ∙ stocks_count

  -- ---- sessions

  -- what a session holds, at first and at last
  pub record IsRow (s : Session) (first last : Hands X C) : Type 0 where
    pub firsts : AllZip (IsFirst o.sessions s.number) h.cells first.passes
    pub benches : AllZip (IsFirst o.sessions s.number) h.stalls first.benches
    pub none : first.retired ≡ []
    pub served : AreServedBy state terms rules nodes o first s.answers last
    pub over : AllZip (IsOver who_of) histories last.passes
    pub over_benches : AllZip (IsOver sent_by) errand_histories last.benches

  rows_of : (ss : List Session) (fs ls : List (Hands X C)) → AllZip (λ n row. AllZip (IsFirst o.sessions n) h.cells row) (numbers_of ss) (passes_of fs) → AllZip (λ n row. AllZip (IsFirst o.sessions n) h.stalls row) (numbers_of ss) (benches_of fs) →
      AllByRecursion (λ (v : Hands X C). v.retired ≡ []) fs → AllThree (λ (s : Session) first last. AreServedBy state terms rules nodes o first s.answers last) ss fs ls →
      AllByRecursion (λ (row : List (Pass X C)). AllZip (IsOver who_of) histories row) (passes_of ls) → AllByRecursion (λ (row : List (WorkerPass X C)). AllZip (IsOver sent_by) errand_histories row) (benches_of ls) → AllThree IsRow ss fs ls
  rows_of [] [] [] z w n t a b = tt
  rows_of [] [] (l ∷ ls) z w n t a b = absurd t
  rows_of [] (f ∷ fs) ls z w n t a b = absurd t
  rows_of (s ∷ ss) [] ls z w n t a b = absurd t
  rows_of (s ∷ ss) (f ∷ fs) [] z w n t a b = absurd t
  rows_of (s ∷ ss) (f ∷ fs) (l ∷ ls) z w n t a b = (record { firsts = z.0; benches = w.0; none = n.0; served = t.0; over = a.0; over_benches = b.0 }, rows_of ss fs ls z.1 w.1 n.1 t.1 a.1 b.1)

  pub rows : AllThree IsRow sessions h.firsts h.lasts
  rows =
      rows_of sessions h.firsts h.lasts (subst (λ v. AllZip (λ n row. AllZip (IsFirst o.sessions n) h.cells row) v (passes_of h.firsts)) h.numbers h.opens.passes)
      (subst (λ v. AllZip (λ n row. AllZip (IsFirst o.sessions n) h.stalls row) v (benches_of h.firsts)) h.numbers h.opens_workers.passes) h.none h.serves h.closes.closed.passes h.closes_workers.closed.passes

  -- ---- a group

  -- the shard of a group, and what came back of it
  record IsCell (i : ℕ) (g : GroupState X) : Type 0 where
    shard : Shard X C
    there : slice_get h.opens.shards i ≡ Some shard
    is : IsShared h.shared_by g shard
    come : HasCome o.sessions h.opens.shards h.cells h.roots h.opens.opened who_of (IsShard state terms) h.closes.shards (passes_of h.lasts) h.closes.closed i shard

  cell_at : (i : ℕ) (g : GroupState X) → slice_get opened i ≡ Some g → IsCell i g
  cell_at i g e =
      let s = zip_got (IsShared h.shared_by) opened h.opens.shards i g h.opens.are e in
      record {
        shard = s.item;
        there = s.there;
        is = s.holds;
        come = come_back o.sessions h.opens.shards h.cells h.roots h.opens.opened who_of (IsShard state terms) h.closes.shards (passes_of h.lasts) h.closes.closed i s.item s.there;
      }

  module _ (i : ℕ) (g x : GroupState X) (c : IsCell i g) where
    abbrev notes : List Note
    notes = c.come.notes

    made_by : (s : Session) (first last : Hands X C) → IsRow s first last → HasMade i g notes s first last
    made_by s first last r =
        let p = passed o.sessions h.opens.shards h.cells h.roots h.opens.opened who_of (IsShard state terms) h.closes.shards (passes_of h.lasts) h.closes.closed s.number i c.shard notes first.passes last.passes r.firsts
        (served_go_on state terms rules nodes o first s.answers last r.served) r.over c.there c.come.history in record {
          first = p.first;
          last = p.last;
          was = p.was;
          is = p.is;
          origin = ap group_of (p.goes_on.same.2 ∙ p.given.origin) ∙ ap Some c.is.0;
          none = p.given.mine;
          goes_on = p.goes_on;
          mine = p.mine;
          seen = p.seen;
        }

    ran : slice_get closed i ≡ Some x → RanOver state (terms h.shared_by) sessions h.firsts h.lasts i g x notes
    ran back = record {
      stands = subst (λ v. Stands state ((terms h.shared_by).allows g.journal.group) g v notes) same
          (subst (λ v. Stands state ((terms h.shared_by).allows v.journal.group) v c.come.value.group notes) c.is.0
          (subst (λ v. Stands state ((terms v).allows c.shard.group.journal.group) c.shard.group c.come.value.group notes) c.is.1 c.come.stand.stands));
      steady = subst (λ v. (node : ℕ) → (terms h.shared_by).steady node → AreSteadyOn state node (stores_of v)) same
          (subst (λ v. (node : ℕ) → (terms v).steady node → AreSteadyOn state node (stores_of c.come.value.group)) c.is.1 c.come.stand.steady);
      spares = subst (λ v. AllByRecursion (MayNote (terms v)) notes) c.is.1 c.come.stand.spares;
      made = three_weaker IsRow (HasMade i g notes) made_by sessions h.firsts h.lasts rows;
      others = λ n out. c.come.others n (subst (NotIn n) (sym h.numbers) out);
    }
      where
        same : c.come.value.group ≡ x
        same = same_there closed i c.come.value.group x (subst (λ v. slice_get v i ≡ Some c.come.value.group) (sym h.closes.are) (got_map group_in h.closes.shards i c.come.value c.come.back)) back

  -- a group that was opened so, and came back so
  pub group_ran : (i : ℕ) (g x : GroupState X) → slice_get opened i ≡ Some g → slice_get closed i ≡ Some x → (notes : List Note) × RanOver state (terms h.shared_by) sessions h.firsts h.lasts i g x notes
  group_ran i g x e f = (let c = cell_at i g e in (c.come.notes, ran i g x c f))

  -- by the history of its cell
  pub history_ran : (i : ℕ) (g x : GroupState X) (notes : List Note) → slice_get opened i ≡ Some g → slice_get closed i ≡ Some x → slice_get histories i ≡ Some notes →
      RanOver state (terms h.shared_by) sessions h.firsts h.lasts i g x notes
  history_ran i g x notes e f its =
      let c = cell_at i g e in
      subst (λ v. RanOver state (terms h.shared_by) sessions h.firsts h.lasts i g x v) (same_there histories i c.come.notes notes c.come.history its) (ran i g x c f)

  -- ---- a worker

  -- the stock of a worker, what came back of it, and its notes
  pub record IsStall (at : ℕ) (w : Worker X) : Type 0 where
    pub stock : Stock X C
    pub there : slice_get h.opens_workers.stocks at ≡ Some stock
    pub is : IsStock h.shared_by w stock
    pub after : Stock X C
    pub notes : List Errand
    pub back : slice_get returned at ≡ Some after.worker
    pub history : slice_get errand_histories at ≡ Some notes
    pub stands : IsBench state terms stock after notes
    pub others : (n : ℕ) → NotIn n o.sessions → own sent_by n notes ≡ []

  pub stall_at : (at : ℕ) (w : Worker X) → slice_get workers at ≡ Some w → IsStall at w
  stall_at at w e =
      let s = zip_got (IsStock h.shared_by) workers h.opens_workers.stocks at w h.opens_workers.are e in
      let c = come_back o.sessions h.opens_workers.stocks h.stalls h.stall_roots h.opens_workers.opened sent_by (IsBench state terms) h.closes_workers.stocks (benches_of h.lasts) h.closes_workers.closed at s.item s.there in record {
        stock = s.item;
        there = s.there;
        is = s.holds;
        after = c.value;
        notes = c.notes;
        back = subst (λ v. slice_get v at ≡ Some c.value.worker) (sym h.closes_workers.are) (got_map worker_in h.closes_workers.stocks at c.value c.back);
        history = c.history;
        stands = c.stand;
        others = c.others;
      }

  pub passed_stall : (at : ℕ) (w : Worker X) (c : IsStall at w) (s : Session) (first last : Hands X C) → IsRow s first last → HasPassed sent_by s.number at c.stock c.notes first.benches last.benches
  passed_stall at w c s first last r =
      passed o.sessions h.opens_workers.stocks h.stalls h.stall_roots h.opens_workers.opened sent_by (IsBench state terms) h.closes_workers.stocks (benches_of h.lasts) h.closes_workers.closed s.number at c.stock c.notes first.benches last.benches r.benches
      (served_benches state terms rules nodes o first s.answers last r.served) r.over_benches c.there c.history

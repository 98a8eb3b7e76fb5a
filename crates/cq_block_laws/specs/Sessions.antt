-- The sessions of a block: what each did, by its passes to the shard groups and to the workers, and the groups and workers that came back.
use Rattle.std.specs.Prelude.{◌≡◌, ◌+◌, ◌++◌, ◌<◌, ℕ, List, [], ◌∷◌, length, map, slice_get, Option, Some, None}
use Rattle.std.specs.List.{AllByRecursion, flat_map}
use Rattle.atomic_table.specs.Seated.{TableId}
use Rattle.cq_tree.specs.declared.failure.StoreFailure.{StoreFailure}
use Rattle.cq_answer.specs.declared.answer.Answer.TheVariants as answer
use Rattle.cq_answer.specs.declared.answered.Answered.{Answered}
use Rattle.cq_answer.specs.declared.fault.Fault.TheVariants as fault
use Rattle.cq_journal.specs.Records.{Journal}
use Rattle.cq_store.specs.Stores.{StoreState}
use Rattle.cq_store.specs.declared.worker.Worker.{Worker}
use Rattle.cq_group.specs.declared.group.GroupState.{GroupState}
use Rattle.cq_group.specs.Groups.{stores_of}
use Rattle.cq_move_calls.specs.Moving.{AreSteadyOn}
use Rattle.cq_history.specs.Run.{Run, Rules}
use Rattle.cq_history.specs.Phases.{who_of, MayBeInBlock}
use Rattle.cq_cell.specs.declared.view.Key.{Key}
use Rattle.cq_cell.specs.declared.passes.Pass.{Pass as CellPass}
use Rattle.cq_cell.specs.Lists.{NotIn, own, AllThree}
use Rattle.cq_cell.specs.Turn.{IsSame}
use Rattle.cq_shared.specs.declared.content.Shard.{Shard}
use Rattle.cq_shared.specs.declared.worker.Stock.{Stock}
use Rattle.cq_shared.specs.declared.errand.Errand.{Errand}
use Rattle.cq_shared.specs.declared.note.Note.{Note}
use Rattle.cq_shared.specs.Terms.{Terms}
use Rattle.cq_shared.specs.Blocks.{AreShared, HaveParted, IsStock, AreStocked, HaveReturned}
use Rattle.cq_shared.specs.Errands.{WorkerPass, IsRuledAt, IsBench, tooks, gaves}
use Rattle.cq_shared.specs.Notes.{who_of as note_who, MayNote, Stands}
use Rattle.cq_shared.specs.Quiet.{Blames}
use Rattle.cq_shared.specs.Seen.{Pass, IsRuled, group_of, seen_by}
use Rattle.cq_cluster.specs.declared.retired.Retired.{Retired}
use Rattle.cq_cluster.specs.Accounts.{Retires}
use Rattle.cq_cluster.specs.Cluster.{IsRetired}
use Rattle.cq_block_laws.specs.Serving.{Opening, Known, free_first, IsAnsweredBeside}
use Rattle.cq_block_laws.specs.Closing.{Session, numbers_of, HasSeen}
use Rattle.cq_place_laws.specs.Placing.{arrives, leaves}
use Rattle.cq_block_laws.specs.Settling.{lost, Settle}

-- what a session holds: its passes to the groups and to the workers, and the stores that its moves retired
pub record Hands (X C : Type 0) : Type 0 where
  pub passes : List (Pass X C)
  pub benches : List (WorkerPass X C)
  pub retired : List (Retired X)

module _ {X N : Type 0} where
  -- a pass went on: behind what its session had noted stands more
  pub record PassGoesOn (p q : CellPass X N) : Type 0 where
    pub same : IsSame p.place q.place
    pub notes : List N
    pub mine : q.place.me.0.mine ≡ p.place.me.0.mine ++ notes

  -- as many passes, and each went on
  pub record PassesGoOn (old new : List (CellPass X N)) : Type 0 where
    pub count : length new ≡ length old
    pub each : (at : ℕ) (p q : CellPass X N) → slice_get old at ≡ Some p → slice_get new at ≡ Some q → PassGoesOn p q

module _ {X C : Type 0} where
  -- what passes have seen of the groups' journals
  abbrev pub journals_by : List (Pass X C) → List Journal
  journals_by passes = map (λ (p : Pass X C). (seen_by p.place).journal) passes

  -- and of the notes of a worker
  abbrev pub news_of : Option (WorkerPass X C) → List Errand
  news_of None = []
  news_of (Some p) = p.place.me.0.news

  abbrev pub errands_by : List (WorkerPass X C) → ℕ → List Errand
  errands_by benches at = news_of (slice_get benches at)

  -- what a session knows by its passes
  abbrev pub known_by : Hands X C → Known
  known_by h = record { journals = journals_by h.passes; errands = errands_by h.benches }

  -- the passes are to cells that were opened under these rules
  pub record AreUnder (c : C) (h : Hands X C) : Type 0 where
    pub passes : (g : ℕ) (p : Pass X C) → slice_get h.passes g ≡ Some p → IsRuled p.place c
    pub benches : (at : ℕ) (p : WorkerPass X C) → slice_get h.benches at ≡ Some p → IsRuledAt p.place c

  abbrev pub stores_first : Option (Stock X C) → ℕ
  stores_first None = 0
  stores_first (Some o) = length o.worker.stores.items

  -- each worker that a run uses had as many stores at the opening as were spare
  abbrev pub AreFree : Run → Opening → List (WorkerPass X C) → Type 0
  AreFree run o benches = (at : ℕ) (p : WorkerPass X C) → at < run.workers → slice_get benches at ≡ Some p → stores_first p.place.me.0.origin ≡ free_first run o at

  -- a session's own notes at the worker of a node went on by one statement, so that they settle
  abbrev pub SettlesOne : Opening → ℕ → Answered → WorkerPass X C → WorkerPass X C → Type 0
  SettlesOne o node a p q =
      tooks q.place.me.0.mine + gaves p.place.me.0.mine + leaves o.environment.catalog node a
      ≡ tooks p.place.me.0.mine + gaves q.place.me.0.mine + arrives o.environment.catalog node a + lost node a

  module _ (state : X → StoreState) (terms : C → Terms) where
    -- a retired store, on a node of which not all stores are steady
    abbrev pub IsSpared : C → Retired X → Type 0
    IsSpared c r = IsRetired state r × ((terms c).steady r.node → ⊥)

    -- a statement of a session, over a run's so many nodes, whatever the run was given else
    pub record ServesOne (rules : Rules) (nodes : ℕ) (o : Opening) (a : Answered) (old new : Hands X C) : Type 0 where
      pub answered : (run : Run) → run.workers ≡ nodes → AreFree run o old.benches → IsAnsweredBeside rules run o a (known_by old) (known_by new)
      pub allowed : MayBeInBlock a.bound
      pub goes_on : PassesGoOn old.passes new.passes
      pub benches : PassesGoOn old.benches new.benches
      pub settles : (at : ℕ) (p q : WorkerPass X C) → slice_get old.benches at ≡ Some p → slice_get new.benches at ≡ Some q → SettlesOne o (at + 1) a p q
      pub blames : (failure : StoreFailure) → a.answer ≡ answer.Failed (fault.Worker failure) → Blames (who_of a) failure old.passes new.passes
      pub retires : Retires (who_of a) a.answer old.retired new.retired
      pub fresh : (c : C) → AreUnder c old → AllByRecursion (IsSpared c) old.retired → AllByRecursion (IsSpared c) new.retired

    -- the statements of a session, one after the other
    abbrev pub AreServedBy : Rules → ℕ → Opening → Hands X C → List Answered → Hands X C → Type 0
    AreServedBy rules nodes o old [] new = new ≡ old
    AreServedBy rules nodes o old (a ∷ more) new = (mid : Hands X C) × ServesOne rules nodes o a old mid × AreServedBy rules nodes o mid more new

  -- ---- all sessions

  abbrev pub passes_of : List (Hands X C) → List (List (Pass X C))
  passes_of all = map (λ (h : Hands X C). h.passes) all

  abbrev pub benches_of : List (Hands X C) → List (List (WorkerPass X C))
  benches_of all = map (λ (h : Hands X C). h.benches) all

  -- the stores that were retired, in the order of the sessions
  abbrev pub retired_by : List (Hands X C) → List (Retired X)
  retired_by all = flat_map (λ (h : Hands X C). h.retired) all

  -- a block over these groups and workers was opened, its sessions served their statements, and these groups and workers came back
  pub record HasRun (state : X → StoreState) (terms : C → Terms) (rules : Rules) (nodes : ℕ) (o : Opening) (opened : List (GroupState X)) (workers : List (Worker X)) (sessions : List Session) (closed : List (GroupState X))
      (returned : List (Worker X)) : Type 0 where
    pub shared_by : C
    pub cells : List (TableId × Key (Shard X C))
    pub roots : List (Pass X C)
    pub stalls : List (TableId × Key (Stock X C))
    pub stall_roots : List (WorkerPass X C)
    pub firsts : List (Hands X C)
    pub lasts : List (Hands X C)
    pub numbers : o.sessions ≡ numbers_of sessions
    pub opens : AreShared o.sessions shared_by opened cells roots (passes_of firsts)
    pub opens_workers : AreStocked o.sessions shared_by workers stalls stall_roots (benches_of firsts)
    pub none : AllByRecursion (λ (h : Hands X C). h.retired ≡ []) firsts
    pub serves : AllThree (λ (s : Session) first last. AreServedBy state terms rules nodes o first s.answers last) sessions firsts lasts
    pub closes : HaveParted state terms cells closed (passes_of lasts)
    pub closes_workers : HaveReturned state terms stalls returned (benches_of lasts)

  -- of these notes of a group a session made its own, by its pass at this place, which had made none, and has seen a beginning
  pub record HasMade (place : ℕ) (opened : GroupState X) (notes : List Note) (s : Session) (firsts lasts : Hands X C) : Type 0 where
    pub first : Pass X C
    pub last : Pass X C
    pub was : slice_get firsts.passes place ≡ Some first
    pub is : slice_get lasts.passes place ≡ Some last
    pub origin : group_of last.place.me.0.origin ≡ Some opened
    pub none : first.place.me.0.mine ≡ []
    pub goes_on : PassGoesOn first last
    pub mine : last.place.me.0.mine ≡ own note_who s.number notes
    pub seen : HasSeen note_who s.number notes last.place.me.0.news

  -- a group that was opened so came back so from sessions that made these notes, under these terms
  pub record RanOver (state : X → StoreState) (terms : Terms) (sessions : List Session) (firsts lasts : List (Hands X C)) (place : ℕ) (opened closed : GroupState X) (notes : List Note) : Type 0 where
    pub stands : Stands state (terms.allows opened.journal.group) opened closed notes
    pub steady : (node : ℕ) → terms.steady node → AreSteadyOn state node (stores_of closed)
    pub spares : AllByRecursion (MayNote terms) notes
    pub made : AllThree (HasMade place opened notes) sessions firsts lasts
    pub others : (n : ℕ) → NotIn n (numbers_of sessions) → own note_who n notes ≡ []

  -- a worker at a place came back so from sessions with these answers, whose notes settle
  pub record RanAt (state : X → StoreState) (terms : C → Terms) (shared_by : C) (o : Opening) (answers : List Answered) (at : ℕ) (opened closed : Worker X) : Type 0 where
    pub was : Stock X C
    pub is : Stock X C
    pub opens : IsStock shared_by opened was
    pub closes : is.worker ≡ closed
    pub notes : List Errand
    pub stands : IsBench state terms was is notes
    pub settles : Settle o.environment.catalog (at + 1) answers notes

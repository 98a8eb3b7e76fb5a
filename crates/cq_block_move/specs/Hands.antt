-- What a session of a block holds between two statements, over the groups of a catalogue and the workers of a run.
use Rattle.std.specs.Prelude.{◌≡◌, ◌≤◌, ◌+◌, ⊤, ℕ, List, length, Some, slice_get}
use Rattle.std.specs.List.{AllZip}
use Rattle.atomic_table.specs.Seated.{TableId}
use Rattle.cq_tree.specs.declared.journal.EntryKind.{EntryKind}
use Rattle.cq_tree.specs.declared.statement.Statement.TheVariants.{Move}
use Rattle.cq_catalog.specs.Contents.{Contents}
use Rattle.cq_catalog.specs.Whole.{IsWhole}
use Rattle.cq_answer.specs.declared.answer.Answer.{Answer}
use Rattle.cq_answer.specs.declared.answer.Answer.TheVariants.{Tag}
use Rattle.cq_answer.specs.declared.answered.Answered.{Answered}
use Rattle.cq_store.specs.Stores.{StoreState}
use Rattle.cq_store.specs.declared.worker.Worker.{Worker}
use Rattle.cq_tree.specs.declared.journal.Who.{Who}
use Rattle.cq_group.specs.declared.group.GroupState.{GroupState}
use Rattle.cq_group.specs.Resting.{journals_of}
use Rattle.cq_history.specs.Journals.{journal_in}
use Rattle.cq_history.specs.Legality.{IsLegal, IsLegalKind}
use Rattle.cq_history.specs.Phases.{who_of}
use Rattle.cq_cell.specs.Turn.{IsAt, Rests}
use Rattle.cq_cluster.specs.Cluster.{AreGroups}
use Rattle.cq_shared.specs.declared.content.Shard.{Shard}
use Rattle.cq_shared.specs.declared.worker.Stock.{Stock}
use Rattle.cq_shared.specs.Blocks.{IsShared, IsStock}
use Rattle.cq_shared.specs.Errands.{Bench, WorkerPass, GivesOwed, HasKept}
use Rattle.cq_shared.specs.Seen.{Pass}
use Rattle.cq_shared.specs.Terms.{Terms}
use Rattle.cq_desk.specs.Desks.{IsReady}
use Rattle.cq_block_laws.specs.Serving.{Opening}
use Rattle.cq_block_laws.specs.Sessions.{Hands}

-- ---- passes

module _ {X C : Type 0} where
  -- a pass to a group that was opened so, under these rules
  pub record IsPassTo (rule : C) (g : GroupState X) (p : Pass X C) : Type 0 where
    pub shard : Shard X C
    pub origin : p.place.me.0.origin ≡ Some shard
    pub shared : IsShared rule g shard

  -- a pass to a worker
  pub record IsBenchTo (rule : C) (w : Worker X) (p : WorkerPass X C) : Type 0 where
    pub stock : Stock X C
    pub origin : p.place.me.0.origin ≡ Some stock
    pub shared : IsStock rule w stock

  module _ (state : X → StoreState) (terms : C → Terms) where
    -- a pass to a worker that rests, of the session of this number, in a block of these sessions. What it has seen stood so, and it gave no more than it may
    pub record IsOwn (sessions : List ℕ) (session : ℕ) (p : Bench X C) : Type 0 where
      pub rests : Rests p
      pub numbered : session ≡ p.me.0.number
      pub block : p.me.0.sessions ≡ sessions
      pub kept : HasKept state terms p
      pub right : GivesOwed p.me.0.mine

    -- the passes of a session to the workers, one to each cell, between two calls
    pub record AreReady (stalls : List TableId) (sessions : List ℕ) (session : ℕ) (benches : List (WorkerPass X C)) : Type 0 where
      pub at : AllZip (λ (z : TableId) (p : WorkerPass X C). IsAt z p.place) stalls benches
      pub own : (at : ℕ) (p : WorkerPass X C) → slice_get benches at ≡ Some p → IsOwn sessions session p.place

    -- ---- a session

    -- the groups and the workers of a block, under these rules, which allow what the catalogue does
    pub record IsGround (c : Contents) (nodes : ℕ) (rule : C) (groups : List (GroupState X)) (workers : List (Worker X)) : Type 0 where
      pub whole : IsWhole c
      pub are : AreGroups state nodes c groups
      pub legal : (g : ℕ) → IsLegal c g (journal_in (journals_of groups) g)
      pub kinds : (g : ℕ) (kind : EntryKind) → (terms rule).allows g kind → IsLegalKind c g kind
      pub enough : nodes ≤ length workers
      pub on : (at : ℕ) (w : Worker X) → slice_get workers at ≡ Some w → w.node ≡ at + 1
      pub reaches : (node : ℕ) → ((terms rule).reaches node → node ≤ nodes) × (node ≤ nodes → (terms rule).reaches node)

    -- a session's hands between two statements
    pub record AreHands (c : Contents) (nodes : ℕ) (cells stalls : List TableId) (sessions : List ℕ) (session : ℕ) (h : Hands X C) : Type 0 where
      pub rule : C
      pub opened : List (GroupState X)
      pub workers : List (Worker X)
      pub ground : IsGround c nodes rule opened workers
      pub to : AllZip (IsPassTo rule) opened h.passes
      pub to_workers : AllZip (IsBenchTo rule) workers h.benches
      pub passes : IsReady state terms cells sessions h.passes session
      pub benches : AreReady stalls sessions session h.benches

-- ---- a move

-- a block of these sessions is opened over a catalogue, whose groups have their journals
pub record IsOpenedOver (c : Contents) (numbers : List ℕ) (o : Opening) : Type 0 where
  pub catalog : o.environment.catalog ≡ c
  pub sessions : o.sessions ≡ numbers
  pub groups : c.groups ≤ length o.journals

-- a table or a fault, as a move is answered
abbrev pub IsUntagged : Answer → Type 0
IsUntagged (Tag t) = ⊥
IsUntagged a = ⊤

-- the move of a shard between two nodes, and its answer
pub record IsMoveOf (who : Who) (shard from to : ℕ) (result : Answer) (a : Answered) : Type 0 where
  pub by : who_of a ≡ who
  pub bound : a.bound ≡ Some (Move shard from to)
  pub answer : a.answer ≡ result

-- What calls of a session for workers noted, by its passes to them.
use Rattle.std.specs.Prelude.{◌≡◌, ◌≢◌, ◌+◌, ◌-◌, ◌≤◌, ℕ, false, List, length, Some, slice_get}
use Rattle.std.specs.List.{AllByRecursion}
use Rattle.cq_tree.specs.declared.journal.Who.{Who}
use Rattle.cq_answer.specs.declared.fault.Fault.{Fault}
use Rattle.cq_answer.specs.declared.fault.Fault.TheVariants as fault
use Rattle.cq_store.specs.Stores.{StoreState}
use Rattle.cq_cluster.specs.declared.retired.Retired.{Retired}
use Rattle.cq_cluster.specs.Moving.{Loses}
use Rattle.cq_shared.specs.declared.errand.Errand.{Errand}
use Rattle.cq_shared.specs.Errands.{WorkerPass, SteadyAt, node_in, gaves, owed}
use Rattle.cq_shared.specs.Stocks.{SendsSome, give_notes}
use Rattle.cq_shared.specs.Terms.{Terms}
use Rattle.cq_block_laws.specs.Serving.{sent_for}
use Rattle.cq_move_laws.specs.Notes.{at_node}

module _ {X C : Type 0} where
  -- at the worker of each place the session noted these, and others noted what they did
  pub record BenchesSend (ours : ℕ → List Errand) (old new : List (WorkerPass X C)) : Type 0 where
    pub count : length new ≡ length old
    pub each : (at : ℕ) (p q : WorkerPass X C) → slice_get old at ≡ Some p → slice_get new at ≡ Some q → SendsSome p.place (ours at) q.place

  -- a fact of the session's pass to the worker of a node
  abbrev pub AtNode : ℕ → List (WorkerPass X C) → (WorkerPass X C → Type 0) → Type 0
  AtNode node benches P = (p : WorkerPass X C) → slice_get benches (node - 1) ≡ Some p → P p

  -- there is such a worker, on this node
  pub record IsThere (node : ℕ) (benches : List (WorkerPass X C)) : Type 0 where
    pub some : node ≢ 0
    pub pass : WorkerPass X C
    pub there : slice_get benches (node - 1) ≡ Some pass
    pub on : node_in pass.place.me.0.origin ≡ node

  -- the session may give so many stores more to the worker of a node
  abbrev pub Owes : ℕ → ℕ → List (WorkerPass X C) → Type 0
  Owes node n benches = AtNode node benches (λ p. gaves p.place.me.0.mine + n ≤ owed p.place.me.0.mine)

  -- by the rules all stores of node k are steady
  abbrev pub SteadyOn : (C → Terms) → ℕ → List (WorkerPass X C) → ℕ → Type 0
  SteadyOn terms node benches k = AtNode node benches (λ p. SteadyAt terms p.place k)

  -- nothing was noted by this statement
  abbrev pub AreUnsent : Who → List (WorkerPass X C) → Type 0
  AreUnsent who benches = (at : ℕ) (p : WorkerPass X C) → slice_get benches at ≡ Some p → AllByRecursion (λ n. sent_for who n ≡ false) p.place.me.0.news

-- ---- a move that is given up

-- by this fault a store of the node is retired
abbrev pub RetiresOn : ℕ → Fault → Type 0
RetiresOn node (fault.Retired failure) = failure.node ≡ node
RetiresOn node f = ⊥

-- the stores that were taken, so many, were given back to the worker of their node, but for one that is retired
pub record GivesBack {X C : Type 0} (state : X → StoreState) (who : Who) (node n : ℕ) (f : Fault) (old new : List (WorkerPass X C)) (retired now : List (Retired X)) : Type 0 where
  pub given : ℕ
  pub lost : ℕ
  pub all : given + lost ≡ n
  pub sends : BenchesSend (at_node node (give_notes who given)) old new
  pub loses : Loses state who lost retired now f

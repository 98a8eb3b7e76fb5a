-- A session's passes to the shard groups of a block, as the calls of a move use them.
use Rattle.std.specs.Prelude.{◌≡◌, ◌≢◌, ◌<◌, ⊤, ℕ, List, ◌++◌, length, Option, Some, None, slice_get, []}
use Rattle.atomic_table.specs.Seated.{TableId}
use Rattle.cq_tree.specs.declared.journal.Who.{Who}
use Rattle.cq_store.specs.Stores.{StoreState}
use Rattle.cq_group.specs.declared.start.MoveWhy.{MoveWhy}
use Rattle.cq_group.specs.declared.start.MoveWhy.TheVariants as why
use Rattle.cq_cell.specs.Turn.{IsSame}
use Rattle.cq_reach.specs.Seen.{Seen}
use Rattle.cq_shared.specs.declared.note.Note.{Note}
use Rattle.cq_shared.specs.Terms.{Terms}
use Rattle.cq_shared.specs.Seen.{Place, Pass, ReachesBy, SteadyBy, seen_since}
use Rattle.cq_desk.specs.Desks.{IsReady, HasNoted, known_by}

module _ {X C : Type 0} where
  abbrev pub seen_in : Option (Pass X C) → Seen
  seen_in None = seen_since {X = X} None []
  seen_in (Some p) = known_by p

  -- a group by its number, as the session knows it
  abbrev pub seen_at : List (Pass X C) → ℕ → Seen
  seen_at passes group = seen_in (slice_get passes group)

  -- the passes are ready, and one is to the group of this number
  pub record CanMove (state : X → StoreState) (terms : C → Terms) (cells : List TableId) (sessions : List ℕ) (passes : List (Pass X C)) (session group : ℕ) : Type 0 where
    pub ready : IsReady state terms cells sessions passes session
    pub within : group < length passes

  -- a pass is the same, with more notes of its session
  pub record Continues (p q : Place X C) : Type 0 where
    pub same : IsSame p q
    pub notes : List Note
    pub mine : q.me.0.mine ≡ p.me.0.mine ++ notes

  -- a call for the group of this number leaves the passes to others as they are
  pub record AreKept (group : ℕ) (old new : List (Pass X C)) : Type 0 where
    pub count : length new ≡ length old
    pub others : (at : ℕ) → at ≢ group → slice_get new at ≡ slice_get old at
    pub here : (p q : Pass X C) → slice_get old group ≡ Some p → slice_get new group ≡ Some q → Continues p.place q.place

  -- a move didn't begin since a store of the group failed: the pass to the group has noted it
  abbrev pub HasFailedBy : Who → ℕ → MoveWhy → List (Pass X C) → List (Pass X C) → Type 0
  HasFailedBy who group (why.Worker failure) old new = HasNoted who group old new failure
  HasFailedBy who group w old new = ⊤

  -- groups may be moved to the node, by the rules of each pass
  abbrev pub AllReach : (C → Terms) → List (Pass X C) → ℕ → Type 0
  AllReach terms passes node = (g : ℕ) (p : Pass X C) → slice_get passes g ≡ Some p → ReachesBy terms p.place node

  -- all stores of the node are steady, by the rules of each pass
  abbrev pub AllSteady : (C → Terms) → List (Pass X C) → ℕ → Type 0
  AllSteady terms passes node = (g : ℕ) (p : Pass X C) → slice_get passes g ≡ Some p → SteadyBy terms p.place node

  -- all stores of the node are steady, by the rules of some pass
  pub record IsSpared (terms : C → Terms) (passes : List (Pass X C)) (node : ℕ) : Type 0 where
    pub group : ℕ
    pub pass : Pass X C
    pub there : slice_get passes group ≡ Some pass
    pub steady : SteadyBy terms pass.place node

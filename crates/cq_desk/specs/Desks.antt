-- The shard groups of a block as a session knows them by its passes.
use Rattle.std.specs.Prelude.{◌≡◌, ◌≢◌, ℕ, List, [], ◌∷◌, ◌++◌, map, Some, slice_get}
use Rattle.atomic_table.specs.Seated.{TableId}
use Rattle.cq_tree.specs.declared.failure.StoreFailure.{StoreFailure}
use Rattle.cq_tree.specs.declared.journal.Entry.{Entry}
use Rattle.cq_tree.specs.declared.journal.EntryKind.{EntryKind}
use Rattle.cq_tree.specs.declared.journal.Who.{Who}
use Rattle.cq_store.specs.Stores.{StoreState}
use Rattle.cq_cell.specs.Lists.{NotIn}
use Rattle.cq_cell.specs.Turn.{Rests}
use Rattle.cq_shared.specs.declared.content.Shard.{Shard}
use Rattle.cq_shared.specs.declared.note.Note.TheVariants as note
use Rattle.cq_shared.specs.Terms.{Terms}
use Rattle.cq_shared.specs.Seen.{Place, Pass, MayEnter, Finds, HasStood, seen_by}
use Rattle.cq_shared.specs.Writes.{AreAt, InBoth}
use Rattle.cq_reach.specs.Seen.{Seen, seen_of}
use Rattle.cq_reach.specs.Outlook.{Outlook}

-- an entry of another session of the block
abbrev pub IsOfOthers : List ℕ → Who → Entry → Type 0
IsOfOthers sessions who e = (e.who.session ≢ who.session) × (NotIn e.who.session sessions → ⊥)

module _ {X C : Type 0} where
  abbrev pub known_by : Pass X C → Seen
  known_by p = seen_by p.place

  -- the turn of the group's pass may find it so
  pub record MayBe (state : X → StoreState) (terms : C → Terms) (passes : List (Pass X C)) (g : ℕ) (s : Seen) : Type 0 where
    pub pass : Pass X C
    pub there : slice_get passes g ≡ Some pass
    pub shard : Shard X C
    pub finds : Finds state terms pass.place shard
    pub is : s ≡ seen_of shard.group

  -- an entry of this kind is allowed in a group by the rules under which it is shared
  abbrev pub IsAllowed : (C → Terms) → List (Pass X C) → ℕ → EntryKind → Type 0
  IsAllowed terms passes g kind = (p : Pass X C) → slice_get passes g ≡ Some p → MayEnter terms p.place kind

  -- what a session knows by its passes, and may find
  abbrev pub outlook_by : (X → StoreState) → (C → Terms) → List ℕ → List (Pass X C) → Who → Outlook
  outlook_by state terms sessions passes who = record {
    known = map known_by passes;
    comes = IsOfOthers sessions who;
    finds = MayBe state terms passes;
    allows = IsAllowed terms passes;
  }

  module _ (state : X → StoreState) (terms : C → Terms) where
    -- a pass that rests, of the session of this number, in a block of these sessions. What it has seen stood so
    pub record IsOwn (sessions : List ℕ) (session : ℕ) (p : Place X C) : Type 0 where
      pub rests : Rests p
      pub numbered : session ≡ p.me.0.number
      pub block : p.me.0.sessions ≡ sessions
      pub stood : HasStood state terms p

    -- the passes of a session, one to each cell, between two calls
    pub record IsReady (cells : List TableId) (sessions : List ℕ) (passes : List (Pass X C)) (session : ℕ) : Type 0 where
      pub at : AreAt cells passes
      pub own : (g : ℕ) (p : Pass X C) → slice_get passes g ≡ Some p → IsOwn sessions session p.place

  -- the session's pass to a group has noted that a store of it failed
  abbrev pub HasNoted : Who → ℕ → List (Pass X C) → List (Pass X C) → StoreFailure → Type 0
  HasNoted who g old new failure = InBoth old new g (λ a b. b.place.me.0.mine ≡ a.place.me.0.mine ++ note.Failed who failure ∷ [])

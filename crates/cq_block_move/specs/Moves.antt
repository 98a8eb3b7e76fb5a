-- What the move of a shard's group comes to in a session of a block, by the session's hands.
use Rattle.std.specs.Prelude.{◌≡◌, ◌⊎◌, ◌+◌, ◌-◌, ◌<◌, ◌≤◌, ℕ, true, false, List, [], ◌∷◌, ◌++◌, length, Some, None, slice_get, Result, Ok, Err}
use Rattle.cq_tree.specs.declared.journal.Who.{Who}
use Rattle.cq_catalog.specs.Contents.{Contents}
use Rattle.cq_catalog.specs.Placement.{group_of_shard}
use Rattle.cq_answer.specs.declared.fault.Fault.{Fault}
use Rattle.cq_answer.specs.declared.fault.Fault.TheVariants as fault
use Rattle.cq_store.specs.Stores.{StoreState}
use Rattle.cq_history.specs.Room.{stores_moved}
use Rattle.cq_group.specs.declared.start.MoveWhy.{MoveWhy}
use Rattle.cq_cell.specs.Cell.{AreOthers}
use Rattle.cq_cell.specs.Lists.{StartsWith}
use Rattle.cq_move.specs.declared.outcome.MoveReport.{MoveReport}
use Rattle.cq_move.specs.declared.outcome.NotMoved.{NotMoved}
use Rattle.cq_move_calls.specs.Moving.{AreSteadyOn, RefusesStart, Told}
use Rattle.cq_cluster.specs.Moving.{Loses, fault_told}
use Rattle.cq_transfer.specs.Carrying.{IsGivenUp}
use Rattle.cq_transfer.specs.Entering.{HasMoved}
use Rattle.cq_shared.specs.declared.errand.Errand.{Errand}
use Rattle.cq_shared.specs.declared.errand.Errand.TheVariants as errand
use Rattle.cq_shared.specs.Errands.{WorkerPass, AreOfNode, sent_by, tooks, gaves, room_notes}
use Rattle.cq_shared.specs.Stocks.{give_notes}
use Rattle.cq_shared.specs.Terms.{Terms}
use Rattle.cq_desk.specs.Desks.{IsOfOthers}
use Rattle.cq_desk.specs.Moving.{AreKept, HasFailedBy, seen_at}
use Rattle.cq_block_laws.specs.Sessions.{Hands, stores_first}
use Rattle.cq_move_laws.specs.Notes.{at_node}
use Rattle.cq_block_move.specs.Benches.{BenchesSend, RetiresOn, SteadyOn}

-- ---- stores taken for a move

-- n stores were taken of one node, and room was made for as many at another. There is no worker of node 0
abbrev pub taking : Who → ℕ → ℕ → ℕ → ℕ → List Errand
taking who n to room at = at_node to (errand.Took who n ∷ []) at ++ at_node room (errand.Room who n ∷ []) at

-- and so many stores were given to a node then
abbrev pub exchanging : Who → ℕ → ℕ → ℕ → ℕ → ℕ → ℕ → List Errand
exchanging who n to room given node at = taking who n to room at ++ at_node node (give_notes who given) at

module _ {X C : Type 0} where
  -- as a statement came to the worker of a node, this had so many spare stores
  pub record FindsFree (node free : ℕ) (old new : List (WorkerPass X C)) : Type 0 where
    pub was : WorkerPass X C
    pub is : WorkerPass X C
    pub before : slice_get old (node - 1) ≡ Some was
    pub after : slice_get new (node - 1) ≡ Some is
    pub more : List Errand
    pub others : AreOthers sent_by was.place.me.0 more
    pub begins : StartsWith is.place.me.0.news (was.place.me.0.news ++ more)
    pub count : free + tooks (was.place.me.0.news ++ more) ≡ stores_first was.place.me.0.origin + gaves (was.place.me.0.news ++ more)

  -- room was made for n stores at the first node of a move, where that is one of the run's, or memory ran out
  pub record MakesRoom {V E : Type 0} (who : Who) (nodes n from : ℕ) (result : Result V E) (old new : List (WorkerPass X C)) : Type 0 where
    pub room : ℕ
    pub made : 0 < from → from ≤ nodes → room ≡ from
    pub sends : BenchesSend (at_node room (room_notes who n result)) old new

  -- it took n of them, and made room for as many at the other node, where that is one of the run's
  pub record TakesStores (state : X → StoreState) (terms : C → Terms) (who : Who) (nodes n from to : ℕ) (stores : List X) (old new : List (WorkerPass X C)) : Type 0 where
    pub many : length stores ≡ n
    pub of : AreOfNode state to stores
    pub free : ℕ
    pub finds : FindsFree to free old new
    pub enough : n ≤ free
    pub room : ℕ
    pub made : 0 < from → from ≤ nodes → room ≡ from
    pub sends : BenchesSend (taking who n to room) old new
    pub steady : (k : ℕ) → SteadyOn terms to old k → AreSteadyOn state k stores

  -- or it took none: too few were spare, or memory ran out, and what was taken was given back
  abbrev pub TakesNone : Who → ℕ → ℕ → Fault → List (WorkerPass X C) → List (WorkerPass X C) → Type 0
  TakesNone who n to (fault.NoRoom node free needed) old new = (node ≡ to) × (needed ≡ n) × (free < n) × FindsFree to free old new × BenchesSend (λ at. []) old new
  TakesNone who n to fault.Memory old new = BenchesSend (λ at. []) old new ⊎ ((room : ℕ) × BenchesSend (exchanging who n to room n to) old new)
  TakesNone who n to f old new = ⊥

  -- ---- the move of a group

  -- a move came to its end: the group's old stores, as many as were taken, were given to the node where it was
  pub record MovesGroup (sessions : List ℕ) (who : Who) (group from to n : ℕ) (r : MoveReport) (old new : Hands X C) : Type 0 where
    pub moved : HasMoved (IsOfOthers sessions who) who from to r (seen_at old.passes group) (seen_at new.passes group)
    pub sends : BenchesSend (at_node from (give_notes who n)) old.benches new.benches
    pub retired : new.retired ≡ old.retired

  module _ (state : X → StoreState) where
    -- it didn't begin
    pub record RefusesMove (sessions : List ℕ) (who : Who) (group from to : ℕ) (f : Fault) (old new : Hands X C) : Type 0 where
      pub why : MoveWhy
      pub told : Told (IsOfOthers sessions who) who [] (λ found. RefusesStart why found to from) (seen_at old.passes group) (seen_at new.passes group)
      pub failed : HasFailedBy who group why old.passes new.passes
      pub fault : f ≡ fault_told false why

    -- it began and was given up
    pub record EndsMove (sessions : List ℕ) (who : Who) (group from to : ℕ) (f : Fault) (old new : Hands X C) : Type 0 where
      pub given : List X
      pub ended : NotMoved X
      pub stopped : IsGivenUp state (IsOfOthers sessions who) who from to given ended (seen_at old.passes group) (seen_at new.passes group)
      pub fault : f ≡ fault_told true ended.why

    -- a move wasn't made: the stores that were taken were given back to their node, but for one that is retired
    pub record KeepsGroup (terms : C → Terms) (sessions : List ℕ) (who : Who) (group from to n : ℕ) (f : Fault) (old new : Hands X C) : Type 0 where
      pub why : RefusesMove sessions who group from to f old new ⊎ EndsMove sessions who group from to f old new
      pub given : ℕ
      pub lost : ℕ
      pub all : given + lost ≡ n
      pub sends : BenchesSend (at_node to (give_notes who given)) old.benches new.benches
      pub loses : Loses state who lost old.retired new.retired f
      pub spared : (k : ℕ) → SteadyOn terms to old.benches k → RetiresOn k f → ⊥

    abbrev pub ComesTo : (C → Terms) → List ℕ → Who → ℕ → ℕ → ℕ → ℕ → Result MoveReport Fault → Hands X C → Hands X C → Type 0
    ComesTo terms sessions who group from to n (Ok r) old new = MovesGroup sessions who group from to n r old new
    ComesTo terms sessions who group from to n (Err f) old new = KeepsGroup terms sessions who group from to n f old new

    -- ---- the move of a shard

    -- stores were taken, and with them the move came to its group
    pub record Reaches (terms : C → Terms) (c : Contents) (nodes : ℕ) (sessions : List ℕ) (who : Who) (group from to : ℕ) (result : Result MoveReport Fault) (old new : Hands X C) : Type 0 where
      pub low : 0 < to
      pub high : to ≤ nodes
      pub mid : Hands X C
      pub same : (mid.passes ≡ old.passes) × (mid.retired ≡ old.retired)
      pub stores : List X
      pub takes : TakesStores state terms who nodes (stores_moved c (Some group)) from to stores old.benches mid.benches
      pub keeps : AreKept group old.passes new.passes
      pub comes : ComesTo terms sessions who group from to (stores_moved c (Some group)) result mid new

    -- or it didn't, by this fault: no node of the run is meant, or no stores were taken
    pub record StaysAway (c : Contents) (nodes : ℕ) (who : Who) (group to : ℕ) (f : Fault) (old new : Hands X C) : Type 0 where
      pub same : (new.passes ≡ old.passes) × (new.retired ≡ old.retired)
      pub why : ((f ≡ fault.NoNode to) × ((to ≡ 0) ⊎ (nodes < to)) × (new ≡ old)) ⊎ ((0 < to) × (to ≤ nodes) × TakesNone who (stores_moved c (Some group)) to f old.benches new.benches)

    abbrev pub IsAway : Contents → ℕ → Who → ℕ → ℕ → Result MoveReport Fault → Hands X C → Hands X C → Type 0
    IsAway c nodes who group to (Ok r) old new = ⊥
    IsAway c nodes who group to (Err f) old new = StaysAway c nodes who group to f old new

    -- of a group
    pub record MovesIn (terms : C → Terms) (c : Contents) (nodes : ℕ) (sessions : List ℕ) (who : Who) (shard from to : ℕ) (result : Result MoveReport Fault) (old new : Hands X C) : Type 0 where
      pub group : ℕ
      pub is : group_of_shard c shard ≡ Some group
      pub does : IsAway c nodes who group to result old new ⊎ Reaches terms c nodes sessions who group from to result old new

    -- of a shard: it is of no distributed table, or of a group
    abbrev pub MovesShard : (C → Terms) → Contents → ℕ → List ℕ → Who → ℕ → ℕ → ℕ → Result MoveReport Fault → Hands X C → Hands X C → Type 0
    MovesShard terms c nodes sessions who shard from to result old new =
        ((group_of_shard c shard ≡ None) × (result ≡ Err (fault.NoShard shard)) × (new ≡ old)) ⊎ MovesIn terms c nodes sessions who shard from to result old new

-- What a session holds as it comes to a group with the stores that were taken for its move.
use Rattle.std.specs.Prelude.{◌≡◌, ◌<◌, ◌≤◌, ℕ, List, Some}
use Rattle.atomic_table.specs.Seated.{TableId}
use Rattle.cq_tree.specs.declared.journal.Who.{Who}
use Rattle.cq_catalog.specs.Contents.{Contents}
use Rattle.cq_catalog.specs.Placement.{group_of_shard}
use Rattle.cq_store.specs.Stores.{StoreState}
use Rattle.cq_history.specs.Room.{stores_moved}
use Rattle.cq_shared.specs.Terms.{Terms}
use Rattle.cq_block_laws.specs.Sessions.{Hands}
use Rattle.cq_block_move.specs.Hands.{AreHands}
use Rattle.cq_block_move.specs.Benches.{Owes}

-- what a session holds that took n stores of a node of the run for the move of a group of distributed tables, as many as the group has tables: it may give
-- so many back, or to the other node, where that is one of the run's
pub record IsFitted {X C : Type 0} (state : X → StoreState) (terms : C → Terms) (c : Contents) (nodes : ℕ) (cells stalls : List TableId) (sessions : List ℕ) (who : Who) (group from to n : ℕ) (h : Hands X C) : Type 0 where
  pub hands : AreHands state terms c nodes cells stalls sessions who.session h
  pub shard : ℕ
  pub is : group_of_shard c shard ≡ Some group
  pub low : 0 < to
  pub high : to ≤ nodes
  pub one : n ≡ stores_moved c (Some group)
  pub owed : Owes to n h.benches
  pub back : 0 < from → from ≤ nodes → Owes from n h.benches

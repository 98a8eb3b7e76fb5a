-- The groups of a cluster behind a block.
use Rattle.std.proofs.Common.{◌≡◌, ◌⊎◌, inl, inr, ℕ, ◌+◌, List, length, refl, sym, ap, ◌∙◌, subst, arith, cond, IsSome, Some, None, slice_get, eq-eqb}
use Rattle.std.specs.List.{AllByRecursion}
use Rattle.std.proofs.lemmas.Bool.{eqb-true}
use Rattle.cq_catalog.specs.Contents.{Contents}
use Rattle.cq_catalog.specs.declared.info.Colocation.{Colocation}
use Rattle.cq_journal.specs.Stations.{moving_of}
use Rattle.cq_store.specs.Stores.{StoreState}
use Rattle.cq_history.specs.Room.{is_on, stores_on, tables_in}
use Rattle.cq_history.proofs.Lists.{got_below}
use Rattle.cq_group.specs.declared.group.GroupState.{GroupState}
use Rattle.cq_group.specs.Groups.{Outline, shape_at, journal_of}
use Rattle.cq_group.specs.Resting.{IsResting, journals_of}
use Rattle.cq_cluster.specs.Cluster.{IsShardOf, IsGroupOf, IsReferenceGroup, IsUsed, AreGroups, node_in, held, everywhere}
use Rattle.cq_cluster.proofs.CatalogLaws.{reference_still}
use Rattle.cq_cluster.proofs.CountLaws.{sum_alike}
use Rattle.cq_cluster.proofs.HeldLaws.{held_on}
use Rattle.cq_cluster.proofs.ListLaws.{item_at}
use Rattle.cq_cluster.proofs.MovingLawsAnswers.{nodes_told}
use Rattle.cq_shared.specs.Notes.{Remains}
use Rattle.cq_place_laws.specs.Placing.{nodes_in}

module _ {X : Type 0} (state : X → StoreState) (nodes : ℕ) where
  -- a group that came back: it rests, no move of it is in flight, and it is where it was or on a node of the run
  pub record HasCome (g x : GroupState X) : Type 0 where
    pub remains : Remains g x
    pub resting : IsResting state x
    pub still : moving_of (journal_of x) ≡ None
    pub used : (x.node ≡ g.node) ⊎ IsUsed nodes x.node

  module _ (c : Contents) where
    group_behind : (colocation i : ℕ) (co : Colocation) (g x : GroupState X) → IsGroupOf state nodes c colocation co i g → HasCome g x → IsGroupOf state nodes c colocation co i x
    group_behind colocation i co g x of come = record {
      kept = come.resting.kept;
      quiet = come.resting.quiet;
      placed = come.resting.placed;
      number = come.remains.number ∙ of.number;
      opening = come.remains.opening ∙ of.opening;
      node = elim come.used [ inl same ↦ subst (IsUsed nodes) (sym same) of.node | inr used ↦ used ];
      still = come.still;
      shards = subst (AllByRecursion (IsShardOf c colocation i)) (sym come.remains.tables) of.shards;
      complete = λ table at first_shard p. subst (λ (os : List Outline). IsSome (shape_at os table)) (sym come.remains.tables) (of.complete table at first_shard p);
    }

    -- a group on all nodes stays there
    spread_stays : (g x : GroupState X) → Remains g x → g.node ≡ 0 → x.node ≡ g.node
    spread_stays g x remains none = eqb-true x.node 0 (remains.spread ∙ eq-eqb g.node 0 none) ∙ sym none

    reference_behind : (table group shard : ℕ) (g x : GroupState X) → IsReferenceGroup state nodes c table group shard g → HasCome g x → IsReferenceGroup state nodes c table group shard x
    reference_behind table group shard g x of come =
        reference_still state nodes c c table group shard g x of come.resting.kept come.resting.quiet come.resting.placed come.remains.number come.remains.opening (spread_stays g x come.remains of.node) come.remains.tables refl

    pub groups_behind : (old new : List (GroupState X)) → AreGroups state nodes c old → length new ≡ length old → ((k : ℕ) (g x : GroupState X) → slice_get old k ≡ Some g → slice_get new k ≡ Some x → HasCome g x) → AreGroups state nodes c new
    groups_behind old new are count come = record {
      count = count ∙ are.count;
      each = λ colocation i co x there within at.
          let was = item_at old (co.first_group + i) (let low = got_below new (co.first_group + i) x at in omega (arith, low, count)) in
          group_behind colocation i co was.0 x (are.each colocation i co was.0 there within was.1) (come (co.first_group + i) was.0 x was.1 at);
      references = λ table group shard x placed at.
          let was = item_at old group (let low = got_below new group x at in omega (arith, low, count)) in
          reference_behind table group shard was.0 x (are.references table group shard was.0 placed was.1) (come group was.0 x was.1 at);
      covered = are.covered;
      apart = are.apart;
    }

    -- how many stores of a node the groups have is told by their journals
    pub held_told : (groups : List (GroupState X)) → AreGroups state nodes c groups → (place : ℕ) → held place groups + everywhere groups ≡ stores_on c (nodes_in (journals_of groups)) (place + 1)
    held_told groups are place =
        held_on state nodes c groups are place
        ∙ sum_alike (λ g. cond (is_on (node_in groups g) (place + 1)) (length (tables_in c g)) 0) (λ g. cond (is_on (nodes_in (journals_of groups) g) (place + 1)) (length (tables_in c g)) 0) 0 c.groups
        (λ n low high. ap (λ k. cond (is_on k (place + 1)) (length (tables_in c n)) 0) (nodes_told state nodes c groups are n (omega (arith, high))))

-- A cluster to which the groups and workers of a block came back.
use Rattle.std.proofs.Common.{◌≡◌, inl, inr, ℕ, zero, suc, ◌+◌, ◌<◌, ◌≤◌, List, [], ◌∷◌, ◌++◌, length, sym, ◌∙◌, ap, subst, arith, Some, slice_get}
use Rattle.std.specs.Prelude.{take}
use Rattle.std.specs.List.{AllByRecursion, sum_by}
use Rattle.std.proofs.lemmas.List.{length-map}
use Rattle.std.proofs.lemmas.List.Elements.{recursion_from_All}
use Rattle.cq_value.proofs.Lists.{all_weaker, all_append}
use Rattle.cq_tree.specs.declared.journal.Entry.{Entry}
use Rattle.cq_answer.specs.declared.answered.Answered.{Answered}
use Rattle.cq_catalog.specs.Contents.{Contents}
use Rattle.cq_journal.specs.Records.{Journal}
use Rattle.cq_journal.specs.Stations.{node_of, moving_of}
use Rattle.cq_store.specs.Stores.{StoreState, IsSpare}
use Rattle.cq_store.specs.declared.worker.Worker.{Worker}
use Rattle.cq_history.specs.Legality.{IsLegalKind}
use Rattle.cq_history.specs.Refusals.{rules}
use Rattle.cq_history.specs.Room.{retired_of}
use Rattle.cq_history.proofs.Lists.{all_at, got_below}
use Rattle.cq_group.specs.declared.group.GroupState.{GroupState}
use Rattle.cq_group.specs.Groups.{entries_of, stores_of}
use Rattle.cq_cell.specs.Lists.{Distinct}
use Rattle.cq_cluster.specs.declared.cluster.Cluster.{Cluster}
use Rattle.cq_cluster.specs.declared.retired.Retired.{Retired}
use Rattle.cq_cluster.specs.Accounts.{AreRetired}
use Rattle.cq_cluster.specs.Cluster.{AreGroups, AreWorkers, HasStores, IsRetired, IsSound, IsUsed, IsWaiting, held, everywhere, journals, retired_nodes}
use Rattle.cq_cluster.specs.Steady.{AreSteady}
use Rattle.cq_cluster.proofs.GroupLaws.{one_of, rests}
use Rattle.cq_cluster.proofs.JournalLaws.{journal_at}
use Rattle.cq_cluster.proofs.SteadyLaws.{all_got}
use Rattle.cq_shared.specs.Terms.{Terms}
use Rattle.cq_shared.specs.Blocks.{MayShare, MaySpare}
use Rattle.cq_block_laws.specs.Closing.{Session, numbers_of, answers_of}
use Rattle.cq_block_laws.specs.Serving.{Opening}
use Rattle.cq_block_laws.specs.Sessions.{HasRun, IsSpared, RanAt, retired_by}
use Rattle.cq_place_laws.specs.Placing.{arrives, leaves, nodes_in}
use Rattle.cq_block_laws.specs.Settling.{lost}
use Rattle.cq_block_laws.proofs.Histories.{as_many, group_ran}
use Rattle.cq_block_laws.proofs.Settled.{block_settles}
use Rattle.cq_block_laws.proofs.Retiring.{block_retires_all}
use Rattle.cq_block_accounts.specs.Cluster.{AreAtRest, BlockLeavesCluster, ClusterMayBeShared, WorkersAreFree, IsBehind, used_workers, unused_workers}
use Rattle.cq_block_accounts.proofs.Groups.{HasCome, groups_behind, held_told}
use Rattle.cq_block_accounts.proofs.Lost.{all_lost, nodes_of, retired_both}
use Rattle.cq_block_accounts.proofs.Sparing.{keeps_steady, names_none}
use Rattle.cq_block_accounts.proofs.Workers.{taken_count, taken_got, workers_behind}

-- ---- before a block

module _ {X : Type 0} (state : X → StoreState) (C : Type 0) (terms : C → Terms) where
  -- the number of a group is its place
  own_number : (cl : Cluster X) → IsSound state cl → (k : ℕ) (g : GroupState X) → slice_get cl.groups.items k ≡ Some g → g.journal.group ≡ k
  own_number cl sound k g there = elim (one_of state cl k g sound there) [
    | inl one ↦ one.of.number ∙ sym one.is
    | inr one ↦ one.of.number
  ]

  pub cluster_may_be_shared : ClusterMayBeShared state C terms
  cluster_may_be_shared cl shared_by sound kept legal = (
    all_got (MayShare state terms shared_by) cl.groups.items (λ k g there. record {
      resting = rests state cl sound k g there;
      kinds = all_weaker (λ (e : Entry). IsLegalKind cl.catalog g.journal.group e.kind) (λ (e : Entry). (terms shared_by).allows g.journal.group e.kind) (λ e may. kept.allows g.journal.group e.kind may) (entries_of g)
          (subst (λ n. AllByRecursion (λ (e : Entry). IsLegalKind cl.catalog n e.kind) (entries_of g)) (sym (own_number cl sound k g there))
          (subst (λ (j : Journal). AllByRecursion (λ (e : Entry). IsLegalKind cl.catalog k e.kind) j.entries) (journal_at cl.groups.items k g there) (legal k).kinds));
      steady = λ node s. all_at (λ (v : GroupState X). AreSteady state node (stores_of v)) cl.groups.items k g (kept.steady node s).0 there;
    }),
    all_got (MaySpare state terms shared_by) (used_workers cl) (λ k w there. spare k w there),
  )
    where
      spare : (k : ℕ) (w : Worker X) → slice_get (used_workers cl) k ≡ Some w → MaySpare state terms shared_by w
      spare k w e =
          let r = taken_got cl.nodes cl.workers.items k w e in
          let at = sound.workers.1.used k w r.0 r.1 in (
            all_weaker (λ (x : X). IsWaiting (k + 1) (state x)) (λ (x : X). IsSpare (state x) × ((state x).node ≡ w.node)) (λ x s. (s.spare, s.of_node ∙ sym at.node)) w.stores.items
                (recursion_from_All (λ (x : X). IsWaiting (k + 1) (state x)) w.stores.items at.stores),
            λ node s. all_at (λ (v : Worker X). AreSteady state node v.stores.items) (used_workers cl) k w (kept.steady node s).1 e,
          )

-- the workers have as many stores as are spare
pub workers_are_free : {X : Type 0} (state : X → StoreState) → WorkersAreFree state
workers_are_free state cl initial entry o sound has catalog retired journals at w low there =
    let place = taken_got cl.nodes cl.workers.items at w there in
    let total = (has.used at w low place.1).total in
    let told = held_told state cl.nodes cl.catalog cl.groups.items sound.groups at in
    rw (catalog, retired, journals) (omega (arith, total, told))

-- ---- behind a block

module _ {X C : Type 0} (state : X → StoreState) (terms : C → Terms) (o : Opening) (sessions : List Session) (old new : Cluster X) (returned : List (Worker X))
    (h : HasRun state terms rules old.nodes o old.groups.items (used_workers old) sessions new.groups.items returned) (same : o.environment.catalog ≡ old.catalog) (apart : Distinct (numbers_of sessions))
    (behind : IsBehind returned (retired_by h.lasts) old new) (rest : AreAtRest old.catalog old.nodes (answers_of sessions) (journals old) (journals new)) (sound : IsSound state old) where
  abbrev block : List Answered
  block = answers_of sessions

  come : (k : ℕ) (g x : GroupState X) → slice_get old.groups.items k ≡ Some g → slice_get new.groups.items k ≡ Some x → HasCome state old.nodes g x
  come k g x was is =
      let ran = (group_ran state terms rules old.nodes o old.groups.items (used_workers old) sessions new.groups.items returned h k g x was is).1 in
      let before = journal_at old.groups.items k g was in
      let after = journal_at new.groups.items k x is in
      let low : k < length (journals old) = subst (λ n. k < n) (sym (length-map old.groups.items _)) (got_below old.groups.items k g was) in
      let now : nodes_in (journals new) k ≡ x.node = ap node_of after ∙ ran.stands.resting.placed in
      let then : nodes_in (journals old) k ≡ g.node = ap node_of before ∙ (rests state old sound k g was).placed in
      record {
        remains = ran.stands.remains;
        resting = ran.stands.resting;
        still = ap moving_of (sym after) ∙ rest.still k;
        used = elim (rest.used k low) [
          | inl stays ↦ inl (sym now ∙ stays ∙ then)
          | inr used ↦ inr (subst (IsUsed old.nodes) now (record { some = (let u = used.0 in omega (arith, u)); few = used.1 }))
        ];
      }

  pub groups_came : AreGroups state old.nodes old.catalog new.groups.items
  groups_came = groups_behind state old.nodes old.catalog old.groups.items new.groups.items sound.groups (as_many state terms rules old.nodes o old.groups.items (used_workers old) sessions new.groups.items returned h) come

  -- ---- the workers

  settles : (length returned ≡ length (used_workers old)) × ((at : ℕ) (w v : Worker X) → slice_get (used_workers old) at ≡ Some w → slice_get returned at ≡ Some v → RanAt state terms h.shared_by o block at w v)
  settles = block_settles state terms rules old.nodes o old.groups.items (used_workers old) sessions new.groups.items returned h apart

  retires : AreRetired block (retired_by h.lasts) × AllByRecursion (IsSpared state terms h.shared_by) (retired_by h.lasts)
  retires = block_retires_all state terms rules old.nodes o old.groups.items (used_workers old) sessions new.groups.items returned h

  settled : (place : ℕ) → (held place new.groups.items + everywhere new.groups.items + retired_of (place + 1) (nodes_of (old.retired.items ++ retired_by h.lasts))) + sum_by (leaves o.environment.catalog (place + 1)) block
      ≡ (held place old.groups.items + everywhere old.groups.items + retired_of (place + 1) (retired_nodes old)) + sum_by (arrives o.environment.catalog (place + 1)) block + sum_by (lost (place + 1)) block
  settled place =
      let before = held_told state old.nodes old.catalog old.groups.items sound.groups place in
      let after = held_told state old.nodes old.catalog new.groups.items groups_came place in
      let placed = rest.placed (place + 1) (omega arith) in
      let left : sum_by (leaves o.environment.catalog (place + 1)) block ≡ sum_by (leaves old.catalog (place + 1)) block = ap (λ (c : Contents). sum_by (leaves c (place + 1)) block) same in
      let came : sum_by (arrives o.environment.catalog (place + 1)) block ≡ sum_by (arrives old.catalog (place + 1)) block = ap (λ (c : Contents). sum_by (arrives c (place + 1)) block) same in
      let both = retired_both (place + 1) old.retired.items (retired_by h.lasts) in
      let gone = all_lost (place + 1) block (retired_by h.lasts) retires.0 in
      omega (arith, before, after, placed, left, came, both, gone)

  few : old.nodes ≤ length old.workers.items
  few = sound.enough

  count : length returned ≡ old.nodes
  count = settles.0 ∙ taken_count old.nodes old.workers.items few

  pub stores_came : (entry : List (Worker X)) → HasStores state entry old → HasStores state entry new
  stores_came entry has =
      let all = workers_behind state terms h.shared_by o block old.nodes entry (retired_nodes old) (nodes_of (old.retired.items ++ retired_by h.lasts)) old.groups.items new.groups.items old.workers.items returned few count has
      (λ place w v low was is. settles.1 place w v was is) (λ place low. settled place) in
      subst (λ n. AreWorkers state n entry (retired_nodes new) new.groups.items new.workers.items) (sym behind.nodes)
      (subst (λ ws. AreWorkers state old.nodes entry (retired_nodes new) new.groups.items ws) (sym behind.workers)
      (subst (λ (rs : List (Retired X)). AreWorkers state old.nodes entry (nodes_of rs) new.groups.items (returned ++ unused_workers old)) (sym behind.retired) all))

  spared : AllByRecursion (IsSpared state terms h.shared_by) (retired_by h.lasts)
  spared = retires.1

  retired_came : AllByRecursion (IsRetired state) new.retired.items
  retired_came = subst (AllByRecursion (IsRetired state)) (sym behind.retired)
      (all_append (IsRetired state) old.retired.items (retired_by h.lasts) sound.retired (all_weaker (IsSpared state terms h.shared_by) (IsRetired state) (λ r s. s.0) (retired_by h.lasts) spared))

  pub sound_came : IsSound state new
  sound_came = record {
    groups = subst (λ n. AreGroups state n new.catalog new.groups.items) (sym behind.nodes) (subst (λ c. AreGroups state old.nodes c new.groups.items) (sym behind.catalog) groups_came);
    whole = rw behind.catalog sound.whole;
    ids = rw behind.catalog sound.ids;
    some = rw behind.nodes sound.some;
    few = rw behind.nodes sound.few;
    enough = (let all = (stores_came sound.workers.0 sound.workers.1).same_length in let were = sound.workers.1.same_length in let n = behind.nodes in omega (arith, all, were, n, few));
    workers = (sound.workers.0, stores_came sound.workers.0 sound.workers.1);
    retired = retired_came;
  }

pub block_leaves_cluster : {X : Type 0} (state : X → StoreState) (C : Type 0) (terms : C → Terms) → BlockLeavesCluster state C terms
block_leaves_cluster state C terms o sessions old new returned h same apart behind rest kept sound = record {
  sound = sound_came state terms o sessions old new returned h same apart behind rest sound;
  stores = record { nodes = behind.nodes; stores = stores_came state terms o sessions old new returned h same apart behind rest sound };
  steady = keeps_steady state terms o sessions old new returned h apart behind kept;
  names = names_none state terms o sessions old new returned h kept;
}

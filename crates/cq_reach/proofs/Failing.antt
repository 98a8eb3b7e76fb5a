-- Stores that fail, and where they are.
use Rattle.std.proofs.Common.{◌≡◌, inl, inr, ℕ, zero, suc, ◌+◌, ◌<◌, ◌≤◌, List, [], ◌∷◌, length, map, refl, sym, ◌∙◌, ap, subst, arith}
use Rattle.std.specs.Prelude.{nat_eq, if◌then◌else◌}
use Rattle.std.proofs.lemmas.Bool.Decides.{eqb_tells}
use Rattle.std.specs.List.{AllZip, AllByRecursion, flat_map}
use Rattle.cq_value.proofs.Lists.{all_append}
use Rattle.cq_value.specs.declared.schema.Shape.{Shape}
use Rattle.cq_tree.specs.declared.failure.StoreFailure.{StoreFailure}
use Rattle.cq_journal.specs.Records.{Journal}
use Rattle.cq_journal.specs.Stations.{node_of}
use Rattle.cq_store.specs.Stores.{StoreState}
use Rattle.cq_group.specs.declared.group.GroupState.{GroupState}
use Rattle.cq_group.specs.declared.group.GroupTable.{GroupTable}
use Rattle.cq_group.specs.Groups.{Outline, outline, outlines, entries_of, journal_of, stores_of, node_at, copies_of, AreReplicasFrom, IsTableKept}
use Rattle.cq_group.specs.Calls.{GoesOn, Lifted, SomeZip, Failed}
use Rattle.cq_group.specs.Resting.{IsResting, GoOn, HasFailedAt}
use Rattle.cq_history.specs.Faults.{IsOnNode}
use Rattle.cq_reach.specs.Seen.{seen_of, IsShardOf, FailsIn}
use Rattle.cq_reach.proofs.Growth.{got, got_below}

-- ---- the store that failed

module _ {X : Type 0} (state : X → StoreState) (failure : StoreFailure) where
  abbrev Fails : X → X → Type 0
  Fails = Lifted state (Failed failure)

  -- what holds of each store holds of it
  pub some_store : (P : X → Type 0) (xs ys : List X) → AllByRecursion P xs → SomeZip Fails xs ys → (x : X) × (y : X) × P x × Fails x y
  some_store P [] ys all f = absurd f
  some_store P (x ∷ xs) [] all f = absurd f
  some_store P (x ∷ xs) (y ∷ ys) all f = elim f [ inl a ↦ (x, y, all.0, a) | inr b ↦ some_store P xs ys all.1 b ]

  -- it failed after it went on
  later : (s t u : StoreState) → GoesOn s t → Failed failure t u → Failed failure s u
  later s t u on f = record {
    of_node = sym (ap (λ (v : StoreState). v.node) on.state) ∙ f.of_node;
    of_shard = sym (ap (λ (v : StoreState). v.shard) on.state) ∙ f.of_shard;
    unsteady = sym (ap (λ (v : StoreState). v.steady) on.state) ∙ f.unsteady;
    from = let a = on.counts in let b = f.from in omega (arith, a, b);
    rose = f.rose;
    to = f.to;
  }

  some_later : (xs ys zs : List X) → AllZip (Lifted state GoesOn) xs ys → SomeZip Fails ys zs → SomeZip Fails xs zs
  some_later [] [] zs on f = f
  some_later [] (y ∷ ys) zs on f = absurd on
  some_later (x ∷ xs) [] zs on f = absurd f
  some_later (x ∷ xs) (y ∷ ys) [] on f = absurd f
  some_later (x ∷ xs) (y ∷ ys) (z ∷ zs) on f = elim f [ inl a ↦ inl (later (state x) (state y) (state z) on.0 a) | inr b ↦ inr (some_later xs ys zs on.1 b) ]

  pub failed_later : (place : ℕ) (old mid new : List (GroupState X)) → GoOn state old mid → HasFailedAt state place failure mid new → HasFailedAt state place failure old new
  failed_later place old mid new on f =
      let count = on.count in
      let low = got_below mid place f.was f.there in
      let g = got old place (omega (arith, count, low)) in
      record {
        was = g.0;
        is = f.is;
        there = g.1;
        here = f.here;
        failed = some_later (stores_of g.0) (stores_of f.was) (stores_of f.is) (on.each place g.0 f.was g.1 f.there).0.stores f.failed;
      }

-- ---- where stores are

node_other : (n at : ℕ) → node_at (suc n) at ≡ suc n
node_other n at = elim (eqb_tells (suc n) 0) [ inl y ↦ absurd (let e = y.1 in omega (arith, e)) | inr z ↦ rw z.0 refl ]

-- the node of a store at a place among its table's
on_node : (nodes node all at : ℕ) (j : Journal) → node_of j ≡ node → (node ≡ 0 → all ≡ nodes) → at < (if nat_eq node 0 then all else 1) → IsOnNode nodes j (node_at node at)
on_node nodes zero all at j placed near l = record {
  some = omega arith;
  few = λ e. let n = near refl in omega (arith, l, n);
  there = λ p. absurd (omega (arith, p, placed));
}
on_node nodes (suc n) all at j placed near l = subst (IsOnNode nodes j) (sym (node_other n at)) (record {
  some = omega arith;
  few = λ e. absurd (omega (arith, e, placed));
  there = λ p. sym placed;
})

module _ {X : Type 0} (state : X → StoreState) (P : ℕ → Type 0) (nodes : ℕ) (j : Journal) where
  -- a store under such a shard id, on a node where the group is
  abbrev pub IsThere : X → Type 0
  IsThere x = P (state x).shard × IsOnNode nodes j (state x).node

  module _ (g : GroupState X) (placed : node_of j ≡ g.node) (near : g.node ≡ 0 → g.nodes ≡ nodes) where
    replicas_there : (at : ℕ) (table : ℕ) (shape : Shape) (shard : ℕ) (xs : List X) → AreReplicasFrom at g.node (entries_of g) table shape shard (map state xs) → at + length xs ≤ copies_of g → P shard → AllByRecursion IsThere xs
    replicas_there at table shape shard [] all l s = tt
    replicas_there at table shape shard (x ∷ xs) all l s = (
      (
        subst P (sym all.0.of_shard) s,
        subst (IsOnNode nodes j) (sym all.0.of_node) (on_node nodes g.node g.nodes at j placed near (omega (arith, l))),
      ),
      replicas_there (at + 1) table shape shard xs all.1 (omega (arith, l)) s,
    )

    pub tables_there : (ts : List (GroupTable X)) → AllByRecursion (IsTableKept state g.node (copies_of g) (entries_of g)) ts → AllByRecursion (λ (o : Outline). P o.2) (map outline ts) →
        AllByRecursion IsThere (flat_map (λ (t : GroupTable X). t.stores.items) ts)
    tables_there [] kept shards = tt
    tables_there (t ∷ ts) kept shards =
        let full = kept.0.complete in
        all_append IsThere t.stores.items (flat_map (λ (u : GroupTable X). u.stores.items) ts)
        (replicas_there 0 t.table t.shape t.shard t.stores.items kept.0.replicas (omega (arith, full)) shards.0)
        (tables_there ts kept.1 shards.1)

-- a group's stores are under its tables' shard ids
own_shards : (os more : List Outline) → ((shard : ℕ) → IsShardOf more shard → IsShardOf os shard) → AllByRecursion (λ (o : Outline). IsShardOf os o.2) more
own_shards os [] f = tt
own_shards os (o ∷ more) f = (f o.2 (inl refl), own_shards os more (λ shard h. f shard (inr h)))

-- so the store that failed is one of the group
pub fails_in : {X : Type 0} (state : X → StoreState) (g h : GroupState X) (f : StoreFailure) → IsResting state g → SomeZip (Lifted state (Failed f)) (stores_of g) (stores_of h) → FailsIn (seen_of g) f
fails_in state g h f rest failed =
    let P : ℕ → Type 0 = IsShardOf (outlines g) in
    let all = tables_there state P g.nodes (journal_of g) g rest.placed (λ e. refl) g.tables.items rest.kept.tables (own_shards (outlines g) (outlines g) (λ shard h. h)) in
    let one = some_store state f (IsThere state P g.nodes (journal_of g)) (stores_of g) (stores_of h) all failed in
    record { shard = subst P one.3.of_shard one.2.0; node = subst (IsOnNode g.nodes (journal_of g)) one.3.of_node one.2.1; rose = one.3.rose }

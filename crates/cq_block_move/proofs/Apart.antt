-- The shard ids of a group's tables differ.
use Rattle.std.proofs.Common.{◌≡◌, ◌≢◌, ◌+◌, ◌<◌, ◌≤◌, inl, inr, ℕ, List, [], ◌∷◌, refl, sym, ap, subst, arith, Option, Some, None, slice_get}
use Rattle.std.proofs.lemmas.Bool.Decides.{eqb_tells}
use Rattle.std.specs.List.{AllByRecursion}
use Rattle.cq_catalog.specs.Contents.{Contents, count_in, place_in}
use Rattle.cq_catalog.specs.Placement.{place_at}
use Rattle.cq_catalog.specs.Whole.{HasId, IsWhole}
use Rattle.cq_catalog.specs.declared.info.Colocation.{Colocation}
use Rattle.cq_catalog.specs.declared.info.Place.{Place}
use Rattle.cq_catalog.specs.declared.info.TableInfo.{TableInfo}
use Rattle.cq_group.specs.Groups.{Outline, shape_at, AreDistinct as HaveNumbers}
use Rattle.cq_move.specs.Outcomes.{shards_in}
use Rattle.cq_cluster.specs.Cluster.{IsShardOf}
use Rattle.cq_cluster.specs.Ending.{AreDistinct}

module _ (c : Contents) (whole : IsWhole c) where
  -- a shard id is one table's
  same_table : (m n id : ℕ) → HasId c.colocations (place_at c m) id → HasId c.colocations (place_at c n) id → m ≡ n
  same_table m n id a b = by_items (slice_get c.tables m) (slice_get c.tables n) refl refl a b
    where
      by_items : (o p : Option TableInfo) → slice_get c.tables m ≡ o → slice_get c.tables n ≡ p → HasId c.colocations (place_in o) id → HasId c.colocations (place_in p) id → m ≡ n
      by_items None p s t a b = absurd a
      by_items (Some x) None s t a b = absurd b
      by_items (Some x) (Some y) s t a b = whole.apart m n x y id s t a b

  module _ (colocation i : ℕ) (co : Colocation) (there : slice_get c.colocations colocation ≡ Some co) (within : i < co.count) where
    has_id : (o : Outline) → IsShardOf c colocation i o → HasId c.colocations (place_at c o.0) o.2
    has_id o h =
        let e = ap (λ (v : Outline). v.2) h.3 in
        subst (λ (p : Place). HasId c.colocations p o.2) (sym h.2)
        (subst (λ (m : Option Colocation). (h.1 ≤ o.2) × (o.2 < h.1 + count_in m)) (sym there) (omega (arith, e), omega (arith, e, within)))

    one_apart : (o : Outline) → HasId c.colocations (place_at c o.0) o.2 → (os : List Outline) → shape_at os o.0 ≡ None → AllByRecursion (IsShardOf c colocation i) os → AllByRecursion (λ m. o.2 ≢ m) (shards_in os)
    one_apart o own [] none all = tt
    one_apart o own (p ∷ os) none all = elim (eqb_tells p.0 o.0) [
      | inl y ↦ absurd (clash (rw y.0 at none))
      | inr z ↦ ((λ e. z.1 (same_table p.0 o.0 o.2 (subst (HasId c.colocations (place_at c p.0)) (sym e) (has_id p all.0)) own)), one_apart o own os (rw z.0 at none) all.1)
    ]
      where
        clash : Some p.1 ≡ None → ⊥
        clash e = cc

    -- the tables of a group, each of another number, have different shard ids
    pub shards_apart : (os : List Outline) → HaveNumbers os → AllByRecursion (IsShardOf c colocation i) os → AreDistinct (shards_in os)
    shards_apart [] numbers all = tt
    shards_apart (o ∷ os) numbers all = (one_apart o (has_id o all.0) os numbers.0 all.1, shards_apart os numbers.1 all.1)

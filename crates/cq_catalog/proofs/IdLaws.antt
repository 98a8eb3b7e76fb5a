-- A shard's id leads back to its group.
use Rattle.std.proofs.Common.{◌≡◌, ◌⊎◌, inl, inr, ℕ, zero, suc, ◌+◌, ◌-◌, ◌<◌, ◌≤◌, ◌&&◌, Bool, true, false, nat_le, nat_lt, if◌then◌else◌, List, [], ◌∷◌, map, Option, Some, None, slice_get, refl, sym, ap, subst, ◌∙◌, arith}
use Rattle.std.proofs.lemmas.Grind.{common_steps}
use Rattle.std.proofs.lemmas.Option.{same_Some}
use Rattle.cq_catalog.specs.Contents.{Contents, first_group_in, count_in}
use Rattle.cq_catalog.specs.Placement.{HasShard, IsDistributed, shard_in, group_in, group_of_shard, colocation_at, place_at}
use Rattle.cq_catalog.specs.Contents.{place_in, colocation_of}
use Rattle.cq_catalog.specs.Refusals.{first_of}
use Rattle.cq_catalog.specs.Whole.{HasId, IsWhole}
use Rattle.cq_catalog.specs.declared.info.TableInfo.{TableInfo}
use Rattle.cq_catalog.specs.declared.info.Colocation.{Colocation}
use Rattle.cq_catalog.specs.declared.info.Place.{Place}
use Rattle.cq_catalog.specs.declared.info.Place.TheVariants.{Local, Distributed, Reference}

-- what one item alone gives is the first
only_one : {X Y : Type 0} (f : X → Option Y) (xs : List X) (i : ℕ) (x : X) (y : Y) → slice_get xs i ≡ Some x → f x ≡ Some y →
    ((j : ℕ) (z : X) → slice_get xs j ≡ Some z → (f z ≡ None) ⊎ (i ≡ j)) → first_of (map f xs) ≡ Some y
only_one f [] i x y at here other = absurd (grind (arith, common_steps, at))
only_one {X} {Y} f (z ∷ zs) zero x y at here other = ap (λ (o : Option Y). first_of (o ∷ map f zs)) (ap f (same_Some z x at) ∙ here)
only_one {X} {Y} f (z ∷ zs) (suc i) x y at here other =
    let none : f z ≡ None = elim (other zero z refl) [ inl n ↦ n | inr e ↦ absurd (omega arith) ] in
    ap (λ (o : Option Y). first_of (o ∷ map f zs)) none ∙ only_one f zs i x y at here (λ j w h. elim (other (suc j) w h) [ inl n ↦ inl n | inr e ↦ inr (omega arith) ])

both : (a b c d : ℕ) → (nat_le a b && nat_lt c d) ≡ true → (a ≤ b) × (c < d)
both a b c d h = grind (arith, common_steps, h)

both_hold : (a b c d : ℕ) → a ≤ b → c < d → (nat_le a b && nat_lt c d) ≡ true
both_hold a b c d h k = grind (arith, common_steps, h, k)

has_id : (cs : List Colocation) (place : Place) (id : ℕ) → (group_in cs id place ≡ None) ⊎ HasId cs place id
has_id cs Local id = inl refl
has_id cs (Reference group shard) id = inl refl
has_id cs (Distributed column k first) id = by (nat_le first id && nat_lt id (first + count_in (slice_get cs k))) refl
  where
    by : (b : Bool) → (nat_le first id && nat_lt id (first + count_in (slice_get cs k))) ≡ b → (group_in cs id (Distributed column k first) ≡ None) ⊎ HasId cs (Distributed column k first) id
    by true e = inr (both first id id (first + count_in (slice_get cs k)) e)
    by false e = inl (ap (λ b. if b then Some (first_group_in (slice_get cs k) + (id - first)) else None) e)

own_group : (cs : List Colocation) (place : Place) (group : ℕ) → IsDistributed place → HasShard (slice_get cs (colocation_of place)) place group →
    (group_in cs (shard_in (slice_get cs (colocation_of place)) place group) place ≡ Some group) × HasId cs place (shard_in (slice_get cs (colocation_of place)) place group)
own_group cs Local group d h = absurd d
own_group cs (Reference own shard) group d h = absurd d
own_group cs (Distributed column k first) group d h =
    let low : first_group_in (slice_get cs k) ≤ group = h.0 in
    let high : group < first_group_in (slice_get cs k) + count_in (slice_get cs k) = h.1 in
    let a : first ≤ first + (group - first_group_in (slice_get cs k)) = omega arith in
    let b : first + (group - first_group_in (slice_get cs k)) < first + count_in (slice_get cs k) = omega arith in
    let e : first_group_in (slice_get cs k) + (first + (group - first_group_in (slice_get cs k)) - first) ≡ group = omega arith in
    (ap (λ t. if t then Some (first_group_in (slice_get cs k) + (first + (group - first_group_in (slice_get cs k)) - first)) else None) (both_hold first (first + (group - first_group_in (slice_get cs k))) (first + (group - first_group_in (slice_get cs k))) (first + count_in (slice_get cs k)) a b) ∙ ap Some e, (a, b))

distributed_there : (c : Contents) (table : ℕ) → IsDistributed (place_at c table) → (t : TableInfo) × (slice_get c.tables table ≡ Some t)
distributed_there c table d = by (slice_get c.tables table) refl d
  where
    by : (o : Option TableInfo) → slice_get c.tables table ≡ o → IsDistributed (place_in o) → (t : TableInfo) × (slice_get c.tables table ≡ Some t)
    by None e d = absurd d
    by (Some t) e d = (t, e)

pub leads_back : (c : Contents) (table group : ℕ) → IsWhole c → IsDistributed (place_at c table) → HasShard (colocation_at c table) (place_at c table) group →
    group_of_shard c (shard_in (colocation_at c table) (place_at c table) group) ≡ Some group
leads_back c table group whole d h =
    let p = distributed_there c table d in
    let e : place_at c table ≡ p.0.place = ap place_in p.1 in
    let own = own_group c.colocations (place_at c table) group d h in
    let id : ℕ = shard_in (colocation_at c table) (place_at c table) group in
    only_one (λ (t : TableInfo). group_in c.colocations id t.place) c.tables table p.0 group p.1 (ap (group_in c.colocations id) (sym e) ∙ own.0)
    (λ j u at. elim (has_id c.colocations u.place id) [
      | inl n ↦ inl n
      | inr has ↦ inr (whole.apart table j p.0 u id p.1 at (subst (λ (q : Place). HasId c.colocations q id) e own.1) has)
    ])

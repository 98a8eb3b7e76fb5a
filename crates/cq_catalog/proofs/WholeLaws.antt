-- Each step of the catalogue keeps what is true of every catalogue.
use Rattle.std.proofs.Common.{◌≡◌, ◌⊎◌, inl, inr, ℕ, zero, suc, ◌+◌, ◌*◌, ◌<◌, ◌≤◌, Bool, true, false, not, cond, List, [], ◌∷◌, ◌++◌, length, Option, Some, slice_get, refl, sym, ap, subst, ◌∙◌, arith, length-append}
use Rattle.std.proofs.lemmas.Grind.{common_steps}
use Rattle.std.proofs.lemmas.List.Sums.{sum_by-append}
use Rattle.std.proofs.lemmas.Option.{same_Some}
use Rattle.cq_value.proofs.Lists.{got_more, got_before}
use Rattle.cq_value.specs.declared.schema.Column.{Column}
use Rattle.cq_value.specs.declared.schema.Kind.{Kind}
use Rattle.cq_catalog.specs.Contents.{Contents, is_local, count_in, with_place}
use Rattle.cq_catalog.specs.Creation.{with_table}
use Rattle.cq_catalog.specs.Distribution.{spread, with_colocation, with_group}
use Rattle.cq_catalog.specs.Ranges.{ends}
use Rattle.cq_catalog.specs.Whole.{IsCut, IsPlaced, IsTable, HasId, spread_in, IsWhole, IsLocalAt, TakesIds, CanOpen}
use Rattle.cq_catalog.specs.declared.decision.Target.TheVariants.{Opens}
use Rattle.cq_catalog.specs.declared.info.TableInfo.{TableInfo}
use Rattle.cq_catalog.specs.declared.info.Colocation.{Colocation}
use Rattle.cq_catalog.specs.declared.info.Place.{Place}
use Rattle.cq_catalog.specs.declared.info.Place.TheVariants.{Local, Distributed, Reference}

pub got_there : {X : Type 0} (xs : List X) (i : ℕ) → i < length xs → (x : X) × (slice_get xs i ≡ Some x)
got_there [] i h = absurd (omega arith)
got_there (x ∷ xs) zero h = (x, refl)
got_there (x ∷ xs) (suc i) h = got_there xs i (omega arith)

-- a table after one of them is put into another place: that one, or another
pub placed_cases : (ts : List TableInfo) (n : ℕ) (place : Place) (i : ℕ) (u : TableInfo) → slice_get (with_place ts n place) i ≡ Some u →
    (t : TableInfo) × (slice_get ts i ≡ Some t) × (((i ≡ n) × (record t { place = place } ≡ u)) ⊎ (t ≡ u))
placed_cases [] n place i u h = absurd (grind (arith, common_steps, h))
placed_cases (t ∷ ts) zero place zero u h = (t, refl, inl (refl, same_Some _ u h))
placed_cases (t ∷ ts) zero place (suc i) u h = (u, h, inr refl)
placed_cases (t ∷ ts) (suc n) place zero u h = (t, refl, inr (same_Some t u h))
placed_cases (t ∷ ts) (suc n) place (suc i) u h =
    let r = placed_cases ts n place i u h in
    (r.0, r.1, elim r.2 [ inl p ↦ inl (ap suc p.0, p.1) | inr e ↦ inr e ])

pub placed_length : (ts : List TableInfo) (n : ℕ) (place : Place) → length (with_place ts n place) ≡ length ts
placed_length [] n place = refl
placed_length (t ∷ ts) zero place = refl
placed_length (t ∷ ts) (suc n) place = ap suc (placed_length ts n place)

spread_cons : (u : TableInfo) (us : List TableInfo) → spread_in (u ∷ us) ≡ 0 + cond (not (is_local u.place)) 1 0 + spread_in us
spread_cons u us = sum_by-append (λ (t : TableInfo). cond (not (is_local t.place)) 1 0) (u ∷ []) us

-- one more table isn't local
pub spread_more : (ts : List TableInfo) (n : ℕ) (place : Place) (t : TableInfo) → slice_get ts n ≡ Some t → is_local t.place ≡ true → is_local place ≡ false → spread_in (with_place ts n place) ≡ spread_in ts + 1
spread_more [] n place t at local other = absurd (grind (arith, common_steps, at))
spread_more (u ∷ us) zero place t at local other =
    let e : is_local u.place ≡ true = ap (λ (v : TableInfo). is_local v.place) (same_Some u t at) ∙ local in
    let a : spread_in (record u { place = place } ∷ us) ≡ 0 + 1 + spread_in us = spread_cons (record u { place = place }) us ∙ ap (λ b. 0 + cond (not b) 1 0 + spread_in us) other in
    let b : spread_in (u ∷ us) ≡ 0 + 0 + spread_in us = spread_cons u us ∙ ap (λ b. 0 + cond (not b) 1 0 + spread_in us) e in
    a ∙ omega arith
spread_more (u ∷ us) (suc n) place t at local other =
    let h : spread_in (with_place us n place) ≡ spread_in us + 1 = spread_more us n place t at local other in
    let a : spread_in (u ∷ with_place us n place) ≡ 0 + cond (not (is_local u.place)) 1 0 + spread_in (with_place us n place) = spread_cons u (with_place us n place) in
    let b : spread_in (u ∷ us) ≡ 0 + cond (not (is_local u.place)) 1 0 + spread_in us = spread_cons u us in
    a ∙ omega arith

spread_local : (ts : List TableInfo) (t : TableInfo) → is_local t.place ≡ true → spread_in (ts ++ t ∷ []) ≡ spread_in ts
spread_local ts t e =
    let a : spread_in (ts ++ t ∷ []) ≡ spread_in ts + (0 + cond (not (is_local t.place)) 1 0) = sum_by-append (λ (u : TableInfo). cond (not (is_local u.place)) 1 0) ts (t ∷ []) in
    a ∙ ap (λ b. spread_in ts + (0 + cond (not b) 1 0)) e ∙ omega arith

pub whole_created : (c : Contents) (name : List ℕ) (columns : List Column) (key : List ℕ) → IsWhole c → length columns ≤ 64 → length c.tables < 64 → IsWhole (with_table c name columns key)
whole_created c name columns key h few room = record {
  few_tables = rw length-append (omega arith);
  few_groups = h.few_groups;
  colocations = h.colocations;
  cut = h.cut;
  tables = λ i t at. elim (got_more c.tables new i t at) [ inl a ↦ record { few_columns = (h.tables i t a).few_columns; placed = (h.tables i t a).placed } | inr p ↦ subst (IsTable (with_table c name columns key)) p.1 (record { few_columns = few; placed = tt }) ];
  apart = λ i j t u id at bt ti ui. elim (got_more c.tables new i t at) [
    | inl a ↦ elim (got_more c.tables new j u bt) [ inl b ↦ h.apart i j t u id a b ti ui | inr q ↦ absurd (subst (λ (v : TableInfo). HasId c.colocations v.place id) (sym q.1) ui) ]
    | inr p ↦ absurd (subst (λ (v : TableInfo). HasId c.colocations v.place id) (sym p.1) ti)
  ];
  ids = rw (spread_local c.tables new refl) h.ids;
}
  where
    new : TableInfo
    new = record { name = name; columns = columns; key = key; place = Local }

later_placed : (c d : Contents) (place : Place) → length c.colocations ≤ length d.colocations → c.groups ≤ d.groups → c.next_shard ≤ d.next_shard →
    ((k : ℕ) → k < length c.colocations → slice_get d.colocations k ≡ slice_get c.colocations k) → IsPlaced c place → IsPlaced d place
later_placed c d Local cs gs ids same h = tt
later_placed c d (Distributed column k first) cs gs ids same h = let p : k < length c.colocations = h.0 in let q : first + count_in (slice_get c.colocations k) ≤ c.next_shard = h.1 in (omega arith, rw (same k p) (omega arith))
later_placed c d (Reference group shard) cs gs ids same h = let p : group < c.groups = h.0 in let q : shard < c.next_shard = h.1 in (omega arith, omega arith)

earlier_id : (c : Contents) (cs : List Colocation) (place : Place) (id : ℕ) → ((k : ℕ) → k < length c.colocations → slice_get cs k ≡ slice_get c.colocations k) → IsPlaced c place → HasId cs place id → HasId c.colocations place id
earlier_id c cs Local id same p h = h
earlier_id c cs (Distributed column k first) id same p h = let q : slice_get cs k ≡ slice_get c.colocations k = same k p.0 in subst (λ (o : Option Colocation). (first ≤ id) × (id < first + count_in o)) q h
earlier_id c cs (Reference group shard) id same p h = h

pub whole_opened : (c : Contents) (kind : Kind) (count : ℕ) (joinable : Bool) → IsWhole c → CanOpen c (Opens count joinable) → IsWhole (with_colocation c kind count joinable)
whole_opened c kind count joinable h can =
    let some : 0 < count = can.0 in
    let few : count ≤ 128 = can.1 in
    let room : c.groups + count ≤ 512 = can.2 in
    record {
      few_tables = h.few_tables;
      few_groups = room;
      colocations = let k : length c.colocations ≤ c.groups = h.colocations in rw length-append (omega arith);
      cut = λ i g at. elim (got_more c.colocations new i g at) [
        | inl a ↦ let w : g.first_group + g.count ≤ c.groups = (h.cut i g a).within in record { some = (h.cut i g a).some; few = (h.cut i g a).few; cut = (h.cut i g a).cut; within = omega arith }
        | inr p ↦ subst (IsCut (c.groups + count)) p.1 (record { some = some; few = few; cut = refl; within = omega arith })
      ];
      tables = λ i t at. record { few_columns = (h.tables i t at).few_columns; placed = later_placed c (with_colocation c kind count joinable) t.place (rw length-append (omega arith)) (omega arith) (omega arith) (λ k below. got_before c.colocations (new ∷ []) k below) (h.tables i t at).placed };
      apart = λ i j t u id at bt ti ui. h.apart i j t u id at bt
          (earlier_id c (c.colocations ++ new ∷ []) t.place id (λ k below. got_before c.colocations (new ∷ []) k below) (h.tables i t at).placed ti)
          (earlier_id c (c.colocations ++ new ∷ []) u.place id (λ k below. got_before c.colocations (new ∷ []) k below) (h.tables j u bt).placed ui);
      ids = h.ids;
    }
  where
    new : Colocation
    new = record { kind = kind; count = count; first_group = c.groups; joinable = joinable; ends = ends count }

pub whole_grouped : (c : Contents) → IsWhole c → c.groups + 1 ≤ 512 → IsWhole (with_group c)
whole_grouped c h room = record {
  few_tables = h.few_tables;
  few_groups = room;
  colocations = let k : length c.colocations ≤ c.groups = h.colocations in omega arith;
  cut = λ i g at. let w : g.first_group + g.count ≤ c.groups = (h.cut i g at).within in record { some = (h.cut i g at).some; few = (h.cut i g at).few; cut = (h.cut i g at).cut; within = omega arith };
  tables = λ i t at. record { few_columns = (h.tables i t at).few_columns; placed = later_placed c (with_group c) t.place (omega arith) (omega arith) (omega arith) (λ k below. refl) (h.tables i t at).placed };
  apart = h.apart;
  ids = h.ids;
}

-- ids that are given out are below the next
given_out : (c : Contents) (place : Place) (id : ℕ) → IsPlaced c place → HasId c.colocations place id → id < c.next_shard
given_out c Local id p h = absurd h
given_out c (Distributed column k first) id p h = let a : first + count_in (slice_get c.colocations k) ≤ c.next_shard = p.1 in let b : id < first + count_in (slice_get c.colocations k) = h.1 in omega arith
given_out c (Reference group shard) id p h = let a : shard < c.next_shard = p.1 in let e : id ≡ shard = h in omega arith

-- and those to be given out aren't
not_yet : (c : Contents) (place : Place) (shards id : ℕ) → TakesIds c place shards → HasId c.colocations place id → c.next_shard ≤ id
not_yet c Local shards id takes h = absurd h
not_yet c (Distributed column k first) shards id takes h = let a : first ≡ c.next_shard = takes.1 in let b : first ≤ id = h.0 in omega arith
not_yet c (Reference group shard) shards id takes h = let a : shard ≡ c.next_shard = takes.1 in let e : id ≡ shard = h in omega arith

taken_placed : (c : Contents) (n : ℕ) (place : Place) (shards : ℕ) → TakesIds c place shards → IsPlaced (spread c n place shards) place
taken_placed c n Local shards takes = absurd takes
taken_placed c n (Distributed column k first) shards takes = let a : first ≡ c.next_shard = takes.1 in let e : shards ≡ count_in (slice_get c.colocations k) = takes.2 in (takes.0, omega arith)
taken_placed c n (Reference group shard) shards takes = let a : shard ≡ c.next_shard = takes.1 in let e : shards ≡ 1 = takes.2 in (takes.0, omega arith)

taken_few : (c : Contents) (place : Place) (shards : ℕ) → IsWhole c → TakesIds c place shards → shards ≤ 128
taken_few c Local shards h takes = absurd takes
taken_few c (Distributed column k first) shards h takes =
    let g = got_there c.colocations k takes.0 in
    let f : g.0.count ≤ 128 = (h.cut k g.0 g.1).few in
    let e : count_in (slice_get c.colocations k) ≡ g.0.count = ap count_in g.1 in
    let s : shards ≡ count_in (slice_get c.colocations k) = takes.2 in
    omega arith
taken_few c (Reference group shard) shards h takes = let e : shards ≡ 1 = takes.2 in omega arith

taken_spread : (c : Contents) (place : Place) (shards : ℕ) → TakesIds c place shards → is_local place ≡ false
taken_spread c Local shards takes = absurd takes
taken_spread c (Distributed column k first) shards takes = refl
taken_spread c (Reference group shard) shards takes = refl

pub whole_spread : (c : Contents) (n : ℕ) (place : Place) (shards : ℕ) → IsWhole c → IsLocalAt c n → TakesIds c place shards → IsWhole (spread c n place shards)
whole_spread c n place shards h local takes = record {
  few_tables = rw (placed_length c.tables n place) h.few_tables;
  few_groups = h.few_groups;
  colocations = h.colocations;
  cut = h.cut;
  tables = λ i u at. table i u (placed_cases c.tables n place i u at);
  apart = λ i j t u id at bt ti ui. apart i j t u id (placed_cases c.tables n place i t at) (placed_cases c.tables n place j u bt) ti ui;
  ids =
      let few : shards ≤ 128 = taken_few c place shards h takes in
      let old : c.next_shard ≤ 102008 + 128 * spread_in c.tables = h.ids in
      rw (spread_more c.tables n place local.0 local.1 (ap is_local local.2) (taken_spread c place shards takes)) (omega arith);
}
  where
    table : (i : ℕ) (u : TableInfo) → (t : TableInfo) × (slice_get c.tables i ≡ Some t) × (((i ≡ n) × (record t { place = place } ≡ u)) ⊎ (t ≡ u)) → IsTable (spread c n place shards) u
    table i u p = elim p.2 [
      | inl q ↦ subst (IsTable (spread c n place shards)) q.1 (record { few_columns = (h.tables i p.0 p.1).few_columns; placed = taken_placed c n place shards takes })
      | inr e ↦ subst (IsTable (spread c n place shards)) e (record { few_columns = (h.tables i p.0 p.1).few_columns; placed = later_placed c (spread c n place shards) p.0.place (omega arith) (omega arith) (omega arith) (λ k below. refl) (h.tables i p.0 p.1).placed })
    ]

    HasIt : TableInfo → ℕ → Type 0
    HasIt u id = HasId c.colocations u.place id

    clash : (i id : ℕ) (t : TableInfo) → slice_get c.tables i ≡ Some t → HasIt t id → HasId c.colocations place id → ⊥
    clash i id t at ti new =
        let a : id < c.next_shard = given_out c t.place id (h.tables i t at).placed ti in
        let b : c.next_shard ≤ id = not_yet c place shards id takes new in
        omega arith

    apart : (i j : ℕ) (t u : TableInfo) (id : ℕ) →
        (v : TableInfo) × (slice_get c.tables i ≡ Some v) × (((i ≡ n) × (record v { place = place } ≡ t)) ⊎ (v ≡ t)) →
        (w : TableInfo) × (slice_get c.tables j ≡ Some w) × (((j ≡ n) × (record w { place = place } ≡ u)) ⊎ (w ≡ u)) → HasIt t id → HasIt u id → i ≡ j
    apart i j t u id p q ti ui = elim p.2 [
      | inl a ↦ elim q.2 [
        | inl b ↦ a.0 ∙ sym b.0
        | inr e ↦ absurd (clash j id q.0 q.1 (subst (λ (v : TableInfo). HasIt v id) (sym e) ui) (subst (λ (v : TableInfo). HasIt v id) (sym a.1) ti))
      ]
      | inr d ↦ elim q.2 [
        | inl b ↦ absurd (clash i id p.0 p.1 (subst (λ (v : TableInfo). HasIt v id) (sym d) ti) (subst (λ (v : TableInfo). HasIt v id) (sym b.1) ui))
        | inr e ↦ h.apart i j p.0 q.0 id p.1 q.1 (subst (λ (v : TableInfo). HasIt v id) (sym d) ti) (subst (λ (v : TableInfo). HasIt v id) (sym e) ui)
      ]
    ]

-- The passes of a session as they are given out, and as they come back.
use Rattle.std.proofs.Common.{◌≡◌, ℕ, zero, suc, List, [], ◌∷◌, length, map, refl, sym, ap, ◌∙◌, subst, arith, Some, slice_get}
use Rattle.std.proofs.lemmas.List.{append-nil}
use Rattle.std.proofs.lemmas.Option.{same_Some}
use Rattle.std.specs.List.{AllZip, AllByRecursion}
use Rattle.atomic_table.specs.Seated.{TableId}
use Rattle.cq_value.specs.Tables.{empty_table}
use Rattle.cq_store.specs.Stores.{StoreState}
use Rattle.cq_history.proofs.Lists.{all_at}
use Rattle.cq_group.specs.declared.group.GroupState.{GroupState}
use Rattle.cq_group.specs.Groups.{entries_of, outlines}
use Rattle.cq_cell.specs.declared.view.Key.{Key}
use Rattle.cq_cell.specs.Many.{IsFirst, IsBack, origin_in}
use Rattle.cq_cell.specs.Turn.{IsAt}
use Rattle.cq_reach.specs.Seen.{seen_of, all_seen}
use Rattle.cq_reach.proofs.Growth.{got, got_below}
use Rattle.cq_shared.specs.declared.content.Shard.{Shard}
use Rattle.cq_shared.specs.Terms.{Terms}
use Rattle.cq_shared.specs.Blocks.{MayShare, IsShared, AreShared}
use Rattle.cq_shared.specs.Notes.{IsShard}
use Rattle.cq_shared.specs.Quiet.{GoOn}
use Rattle.cq_shared.specs.Seen.{Pass, group_of, seen_since}
use Rattle.cq_shared.proofs.Sharing.{all_stand}
use Rattle.cq_shared.proofs.Turning.{cell_at}
use Rattle.cq_desk.specs.Desks.{known_by, IsOwn, IsReady}

-- ---- lists

-- a map over a map
pub map_twice : {A B D : Type 0} (f : A → B) (h : B → D) (xs : List A) → map h (map f xs) ≡ map (λ (x : A). h (f x)) xs
map_twice f h [] = refl
map_twice f h (x ∷ xs) = ap (λ ys. h (f x) ∷ ys) (map_twice f h xs)

-- the item beside one
record Beside {A B : Type 0} (R : A → B → Type 0) (xs : List A) (k : ℕ) (y : B) : Type 0 where
  item : A
  there : slice_get xs k ≡ Some item
  holds : R item y

beside : {A B : Type 0} (R : A → B → Type 0) (xs : List A) (ys : List B) → AllZip R xs ys → (k : ℕ) (y : B) → slice_get ys k ≡ Some y → Beside R xs k y
beside R [] [] h k y e = cc
beside R [] (b ∷ ys) h k y e = absurd h
beside R (a ∷ xs) [] h k y e = absurd h
beside R (a ∷ xs) (b ∷ ys) h zero y e = record { item = a; there = refl; holds = subst (R a) (same_Some b y e) h.0 }
beside R (a ∷ xs) (b ∷ ys) h (suc k) y e = let r = beside R xs ys h.1 k y e in record { item = r.item; there = r.there; holds = r.holds }

as_many : {A B D : Type 0} (R : A → B → Type 0) (f : A → D) (xs : List A) (ys : List B) → AllZip R xs ys → length ys ≡ length (map f xs)
as_many R f [] [] h = refl
as_many R f [] (y ∷ ys) h = absurd h
as_many R f (x ∷ xs) [] h = absurd h
as_many R f (x ∷ xs) (y ∷ ys) h = ap suc (as_many R f xs ys h.1)

-- the table ids of cells
abbrev pub ids : {X C : Type 0} → List (TableId × Key (Shard X C)) → List TableId
ids {X} {C} cs = map (λ (c : TableId × Key (Shard X C)). c.0) cs

-- ---- as they are given out

-- the opening of a pass is the group at its place
record IsOpening {X C : Type 0} (state : X → StoreState) (terms : C → Terms) (rules : C) (groups : List (GroupState X)) (g : ℕ) (p : Pass X C) : Type 0 where
  opening : Shard X C
  origin : p.place.me.0.origin ≡ Some opening
  group : slice_get groups g ≡ Some opening.group
  ruled : opening.rules.value ≡ rules
  nothing : p.place.me.0.news ≡ []
  stands : IsShard state terms opening opening []

seen_each : {X C : Type 0} (rules : C) (numbers : List ℕ) (n : ℕ) (groups : List (GroupState X)) (cs : List (TableId × Key (Shard X C))) (row : List (Pass X C)) → AllZip (IsShared rules) groups (map origin_in cs) → AllZip (IsFirst numbers n) cs row →
    map (λ (p : Pass X C). known_by p) row ≡ all_seen groups
seen_each rules numbers n [] [] [] a b = refl
seen_each rules numbers n [] [] (p ∷ row) a b = absurd b
seen_each rules numbers n [] (c ∷ cs) row a b = absurd a
seen_each rules numbers n (g ∷ gs) [] row a b = absurd a
seen_each rules numbers n (g ∷ gs) (c ∷ cs) [] a b = absurd b
seen_each {X} {C} rules numbers n (g ∷ gs) (c ∷ cs) (p ∷ row) a b =
    let o : GroupState X = c.1.origin.value.group in
    let plain : seen_since (Some o) [] ≡ seen_of o = λ i. record { journal = record { number = o.journal.group; opening = o.journal.opening; base = λ table. empty_table; entries = append-nil (entries_of o) i }; tables = outlines o; nodes = o.nodes } in
    let one : known_by p ≡ seen_of g = ap (λ m. seen_since (group_of m.0.origin) m.0.news) b.0.me ∙ (plain ∙ ap (λ (h : GroupState X). seen_of h) a.0.0) in
    let rest = seen_each rules numbers n gs cs row a.1 b.1 in
    λ i. one i ∷ rest i

module _ {X C : Type 0} (state : X → StoreState) (terms : C → Terms) (rules : C) (numbers : List ℕ) (groups : List (GroupState X)) (cs : List (TableId × Key (Shard X C))) (roots : List (Pass X C)) (rows : List (List (Pass X C)))
    (may : AllByRecursion (MayShare state terms rules) groups) (shared : AreShared numbers rules groups cs roots rows) (n : ℕ) (row : List (Pass X C)) (first : AllZip (IsFirst numbers n) cs row) where
  opening_at : (g : ℕ) (p : Pass X C) → slice_get row g ≡ Some p → IsOpening state terms rules groups g p
  opening_at g p there =
      let c = beside (IsFirst numbers n) cs row first g p there in
      let o = origin_in c.item in
      let at : slice_get shared.shards g ≡ Some o = subst (λ (xs : List (Shard X C)). slice_get xs g ≡ Some o) shared.opened.values (cell_at origin_in cs g c.item c.there) in
      let h = beside (IsShared rules) groups shared.shards shared.are g o at in record {
        opening = o;
        origin = ap (λ m. m.0.origin) c.holds.me;
        group = h.there ∙ ap Some (sym h.holds.0);
        ruled = h.holds.1;
        nothing = ap (λ m. m.0.news) c.holds.me;
        stands = all_at (λ (x : Shard X C). IsShard state terms x x []) shared.shards g o (all_stand state terms rules groups shared.shards shared.are may) at;
      }

  own_first : (g : ℕ) (p : Pass X C) → slice_get row g ≡ Some p → IsOwn state terms numbers n p.place
  own_first g p there =
      let c = beside (IsFirst numbers n) cs row first g p there in
      let o = opening_at g p there in
      let me = c.holds.me in record {
        rests = (ap (λ m. m.0.live) me, ap (λ m. m.0.root) me, ap (λ m. m.0.turn) me, ap (λ m. m.1) me);
        numbered = sym (ap (λ m. m.0.number) me);
        block = ap (λ m. m.0.sessions) me;
        stood = record { opening = o.opening; origin = o.origin; shard = o.opening; stands = subst (IsShard state terms o.opening o.opening) (sym o.nothing) o.stands };
      }

  -- the passes of a session are ready
  pub first_ready : IsReady state terms (ids cs) numbers row n
  first_ready = record {
    at = record {
      count = as_many (IsFirst numbers n) (λ (c : TableId × Key (Shard X C)). c.0) cs row first;
      each = λ k z q e f.
          let c = beside (IsFirst numbers n) cs row first k q f in
          subst (λ (i : TableId). IsAt i q.place) (same_Some c.item.0 z (sym (cell_at (λ (d : TableId × Key (Shard X C)). d.0) cs k c.item c.there) ∙ e)) c.holds.at;
    };
    own = own_first;
  }

  -- they have seen the groups as these are shared
  pub first_seen : map (λ (p : Pass X C). known_by p) row ≡ all_seen groups
  first_seen = seen_each rules numbers n groups cs row (subst (AllZip (IsShared rules) groups) (sym shared.opened.values) shared.are) first

  -- and however they go on, the opening of each is the group at its place
  pub opened_at : (passes : List (Pass X C)) → GoOn row passes → (g : ℕ) (p : Pass X C) (o : Shard X C) → slice_get passes g ≡ Some p → p.place.me.0.origin ≡ Some o → (slice_get groups g ≡ Some o.group) × (o.rules.value ≡ rules)
  opened_at passes on g p o there is =
      let low = got_below passes g p there in
      let count = on.count in
      let a = got row g (omega (arith, low, count)) in
      let b = opening_at g a.0 a.1 in
      let same : b.opening ≡ o = same_Some b.opening o (sym b.origin ∙ (sym (on.each g a.0 p a.1 there).same.2 ∙ is)) in
      subst (λ (x : Shard X C). (slice_get groups g ≡ Some x.group) × (x.rules.value ≡ rules)) same (b.group, b.ruled)

-- ---- as they come back

module _ {X C : Type 0} (state : X → StoreState) (terms : C → Terms) (sessions : List ℕ) (n : ℕ) where
  each_back : (cs : List (TableId × Key (Shard X C))) (row : List (Pass X C)) → length row ≡ length (ids cs) → ((k : ℕ) (z : TableId) (q : Pass X C) → slice_get (ids cs) k ≡ Some z → slice_get row k ≡ Some q → IsAt z q.place) →
      ((g : ℕ) (p : Pass X C) → slice_get row g ≡ Some p → IsOwn state terms sessions n p.place) → AllZip (IsBack n) cs row
  each_back [] [] long at own = tt
  each_back [] (p ∷ row) long at own = absurd (omega (arith, long))
  each_back (c ∷ cs) [] long at own = absurd (omega (arith, long))
  each_back (c ∷ cs) (p ∷ row) long at own =
      let o = own 0 p refl in (
        record { at = at 0 c.0 p refl refl; rests = o.rests; own = sym o.numbered },
        each_back cs row (omega (arith, long)) (λ k z q e f. at (suc k) z q e f) (λ g q e. own (suc g) q e),
      )

  -- passes that are ready are at rest, and can come back
  pub come_back : (cs : List (TableId × Key (Shard X C))) (row : List (Pass X C)) → IsReady state terms (ids cs) sessions row n → AllZip (IsBack n) cs row
  come_back cs row ready = each_back cs row ready.at.count ready.at.each ready.own

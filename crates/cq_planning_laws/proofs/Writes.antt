-- The groups that a write touches.
use Rattle.std.proofs.Common.{◌≡◌, ◌+◌, ◌<◌, inl, inr, ℕ, true, List, [], ◌∷◌, map, refl, sym, subst, arith, Some, None, zero-add}
use Rattle.std.specs.Prelude.{nat_eq}
use Rattle.std.specs.List.{AllByRecursion}
use Rattle.cq_value.proofs.Truths.{two_ways, same_number}
use Rattle.cq_value.specs.declared.value.Value.{Value}
use Rattle.cq_tree.specs.declared.expression.Cond.{Cond}
use Rattle.cq_tree.specs.declared.write.ShardOp.{ShardOp}
use Rattle.cq_tree.specs.declared.write.ShardOp.TheVariants.{Insert, Update, Remove}
use Rattle.cq_meaning.specs.Values.{Row, column}
use Rattle.cq_meaning.specs.Lists.{Has}
use Rattle.cq_meaning.specs.Effects.{table_of}
use Rattle.cq_catalog.specs.Contents.{Contents}
use Rattle.cq_catalog.specs.Placement.{place_at, colocation_at, HasShard, group_of}
use Rattle.cq_catalog.specs.Whole.{IsWhole, IsPlaced}
use Rattle.cq_catalog.specs.declared.info.Place.{Place}
use Rattle.cq_catalog.specs.declared.info.Place.TheVariants.{Local, Distributed, Reference}
use Rattle.cq_planning.specs.Conjuncts.{conjuncts}
use Rattle.cq_planning.specs.Occurrences.{key_values}
use Rattle.cq_planning.specs.Touched.{among, groups_with, groups_at, row_groups, touched_by_where, in_order}
use Rattle.cq_planning.specs.ValueSets.{ValueSet, value_set, has_value}
use Rattle.cq_planning_laws.specs.Laws.{WritesTouch}
use Rattle.cq_planning.specs.Reaching.{RowsReach, RowsAreOf, Reaches, IsTouchedBy}
use Rattle.cq_planning_laws.proofs.Lists.{among_here, among_more, among_only}
use Rattle.cq_planning_laws.proofs.GroupLists.{ascends, among_numbers, numbers_only, in_order_has, in_order_only, placed, Cut, cut_there, group_range, groups_below}
use Rattle.cq_planning_laws.proofs.Rows.{kept_says, set_has, value_there}

among_map : {X : Type 0} (f : X → ℕ) (x : X) (xs : List X) → Has xs x → among (f x) (map f xs) ≡ true
among_map f x [] h = absurd h
among_map f x (y ∷ xs) (inl e) = subst (λ z. among (f z) (map f (y ∷ xs)) ≡ true) e (among_here (f y) (map f xs))
among_map f x (y ∷ xs) (inr h) = among_more (f x) (f y) (map f xs) (among_map f x xs h)

map_among : {X : Type 0} (f : X → ℕ) (g : ℕ) (xs : List X) → among g (map f xs) ≡ true → (x : X) × (g ≡ f x)
map_among f g [] h = cc
map_among f g (y ∷ xs) h = elim (two_ways (nat_eq g (f y))) [
  | inl e ↦ (y, same_number g (f y) e)
  | inr n ↦ (let k : among g (map f xs) ≡ true = rw n at h in map_among f g xs k)
]

module _ (c : Contents) (table at colocation first_shard : ℕ) (t : Cut c table) where
  -- the group of a value of the set is one of its groups
  pub groups_has : (s : ValueSet) (v : Value) → has_value s v ≡ true → among (group_of c table v) (groups_with c table s) ≡ true
  groups_has None v h = let r = group_range c table t v in among_numbers _ _ (group_of c table v) r.0 r.1
  groups_has (Some vs) v h = among_map (group_of c table) v vs (value_there v vs h)

  groups_only : (s : ValueSet) (g : ℕ) → among g (groups_with c table s) ≡ true → HasShard (colocation_at c table) (Distributed at colocation first_shard) g
  groups_only None g h = numbers_only _ _ g h
  groups_only (Some vs) g h =
      let m = map_among (group_of c table) g vs h in
      subst (HasShard (colocation_at c table) (Distributed at colocation first_shard)) (sym m.1) (group_range c table t m.0)

  pub group_below : (v : Value) → group_of c table v < c.groups
  group_below v = groups_below c table t (group_of c table v) (group_range c table t v).1

each_row : {P : Row → Type 0} (rows : List Row) → ((row : Row) → Has rows row → P row) → AllByRecursion P rows
each_row [] f = tt
each_row (r ∷ rows) f = (f r (inl refl), each_row rows (λ row h. f row (inr h)))

module _ (c : Contents) (w : IsWhole c) (table : ℕ) where
  reference_below : (group shard : ℕ) → place_at c table ≡ Reference group shard → group < c.groups
  reference_below group shard e = let p : IsPlaced c (Reference group shard) = subst (IsPlaced c) e (placed c table w) in p.0

  -- a row that the condition keeps is in one of the groups
  pub rows_reach : (filter_ : Cond) (p : Place) → place_at c table ≡ p → (p ≡ Local → ⊥) → RowsReach c (in_order c (groups_at c table p (key_values (value_set [] (conjuncts filter_)) 0 p))) table p filter_
  rows_reach filter_ Local e n = n refl
  rows_reach filter_ (Distributed at colocation first_shard) e n = λ row k.
      let t : Cut c table = cut_there c table at colocation first_shard w e in
      let has : has_value (value_set [] (conjuncts filter_) (0 + at)) (column row (0 + at)) ≡ true = set_has row [] (conjuncts filter_) tt (kept_says row [] filter_ k) (0 + at) in
      let has2 : has_value (value_set [] (conjuncts filter_) (0 + at)) (column row at) ≡ true = subst (λ i. has_value (value_set [] (conjuncts filter_) (0 + at)) (column row i) ≡ true) (zero-add at) has in
      in_order_has c (groups_with c table (value_set [] (conjuncts filter_) (0 + at))) (group_of c table (column row at)) (group_below c table at colocation first_shard t (column row at))
      (groups_has c table at colocation first_shard t (value_set [] (conjuncts filter_) (0 + at)) (column row at) has2)
  rows_reach filter_ (Reference group shard) e n = in_order_has c (group ∷ []) group (reference_below group shard e) (among_here group [])

  own_groups : (sets : ℕ → ValueSet) (start : ℕ) (p : Place) → place_at c table ≡ p → (g : ℕ) → among g (groups_at c table p (key_values sets start p)) ≡ true → HasShard (colocation_at c table) p g
  own_groups sets start Local e g h = cc
  own_groups sets start (Distributed at colocation first_shard) e g h = groups_only c table at colocation first_shard (cut_there c table at colocation first_shard w e) (sets (start + at)) g h
  own_groups sets start (Reference group shard) e g h = among_only g group h

  own_rows : (rows : List Row) (p : Place) → place_at c table ≡ p → (g : ℕ) → among g (row_groups c table p rows) ≡ true → HasShard (colocation_at c table) p g
  own_rows rows Local e g h = cc
  own_rows rows (Distributed at colocation first_shard) e g h =
      let m = map_among (λ (row : Row). group_of c table (column row at)) g rows h in
      subst (HasShard (colocation_at c table) (Distributed at colocation first_shard)) (sym m.1) (group_range c table (cut_there c table at colocation first_shard w e) (column m.0 at))
  own_rows rows (Reference group shard) e g h = (map_among (λ (row : Row). group) g rows h).1

  rows_of_groups : (rows : List Row) (p : Place) → place_at c table ≡ p → (p ≡ Local → ⊥) → RowsAreOf c (in_order c (row_groups c table p rows)) table p rows
  rows_of_groups rows Local e n = n refl
  rows_of_groups rows (Distributed at colocation first_shard) e n = each_row rows (λ row h. in_order_has c (row_groups c table (Distributed at colocation first_shard) rows) (group_of c table (column row at))
      (group_below c table at colocation first_shard (cut_there c table at colocation first_shard w e) (column row at)) (among_map (λ (row : Row). group_of c table (column row at)) row rows h))
  rows_of_groups rows (Reference group shard) e n = each_row rows (λ row h. in_order_has c (row_groups c table (Reference group shard) rows) group (reference_below group shard e) (among_map (λ (row : Row). group) row rows h))

  is_touched_by : (op : ShardOp) (gs : List ℕ) → ((g : ℕ) → among g gs ≡ true → HasShard (colocation_at c (table_of op)) (place_at c (table_of op)) g) → Reaches c (in_order c gs) (place_at c (table_of op)) op →
      IsTouchedBy c (in_order c gs) op
  is_touched_by op gs own reaches = record {
    ascending = ascends (λ g. among g gs) 0 0 c.groups (omega arith);
    own = λ g h. own g (in_order_only c gs g h);
    reaches = reaches;
  }

pub writes_touch : WritesTouch
writes_touch c (Insert table rows) w n = is_touched_by c w table (Insert table rows) (row_groups c table (place_at c table) rows) (own_rows c w table rows (place_at c table) refl) (rows_of_groups c w table rows (place_at c table) refl n)
writes_touch c (Update table filter_ sets) w n = is_touched_by c w table (Update table filter_ sets) (touched_by_where c table filter_) (own_groups c w table (value_set [] (conjuncts filter_)) 0 (place_at c table) refl)
    (rows_reach c w table filter_ (place_at c table) refl n)
writes_touch c (Remove table filter_) w n = is_touched_by c w table (Remove table filter_) (touched_by_where c table filter_) (own_groups c w table (value_set [] (conjuncts filter_)) 0 (place_at c table) refl)
    (rows_reach c w table filter_ (place_at c table) refl n)

-- A row's key is met where some row has the row's values in the key's columns.
use Rattle.std.proofs.Common.{◌≡◌, ◌∙◌, ℕ, ◌<◌, Bool, true, false, cond, List, [], ◌∷◌, ◌++◌, length, map, filter, refl, sym, ap, arith, ◌&&◌, ◌||◌}
use Rattle.std.specs.List.{All, list_any}
use Rattle.std.specs.Ordering.{is_eq, ordering_reverse}
use Rattle.std.specs.declared.cmp.Ordering.{Ordering}
use Rattle.std.specs.declared.cmp.Ordering.TheVariants.{Less, Equal, Greater}
use Rattle.std.proofs.lemmas.List.Elements.{All-filter}
use Rattle.cq_value.proofs.Lists.{any_map}
use Rattle.cq_value.specs.Order.{value_cmp}
use Rattle.cq_value.specs.declared.value.Value.{Value}
use Rattle.cq_value.specs.Tables.{Pair}
use Rattle.cq_value.proofs.OrderLaws.{value_cmp_total}
use Rattle.cq_tree.specs.declared.write.ShardOp.{ShardOp}
use Rattle.cq_tree.specs.declared.write.ShardOp.TheVariants.{Insert, Update, Remove}
use Rattle.cq_meaning.specs.Values.{Row, column, same_value}
use Rattle.cq_meaning.specs.Effects.{same_key, repeats, IsSafeWrite}
use Rattle.cq_meaning.specs.Safety.{IsSafe, IsSafeCondition}
use Rattle.cq_demands.specs.Demands.{has_all, pairs_with}
use Rattle.cq_engine.specs.Keys.{meets}
use Rattle.cq_store.specs.Stores.{has_values, values_at, meets_any}

reversed : (o : Ordering) → is_eq (ordering_reverse o) ≡ is_eq o
reversed Less = refl
reversed Equal = refl
reversed Greater = refl

-- whether two values are the same is asked either way round
same_either_way : (x y : Value) → same_value x y ≡ same_value y x
same_either_way x y = ap is_eq (value_cmp_total.antisymm x y) ∙ reversed (value_cmp y x)

-- a row has a row's values in the key's columns where the two have the same key
has_key : (key : List ℕ) (row other : Row) → has_values (values_at key row) other ≡ same_key key row other
has_key [] row other = refl
has_key (place ∷ key) row other = λ i. same_either_way (column other place) (column row place) i && has_key key row other i

-- the key of one of the rows is met where some row has its values
pub meets_is : (key : List ℕ) (pairs : List Pair) (rows : List Row) → meets_any pairs key rows ≡ meets key (map (λ (p : Pair). p.1) pairs) rows
meets_is key pairs rows = ap (λ (p : Row → Bool). list_any p rows) (λ i row. each row i)
  where
    each : (row : Row) → list_any (λ (p : Pair). has_values (values_at key row) p.1) pairs ≡ list_any (same_key key row) (map (λ (p : Pair). p.1) pairs)
    each row = ap (λ (q : Pair → Bool). list_any q pairs) (λ i p. has_key key row p.1 i) ∙ sym (any_map (same_key key row) (λ (p : Pair). p.1) pairs)

-- the rows of the pairs that have some values
pub rows_picked : (wanted : List (ℕ × Value)) (pairs : List Pair) → map (λ (p : Pair). p.1) (filter (λ (p : Pair). has_values wanted p.1) pairs) ≡ filter (has_values wanted) (map (λ (p : Pair). p.1) pairs)
rows_picked wanted [] = refl
rows_picked wanted (p ∷ ps) =
    let row : Pair → Row = λ q. q.1 in
    let some : List Pair = filter (λ (q : Pair). has_values wanted q.1) ps in
    elim (has_values wanted p.1) as (λ b. map row (cond b (p ∷ some) some) ≡ cond b (p.1 ∷ filter (has_values wanted) (map row ps)) (filter (has_values wanted) (map row ps))) [
      | true ↦ ap (λ rs. p.1 ∷ rs) (rows_picked wanted ps)
      | false ↦ rows_picked wanted ps
    ]

-- where no value is wanted, all rows are those that have the values
pub none_wanted : (wanted : List (ℕ × Value)) (rows : List Row) → length wanted ≡ 0 → filter (has_values wanted) rows ≡ rows
none_wanted [] [] none = refl
none_wanted [] (row ∷ rows) none = ap (λ rs. row ∷ rs) (none_wanted [] rows none)
none_wanted (p ∷ ps) rows none = absurd (omega (arith, none))

-- the rows that have what is demanded
pub demanded_picked : (wanted values : List (ℕ × Value)) (pairs some : List Pair) → wanted ≡ values → some ≡ filter (λ (p : Pair). has_values wanted p.1) pairs → some ≡ pairs_with values pairs
demanded_picked wanted values pairs some same is = is ∙ ap (λ v. pairs_with v pairs) same

-- without a key no row repeats one
pub none_repeats : (key : List ℕ) (there rows : List Row) → length key ≡ 0 → false ≡ repeats key there rows
none_repeats [] there [] none = refl
none_repeats [] there (row ∷ rows) none = none_repeats [] (there ++ row ∷ []) rows none
none_repeats (place ∷ key) there rows none = absurd (omega (arith, none))

-- a write that can be computed over all rows can be over some
pub safe_with : (op : ShardOp) (values : List (ℕ × Value)) (pairs : List Pair) → IsSafeWrite op pairs → IsSafeWrite op (pairs_with values pairs)
safe_with (Insert number rows) values pairs h = tt
safe_with (Update number c sets) values pairs h =
    let some : Pair → Bool = λ p. has_all values p.1 in (
      All-filter some (λ (p : Pair). IsSafeCondition c p.1 []) pairs h.0,
      All-filter some (λ (p : Pair). All (λ s. IsSafe s.value p.1 []) sets) pairs h.1,
      All-filter some (λ (p : Pair). All (λ s. s.column < length p.1) sets) pairs h.2,
    )
safe_with (Remove number c) values pairs h = All-filter (λ (p : Pair). has_all values p.1) (λ (p : Pair). IsSafeCondition c p.1 []) pairs h

-- Queries that the binder lets through are safe, and their rows are within the widths of their outputs.
use Rattle.std.proofs.Common.{◌≡◌, ℕ, zero, suc, ◌+◌, ◌^◌, ◌≤◌, ◌<◌, Bool, true, false, cond, List, [], ◌∷◌, ◌++◌, map, length, take, replicate, refl, sym, ap, subst, arith}
use Rattle.std.specs.Prelude.{filter, fold, ⊤, All, ◌||◌}
use Rattle.std.specs.Ordering.{is_lt}
use Rattle.std.specs.List.{AllByRecursion, flat_map, list_any}
use Rattle.std.proofs.lemmas.List.Elements.{All-from_recursion}
use Rattle.cq_value.proofs.Lists.{all_map, all_both}
use Rattle.cq_value.proofs.Truths.{or_neither}
use Rattle.cq_value.specs.Order.{value_cmp}
use Rattle.cq_value.specs.Tables.{Pair}
use Rattle.cq_value.specs.declared.value.Value.{Value}
use Rattle.cq_value.specs.declared.value.Value.TheVariants.{Null, Int, Text}
use Rattle.cq_tree.specs.declared.expression.Expr.{Expr}
use Rattle.cq_tree.specs.declared.expression.Cond.{Cond}
use Rattle.cq_tree.specs.declared.query.Agg.{Agg}
use Rattle.cq_tree.specs.declared.query.FromTree.{FromTree, Table, Result, Cross', Inner', Left', end_of-FromTree, more_of-FromTree, end_of-Query, more_of-Query}
use Rattle.cq_tree.specs.declared.query.Query.{Query, Query'}
use Rattle.cq_tree.specs.declared.write.Set.{Set}
use Rattle.cq_tree.specs.declared.write.ShardOp.{ShardOp}
use Rattle.cq_tree.specs.declared.query.Agg.TheVariants as agg
use Rattle.cq_tree.specs.declared.query.FromTree as tree
use Rattle.cq_tree.specs.declared.write.ShardOp.TheVariants.{Insert, Update, Remove}
use Rattle.cq_meaning.specs.declared.Group.{Group}
use Rattle.cq_meaning.specs.declared.Columns.{Columns}
use Rattle.cq_meaning.specs.Values.{Row, Results, Tables}
use Rattle.cq_meaning.specs.Expressions.{value_of, keeps, items_of}
use Rattle.cq_meaning.specs.Joins.{product, left_join}
use Rattle.cq_meaning.specs.Groups.{distinct, distinct_if, group_with, groups_of, is_known, known_values, sum_of, lesser_of, greater_of, aggregate, group_row}
use Rattle.cq_meaning.specs.Sorting.{keys_cmp, sorted}
use Rattle.cq_meaning.specs.Queries.{item_rows, outputs_of, columns_in, joins, from_rows, meaning}
use Rattle.cq_meaning.specs.Limits.{is_large_group, has_large_group, is_large_from, is_large}
use Rattle.cq_meaning.specs.Safety.{IsSafe, IsSafeCondition, AreSafeOver, IsSafeAggregate, AreSafeGroups, AreSafeItems, IsSafeOn, IsSafeFrom, IsSafeQuery}
use Rattle.cq_meaning.specs.Widths.{bits, bits_of_aggregate, group_bits, input_bits, from_bits, output_bits, IsBelow, IsBound, IsBoundCondition, IsBoundAggregate, AreBoundItems, IsBoundFrom, IsBoundQuery, IsBoundWrite, Within, AllWithin, Holds}
use Rattle.cq_meaning.specs.Effects.{IsSafeWrite}
use Rattle.cq_meaning_laws.specs.WholeRules.{IsSafeTogether}
use Rattle.cq_meaning_laws.proofs.WidthLaws.{below, safe, safe_condition, sum_below, fits_value, same_length}
use Rattle.cq_meaning_laws.proofs.WithinLaws.{all_filter, all_append, all_take, all_distinct, all_distinct_if, all_sorted, all_of, within_append, within_nulls, within_product, within_left, within_cut}

module _ (results : Results) where
  -- over rows within widths

  pub safe_over : (ks : List ℕ) (es : List Expr) (rows : List Row) → AllByRecursion (IsBound ks (length results)) es → AllWithin ks rows → AreSafeOver es results rows
  safe_over ks es rows h w = All-from_recursion (λ row. All (λ e. IsSafe e row results) es) rows
      (all_both (Within ks) (λ row. ⊤) (λ row. All (λ e. IsSafe e row results) es)
      (λ row v u. All-from_recursion (λ e. IsSafe e row results) es (all_both (IsBound ks (length results)) (λ e. ⊤) (λ e. IsSafe e row results) (λ e b u. safe ks row results v e b) es h (all_of (λ e. ⊤) (λ e. tt) es)))
      rows w (all_of (λ row. ⊤) (λ row. tt) rows))

  pub safe_conditions : (ks : List ℕ) (c : Cond) (rows : List Row) → IsBoundCondition ks (length results) c → AllWithin ks rows → All (λ row. IsSafeCondition c row results) rows
  safe_conditions ks c rows h w = All-from_recursion (λ row. IsSafeCondition c row results) rows
      (all_both (Within ks) (λ row. ⊤) (λ row. IsSafeCondition c row results) (λ row v u. safe_condition ks row results v c h) rows w (all_of (λ row. ⊤) (λ row. tt) rows))

  safe_one : (ks : List ℕ) (e : Expr) (rows : List Row) → IsBound ks (length results) e → AllWithin ks rows → All (λ row. IsSafe e row results) rows
  safe_one ks e rows h w = All-from_recursion (λ row. IsSafe e row results) rows
      (all_both (Within ks) (λ row. ⊤) (λ row. IsSafe e row results) (λ row v u. safe ks row results v e h) rows w (all_of (λ row. ⊤) (λ row. tt) rows))

  within_items : (ks : List ℕ) (row : Row) (es : List Expr) → AllByRecursion (IsBound ks (length results)) es → Within ks row → Within (map (bits ks) es) (items_of es results row)
  within_items ks row [] h w = tt
  within_items ks row (e ∷ es) h w = (below ks row results w e h.0, within_items ks row es h.1 w)

  -- aggregates

  below_known : (ks : List ℕ) (e : Expr) (rows : List Row) → IsBound ks (length results) e → AllWithin ks rows → AllByRecursion (IsBelow (bits ks e)) (known_values e results rows)
  below_known ks e rows h w = all_filter (IsBelow (bits ks e)) is_known (map (λ row. value_of e row results) rows)
      (all_map (Within ks) (IsBelow (bits ks e)) (λ row. value_of e row results) (λ row v. below ks row results v e h) rows w)

  few_filtered : (p : Value → Bool) (vs : List Value) → length (filter p vs) ≤ length vs
  few_filtered p [] = omega arith
  few_filtered p (v ∷ vs) = let h = few_filtered p vs in elim (p v) as (λ b. length (cond b (v ∷ filter p vs) (filter p vs)) ≤ suc (length vs)) [ true ↦ omega (arith, h) | false ↦ omega (arith, h) ]

  length_map : {X Y : Type 0} (f : X → Y) (xs : List X) → length (map f xs) ≡ length xs
  length_map f [] = refl
  length_map f (x ∷ xs) = ap suc (length_map f xs)

  few_known : (e : Expr) (rows : List Row) → length (known_values e results rows) ≤ length rows
  few_known e rows =
      let h = few_filtered is_known (map (λ row. value_of e row results) rows) in
      let k = length_map (λ row. value_of e row results) rows in
      omega (arith, h, k)

  below_lesser : (k : ℕ) (v w : Value) → IsBelow k v → IsBelow k w → IsBelow k (lesser_of v w)
  below_lesser k v Null h l = h
  below_lesser k Null (Int y) h l = l
  below_lesser k Null (Text t) h l = l
  below_lesser k (Int x) (Int y) h l = elim (is_lt (value_cmp (Int y) (Int x))) as (λ b. IsBelow k (cond b (Int y) (Int x))) [ true ↦ l | false ↦ h ]
  below_lesser k (Int x) (Text t) h l = elim (is_lt (value_cmp (Text t) (Int x))) as (λ b. IsBelow k (cond b (Text t) (Int x))) [ true ↦ l | false ↦ h ]
  below_lesser k (Text s) (Int y) h l = elim (is_lt (value_cmp (Int y) (Text s))) as (λ b. IsBelow k (cond b (Int y) (Text s))) [ true ↦ l | false ↦ h ]
  below_lesser k (Text s) (Text t) h l = elim (is_lt (value_cmp (Text t) (Text s))) as (λ b. IsBelow k (cond b (Text t) (Text s))) [ true ↦ l | false ↦ h ]

  below_greater : (k : ℕ) (v w : Value) → IsBelow k v → IsBelow k w → IsBelow k (greater_of v w)
  below_greater k v Null h l = h
  below_greater k Null (Int y) h l = l
  below_greater k Null (Text t) h l = l
  below_greater k (Int x) (Int y) h l = elim (is_lt (value_cmp (Int x) (Int y))) as (λ b. IsBelow k (cond b (Int y) (Int x))) [ true ↦ l | false ↦ h ]
  below_greater k (Int x) (Text t) h l = elim (is_lt (value_cmp (Int x) (Text t))) as (λ b. IsBelow k (cond b (Text t) (Int x))) [ true ↦ l | false ↦ h ]
  below_greater k (Text s) (Int y) h l = elim (is_lt (value_cmp (Text s) (Int y))) as (λ b. IsBelow k (cond b (Int y) (Text s))) [ true ↦ l | false ↦ h ]
  below_greater k (Text s) (Text t) h l = elim (is_lt (value_cmp (Text s) (Text t))) as (λ b. IsBelow k (cond b (Text t) (Text s))) [ true ↦ l | false ↦ h ]

  below_folded : (f : Value → Value → Value) (k : ℕ) → ((v w : Value) → IsBelow k v → IsBelow k w → IsBelow k (f v w)) → (best : Value) (vs : List Value) → IsBelow k best → AllByRecursion (IsBelow k) vs → IsBelow k (fold f best vs)
  below_folded f k h best [] b w = b
  below_folded f k h best (v ∷ vs) b w = below_folded f k h (f best v) vs (h best v b w.0) w.1

  below_aggregate : (ks : List ℕ) (rows : List Row) (a : Agg) → AllWithin ks rows → length rows ≤ 2 ^ 31 → IsBoundAggregate ks (length results) a → IsBelow (bits_of_aggregate ks a) (aggregate results rows a)
  below_aggregate ks rows agg.CountAll w few h = few
  below_aggregate ks rows (agg.Count e) w few h = let k = few_known e rows in omega (arith, k, few)
  below_aggregate ks rows (agg.Sum e) w few h = let k = few_known e rows in sum_below (bits ks e) (known_values e results rows) (omega (arith, k, few)) (below_known ks e rows h.0 w)
  below_aggregate ks rows (agg.Min e) w few h = below_folded lesser_of (bits ks e) (below_lesser (bits ks e)) Null (known_values e results rows) tt (below_known ks e rows h w)
  below_aggregate ks rows (agg.Max e) w few h = below_folded greater_of (bits ks e) (below_greater (bits ks e)) Null (known_values e results rows) tt (below_known ks e rows h w)

  few_taken : (n : ℕ) (rows : List Row) → length (take n rows) ≤ length rows
  few_taken zero rows = omega arith
  few_taken (suc n) [] = omega arith
  few_taken (suc n) (row ∷ rows) = let h = few_taken n rows in omega (arith, h)

  safe_aggregate : (ks : List ℕ) (rows : List Row) (a : Agg) → AllWithin ks rows → length rows ≤ 2 ^ 31 → IsBoundAggregate ks (length results) a → IsSafeAggregate results rows a
  safe_aggregate ks rows agg.CountAll w few h = tt
  safe_aggregate ks rows (agg.Count e) w few h = safe_one ks e rows h w
  safe_aggregate ks rows (agg.Sum e) w few h = (
    safe_one ks e rows h.0 w,
    λ n.
        let less = few_taken n rows in
        let known = few_known e (take n rows) in
        fits_value (bits ks e + 31) (sum_of (known_values e results (take n rows))) h.1
        (sum_below (bits ks e) (known_values e results (take n rows)) (omega (arith, less, known, few)) (below_known ks e (take n rows) h.0 (all_take (Within ks) n rows w))),
  )
  safe_aggregate ks rows (agg.Min e) w few h = safe_one ks e rows h w
  safe_aggregate ks rows (agg.Max e) w few h = safe_one ks e rows h w

  -- groups

  abbrev GroupFits : List ℕ → List Expr → Group → Type 0
  GroupFits ks keys g = Within (map (bits ks) keys) g.keys × AllWithin ks g.rows

  abbrev IsSmall : Group → Type 0
  IsSmall g = length g.rows ≤ 2 ^ 31

  groups_fit : (ks : List ℕ) (keys : List Expr) (rows : List Row) → AllByRecursion (IsBound ks (length results)) keys → AllWithin ks rows → AllByRecursion (GroupFits ks keys) (groups_of keys results rows)
  groups_fit ks [] rows h w = ((tt, w), tt)
  groups_fit ks (e ∷ es) rows h w =
      let key : Row → Row = items_of (e ∷ es) results in
      all_map (Within (map (bits ks) (e ∷ es))) (GroupFits ks (e ∷ es)) (group_with key rows) (λ k v. (v, all_filter (Within ks) _ rows w)) (distinct (map key rows))
      (all_distinct (Within (map (bits ks) (e ∷ es))) (map key rows) (all_map (Within ks) (Within (map (bits ks) (e ∷ es))) key (λ row v. within_items ks row (e ∷ es) h v) rows w))

  groups_small : (gs : List Group) → list_any is_large_group gs ≡ false → AllByRecursion IsSmall gs
  groups_small [] e = tt
  groups_small (g ∷ gs) e = let p = or_neither (is_large_group g) (list_any is_large_group gs) e in (grind (arith, p.0), groups_small gs p.1)

  within_aggregates : (ks : List ℕ) (g : Group) (aggs : List Agg) → AllWithin ks g.rows → IsSmall g → AllByRecursion (IsBoundAggregate ks (length results)) aggs → Within (map (bits_of_aggregate ks) aggs) (map (aggregate results g.rows) aggs)
  within_aggregates ks g [] w few h = tt
  within_aggregates ks g (a ∷ aggs) w few h = (below_aggregate ks g.rows a w few h.0, within_aggregates ks g aggs w few h.1)

  group_rows_fit : (ks : List ℕ) (keys : List Expr) (aggs : List Agg) (gs : List Group) → AllByRecursion (IsBoundAggregate ks (length results)) aggs → AllByRecursion (GroupFits ks keys) gs → AllByRecursion IsSmall gs → AllWithin (group_bits ks keys aggs) (map (group_row aggs results) gs)
  group_rows_fit ks keys aggs [] h f s = tt
  group_rows_fit ks keys aggs (g ∷ gs) h f s =
      (within_append (map (bits ks) keys) (map (bits_of_aggregate ks) aggs) g.keys (map (aggregate results g.rows) aggs) f.0.0 (within_aggregates ks g aggs f.0.1 s.0 h), group_rows_fit ks keys aggs gs h f.1 s.1)

  safe_groups : (ks : List ℕ) (keys : List Expr) (aggs : List Agg) (having : Cond) (items : List Expr) (gs : List Group) → AllByRecursion (IsBoundAggregate ks (length results)) aggs →
      IsBoundCondition (group_bits ks keys aggs) (length results) having → AllByRecursion (IsBound (group_bits ks keys aggs) (length results)) items →
      AllByRecursion (GroupFits ks keys) gs → AllByRecursion IsSmall gs → AreSafeGroups aggs having items results gs
  safe_groups ks keys aggs having items gs a h i f s =
      let js : List ℕ = group_bits ks keys aggs in
      let rows : List Row = map (group_row aggs results) gs in
      let w : AllWithin js rows = group_rows_fit ks keys aggs gs a f s in
      record {
        aggregates = All-from_recursion (λ g. All (IsSafeAggregate results g.rows) aggs) gs
            (all_both (GroupFits ks keys) IsSmall (λ g. All (IsSafeAggregate results g.rows) aggs)
            (λ g v few. All-from_recursion (IsSafeAggregate results g.rows) aggs (all_both (IsBoundAggregate ks (length results)) (λ a. ⊤) (IsSafeAggregate results g.rows) (λ a b u. safe_aggregate ks g.rows a v.1 few b) aggs a (all_of (λ a. ⊤) (λ a. tt) aggs)))
            gs f s);
        conditions = safe_conditions js having rows h w;
        values = safe_over js items (filter (keeps having results) rows) i (all_filter (Within js) (keeps having results) rows w);
      }

  -- what follows FROM

  pub safe_items : (ks : List ℕ) (filter_ : Cond) (grouped : Bool) (keys : List Expr) (aggs : List Agg) (having : Cond) (items : List Expr) (rows : List Row) →
      AreBoundItems ks (length results) filter_ grouped keys aggs having items → AllWithin ks rows → AreSafeItems filter_ grouped keys aggs having items results rows
  safe_items ks filter_ false keys aggs having items rows h w =
      (safe_conditions ks filter_ rows h.0 w, safe_over ks items (filter (keeps filter_ results) rows) h.1 (all_filter (Within ks) (keeps filter_ results) rows w))
  safe_items ks filter_ true keys aggs having items rows h w =
      let kept : List Row = filter (keeps filter_ results) rows in
      let v : AllWithin ks kept = all_filter (Within ks) (keeps filter_ results) rows w in (
        safe_conditions ks filter_ rows h.0 w,
        safe_over ks keys kept h.1 v,
        λ small. safe_groups ks keys aggs having items (groups_of keys results kept) h.2 h.3 h.4 (groups_fit ks keys kept h.1 v) (groups_small (groups_of keys results kept) small),
      )

  pub items_fit : (ks : List ℕ) (filter_ : Cond) (grouped : Bool) (keys : List Expr) (aggs : List Agg) (having : Cond) (items : List Expr) (rows : List Row) →
      AreBoundItems ks (length results) filter_ grouped keys aggs having items → AllWithin ks rows → has_large_group filter_ grouped keys results rows ≡ false →
      AllWithin (map (bits (input_bits ks grouped keys aggs)) items) (item_rows filter_ grouped keys aggs having items results rows)
  items_fit ks filter_ false keys aggs having items rows h w small =
      all_map (Within ks) (Within (map (bits ks) items)) (items_of items results) (λ row v. within_items ks row items h.1 v) (filter (keeps filter_ results) rows) (all_filter (Within ks) (keeps filter_ results) rows w)
  items_fit ks filter_ true keys aggs having items rows h w small =
      let kept : List Row = filter (keeps filter_ results) rows in
      let v : AllWithin ks kept = all_filter (Within ks) (keeps filter_ results) rows w in
      let js : List ℕ = group_bits ks keys aggs in
      let gs : List Group = groups_of keys results kept in
      all_map (Within js) (Within (map (bits js) items)) (items_of items results) (λ row u. within_items js row items h.4 u) (filter (keeps having results) (map (group_row aggs results) gs))
      (all_filter (Within js) (keeps having results) (map (group_row aggs results) gs) (group_rows_fit ks keys aggs gs h.2 (groups_fit ks keys kept h.1 v) (groups_small gs small)))

  safe_on : (ahead ks js : List ℕ) (on : Cond) (ls rs : List Row) → IsBoundCondition (ahead ++ (ks ++ js)) (length results) on → AllWithin ks ls → AllWithin js rs → IsSafeOn on (length ahead) results ls rs
  safe_on ahead ks js on ls rs h w v =
      let whole : Row → Row → Row = λ l r. replicate (length ahead) Null ++ (l ++ r) in
      All-from_recursion (λ l. All (λ r. IsSafeCondition on (whole l r) results) rs) ls
      (all_both (Within ks) (λ l. ⊤) (λ l. All (λ r. IsSafeCondition on (whole l r) results) rs)
      (λ l a u. All-from_recursion (λ r. IsSafeCondition on (whole l r) results) rs
      (all_both (Within js) (λ r. ⊤) (λ r. IsSafeCondition on (whole l r) results)
      (λ r b u. safe_condition (ahead ++ (ks ++ js)) (whole l r) results
      (within_append ahead (ks ++ js) (replicate (length ahead) Null) (l ++ r) (within_nulls ahead) (within_append ks js l r a b)) on h)
      rs v (all_of (λ r. ⊤) (λ r. tt) rs)))
      ls w (all_of (λ l. ⊤) (λ l. tt) ls))

length_append : (xs ys : List ℕ) → length (xs ++ ys) ≡ length xs + length ys
length_append [] ys = sym (omega arith)
length_append (x ∷ xs) ys = let h = length_append xs ys in omega (arith, h)

length_took : (n : ℕ) (xs : List ℕ) → n ≤ length xs → n ≡ length (take n xs)
length_took zero xs h = refl
length_took (suc n) [] h = absurd (omega arith)
length_took (suc n) (x ∷ xs) h = ap suc (length_took n xs (omega arith))

length_bits : (ks : List ℕ) (es : List Expr) → length (map (bits ks) es) ≡ length es
length_bits ks [] = refl
length_bits ks (e ∷ es) = ap suc (length_bits ks es)

module _ (cs : Columns) where
  columns_of_query : (q : Query) → IsBoundQuery cs q → outputs_of q ≡ length (output_bits cs q)
  columns_of_query (Query' ts ctes ss subs from filter_ grouped keys aggs having items shown distinct order limit offset names) h =
      let ks : List ℕ = input_bits (from_bits cs from) grouped keys aggs in
      length_took shown (map (bits ks) items) (subst (λ n. shown ≤ n) (sym (length_bits ks items)) h.2)

  pub columns_are : (ahead : List ℕ) (f : FromTree) → IsBoundFrom cs ahead f → columns_in f ≡ length (from_bits cs f)
  columns_are ahead (Table t n) h = h
  columns_are ahead (tree.Sub' p (more_of-Query q end_of-Query)) h = columns_of_query q h
  columns_are ahead (Result i n) h = h
  columns_are ahead (Cross' p (more_of-FromTree a end_of-FromTree) q (more_of-FromTree b end_of-FromTree)) h =
      let i = columns_are ahead a h.0 in let j = columns_are (ahead ++ from_bits cs a) b h.1 in let k = length_append (from_bits cs a) (from_bits cs b) in omega (arith, i, j, k)
  columns_are ahead (Inner' p (more_of-FromTree a end_of-FromTree) q (more_of-FromTree b end_of-FromTree) on) h =
      let i = columns_are ahead a h.0 in let j = columns_are (ahead ++ from_bits cs a) b h.1 in let k = length_append (from_bits cs a) (from_bits cs b) in omega (arith, i, j, k)
  columns_are ahead (Left' p (more_of-FromTree a end_of-FromTree) q (more_of-FromTree b end_of-FromTree) on) h =
      let i = columns_are ahead a h.0 in let j = columns_are (ahead ++ from_bits cs a) b h.1 in let k = length_append (from_bits cs a) (from_bits cs b) in omega (arith, i, j, k)

  -- the number of the first column behind a FROM
  behind : (ahead : List ℕ) (f : FromTree) → IsBoundFrom cs ahead f → length (ahead ++ from_bits cs f) ≡ length ahead + columns_in f
  behind ahead f h = let i = columns_are ahead f h in let k = length_append ahead (from_bits cs f) in omega (arith, i, k)

module _ (cs : Columns) (db : Tables) (results : Results) (holds : Holds cs db results) where
  mutual
    from_fits : (ahead : List ℕ) (start : ℕ) (f : FromTree) → IsBoundFrom cs ahead f → is_large_from f db results ≡ false → AllWithin (from_bits cs f) (from_rows f start db results)
    from_fits ahead start (Table t n) h small = holds.in_tables t
    from_fits ahead start (tree.Sub' p (more_of-Query q end_of-Query)) h small = query_fits q h small
    from_fits ahead start (Result i n) h small = holds.in_results i
    from_fits ahead start (Cross' p (more_of-FromTree a end_of-FromTree) q (more_of-FromTree b end_of-FromTree)) h small =
        let s = or_neither (is_large_from a db results) (is_large_from b db results) small in
        within_product (from_bits cs a) (from_bits cs b) (from_rows a start db results) (from_rows b (start + columns_in a) db results) (from_fits ahead start a h.0 s.0) (from_fits (ahead ++ from_bits cs a) (start + columns_in a) b h.1 s.1)
    from_fits ahead start (Inner' p (more_of-FromTree a end_of-FromTree) q (more_of-FromTree b end_of-FromTree) on) h small =
        let s = or_neither (is_large_from a db results) (is_large_from b db results) small in
        all_filter (Within (from_bits cs a ++ from_bits cs b)) (joins on results start) (product (from_rows a start db results) (from_rows b (start + columns_in a) db results))
        (within_product (from_bits cs a) (from_bits cs b) (from_rows a start db results) (from_rows b (start + columns_in a) db results) (from_fits ahead start a h.0 s.0) (from_fits (ahead ++ from_bits cs a) (start + columns_in a) b h.1 s.1))
    from_fits ahead start (Left' p (more_of-FromTree a end_of-FromTree) q (more_of-FromTree b end_of-FromTree) on) h small =
        let s = or_neither (is_large_from a db results) (is_large_from b db results) small in
        subst (λ n. AllWithin (from_bits cs a ++ from_bits cs b) (left_join (joins on results start) n (from_rows a start db results) (from_rows b (start + columns_in a) db results)))
        (sym (columns_are cs (ahead ++ from_bits cs a) b h.1))
        (within_left (from_bits cs a) (from_bits cs b) (joins on results start) (from_rows a start db results) (from_rows b (start + columns_in a) db results) (from_fits ahead start a h.0 s.0) (from_fits (ahead ++ from_bits cs a) (start + columns_in a) b h.1 s.1))

    pub query_fits : (q : Query) → IsBoundQuery cs q → is_large q db results ≡ false → AllWithin (output_bits cs q) (meaning q db results)
    query_fits (Query' ts ctes ss subs from filter_ grouped keys aggs having items shown distinct order limit offset names) h small =
        let s = or_neither (is_large_from from db results) (has_large_group filter_ grouped keys results (from_rows from 0 db results)) small in
        let ks : List ℕ = from_bits cs from in
        let js : List ℕ = map (bits (input_bits ks grouped keys aggs)) items in
        let bound : AreBoundItems ks (length results) filter_ grouped keys aggs having items = subst (λ n. AreBoundItems ks n filter_ grouped keys aggs having items) (sym holds.counted) h.1 in
        let rows : List Row = item_rows filter_ grouped keys aggs having items results (from_rows from 0 db results) in
        within_cut js shown limit offset (sorted (keys_cmp order) (distinct_if distinct rows))
        (all_sorted (Within js) _ (distinct_if distinct rows) (all_distinct_if (Within js) distinct rows
        (items_fit results ks filter_ grouped keys aggs having items (from_rows from 0 db results) bound (from_fits [] 0 from h.0 s.0) s.1)))

  bound_on : (ks : List ℕ) (on : Cond) → IsBoundCondition ks (length cs.results) on → IsBoundCondition ks (length results) on
  bound_on ks on h = subst (λ n. IsBoundCondition ks n on) (sym holds.counted) h

  mutual
    safe_from : (ahead : List ℕ) (f : FromTree) → IsBoundFrom cs ahead f → IsSafeFrom f (length ahead) db results
    safe_from ahead (Table t n) h = tt
    safe_from ahead (tree.Sub' p (more_of-Query q end_of-Query)) h = safe_query q h
    safe_from ahead (Result i n) h = tt
    safe_from ahead (Cross' p (more_of-FromTree a end_of-FromTree) q (more_of-FromTree b end_of-FromTree)) h = (safe_from ahead a h.0, subst (λ n. IsSafeFrom b n db results) (behind cs ahead a h.0) (safe_from (ahead ++ from_bits cs a) b h.1))
    safe_from ahead (Inner' p (more_of-FromTree a end_of-FromTree) q (more_of-FromTree b end_of-FromTree) on) h = (
      safe_from ahead a h.0,
      subst (λ n. IsSafeFrom b n db results) (behind cs ahead a h.0) (safe_from (ahead ++ from_bits cs a) b h.1),
      λ s t. safe_on results ahead (from_bits cs a) (from_bits cs b) on (from_rows a (length ahead) db results) (from_rows b (length ahead + columns_in a) db results) (bound_on _ on h.2) (from_fits ahead (length ahead) a h.0 s) (from_fits (ahead ++ from_bits cs a) (length ahead + columns_in a) b h.1 t),
    )
    safe_from ahead (Left' p (more_of-FromTree a end_of-FromTree) q (more_of-FromTree b end_of-FromTree) on) h = (
      safe_from ahead a h.0,
      subst (λ n. IsSafeFrom b n db results) (behind cs ahead a h.0) (safe_from (ahead ++ from_bits cs a) b h.1),
      λ s t. safe_on results ahead (from_bits cs a) (from_bits cs b) on (from_rows a (length ahead) db results) (from_rows b (length ahead + columns_in a) db results) (bound_on _ on h.2) (from_fits ahead (length ahead) a h.0 s) (from_fits (ahead ++ from_bits cs a) (length ahead + columns_in a) b h.1 t),
    )

    pub safe_query : (q : Query) → IsBoundQuery cs q → IsSafeQuery q db results
    safe_query (Query' ts ctes ss subs from filter_ grouped keys aggs having items shown distinct order limit offset names) h = (
      safe_from [] from h.0,
      λ small. safe_items results (from_bits cs from) filter_ grouped keys aggs having items (from_rows from 0 db results)
          (subst (λ n. AreBoundItems (from_bits cs from) n filter_ grouped keys aggs having items) (sym holds.counted) h.1) (from_fits [] 0 from h.0 small),
    )

-- so is what follows FROM over the rows of several databases

pub safe_together : (cs : Columns) (q : Query) (results : Results) (dbs : List Tables) → IsBoundQuery cs q → length results ≡ length cs.results → IsSafeTogether (λ db. Holds cs db results) q results dbs
safe_together cs (Query' ts ctes ss subs from filter_ grouped keys aggs having items shown distinct order limit offset names) results dbs h counted = λ each.
    safe_items results (from_bits cs from) filter_ grouped keys aggs having items (flat_map (λ db. from_rows from 0 db results) dbs)
    (subst (λ n. AreBoundItems (from_bits cs from) n filter_ grouped keys aggs having items) (sym counted) h.1) (all_fit dbs each)
  where
    all_fit : (ds : List Tables) → AllByRecursion (λ db. Holds cs db results × (is_large_from from db results ≡ false)) ds → AllWithin (from_bits cs from) (flat_map (λ db. from_rows from 0 db results) ds)
    all_fit [] e = tt
    all_fit (d ∷ ds) e = all_append (Within (from_bits cs from)) (from_rows from 0 d results) (flat_map (λ db. from_rows from 0 db results) ds) (from_fits cs d results e.0.0 [] 0 from h.0 e.0.1) (all_fit ds e.1)

pub together_weaker : (P Q : Tables → Type 0) → ((db : Tables) → Q db → P db) → (q : Query) (results : Results) (dbs : List Tables) → IsSafeTogether P q results dbs → IsSafeTogether Q q results dbs
together_weaker P Q f (Query' ts ctes ss subs from filter_ grouped keys aggs having items shown distinct order limit offset names) results dbs h = λ each. h (all_weaker dbs each)
  where
    all_weaker : (ds : List Tables) → AllByRecursion (λ db. Q db × (is_large_from from db results ≡ false)) ds → AllByRecursion (λ db. P db × (is_large_from from db results ≡ false)) ds
    all_weaker [] e = tt
    all_weaker (d ∷ ds) e = ((f d e.0.0, e.0.1), all_weaker ds e.1)

-- writes

pub safe_write : (ks : List ℕ) (op : ShardOp) (pairs : List Pair) → IsBoundWrite ks op → AllByRecursion (λ p. Within ks p.1) pairs → IsSafeWrite op pairs
safe_write ks (Insert table rows) pairs h w = tt
safe_write ks (Update table filter_ sets) pairs h w = (
  over (λ p. IsSafeCondition filter_ p.1 []) (λ p v. safe_condition ks p.1 [] v filter_ h.0),
  over (λ p. All (λ s. IsSafe s.value p.1 []) sets) (λ p v. All-from_recursion (λ s. IsSafe s.value p.1 []) sets (each (λ s. IsSafe s.value p.1 []) (λ s b. safe ks p.1 [] v s.value b.0))),
  over (λ p. All (λ s. s.column < length p.1) sets) (λ p v. All-from_recursion (λ s. s.column < length p.1) sets (each (λ s. s.column < length p.1) (λ s b. let e = same_length ks p.1 v in omega (arith, e, b.1)))),
)
  where
    over : (P : Pair → Type 0) → ((p : Pair) → Within ks p.1 → P p) → All P pairs
    over P f = All-from_recursion P pairs (all_both (λ p. Within ks p.1) (λ p. ⊤) P (λ p v u. f p v) pairs w (all_of (λ p. ⊤) (λ p. tt) pairs))

    each : (P : Set → Type 0) → ((s : Set) → IsBound ks 0 s.value × (s.column < length ks) → P s) → AllByRecursion P sets
    each P f = all_both (λ s. IsBound ks 0 s.value × (s.column < length ks)) (λ s. ⊤) P (λ s b u. f s b) sets h.1 (all_of (λ s. ⊤) (λ s. tt) sets)
safe_write ks (Remove table filter_) pairs h w =
    All-from_recursion (λ p. IsSafeCondition filter_ p.1 []) pairs (all_both (λ p. Within ks p.1) (λ p. ⊤) (λ p. IsSafeCondition filter_ p.1 []) (λ p v u. safe_condition ks p.1 [] v filter_ h) pairs w (all_of (λ p. ⊤) (λ p. tt) pairs))

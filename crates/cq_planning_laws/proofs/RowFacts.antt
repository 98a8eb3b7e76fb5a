-- What is true of each row of a FROM.
use Rattle.std.proofs.Common.{suc, zero, ◌≡◌, ◌+◌, ◌<◌, ◌≤◌, inl, inr, ℕ, Bool, true, false, cond, ◌&&◌, if◌then◌else◌, List, [], ◌∷◌, ◌++◌, length, map, filter, take, drop, replicate, refl, sym, ◌∙◌, ap, subst, arith, length-append, Some, None, Option}
use Rattle.std.specs.Prelude.{nat_lt, nat_eq}
use Rattle.std.specs.List.{AllByRecursion}
use Rattle.std.proofs.lemmas.List.{length-map}
use Rattle.cq_value.specs.declared.value.Value.TheVariants.{Null}
use Rattle.cq_tree.specs.declared.expression.Cond.{Cond}
use Rattle.cq_tree.specs.declared.expression.Expr.{Expr}
use Rattle.cq_tree.specs.declared.query.Agg.{Agg}
use Rattle.cq_tree.specs.declared.query.FromTree.{FromTree, Table, Sub', Result, Cross', Inner', Left', end_of-FromTree, more_of-FromTree, end_of-Query, more_of-Query}
use Rattle.cq_tree.specs.declared.query.Query.{Query, Query'}
use Rattle.cq_meaning.specs.Values.{Row, Tables, Results, column, table_rows, result_at}
use Rattle.cq_meaning.specs.Expressions.{keeps, items_of, value_of}
use Rattle.cq_meaning.specs.Groups.{is_known, groups_of, group_row, distinct_if}
use Rattle.cq_meaning.specs.Joins.{product}
use Rattle.cq_meaning.specs.Sorting.{keys_cmp, sorted, limited}
use Rattle.cq_meaning.specs.Queries.{item_rows, outputs_of, columns_in, joins, from_rows, meaning}
use Rattle.std.specs.Ordering.{is_lt}
use Rattle.cq_value.proofs.Lists.{all_append, all_weaker, all_map}
use Rattle.cq_value.proofs.Truths.{two_ways, same_number, and_both, below_or_not}
use Rattle.cq_meaning_laws.proofs.WithinLaws.{all_take, all_drop, all_sorted, all_distinct_if}
use Rattle.cq_catalog.specs.Contents.{Contents}
use Rattle.cq_catalog.specs.Placement.{place_at}
use Rattle.cq_planning.specs.Conjuncts.{conjuncts, inner_conjuncts, equalities}
use Rattle.cq_planning.specs.Narrowing.{distribution_in, is_at, met_with, narrowed_by, right_sets, sets_in}
use Rattle.cq_planning.specs.Relations.{Distribution, partner_of, is_between}
use Rattle.cq_planning.specs.ValueSets.{ValueSet, has_value}
use Rattle.cq_planning.specs.Database.{shape_in}
use Rattle.cq_planning_laws.specs.Laid.{IsLaidFrom, IsLaid, IsColumnOf}
use Rattle.cq_planning_laws.proofs.Rows.{Says, Agrees, kept_says, pairs_agree, meet_has}
use Rattle.cq_planning_laws.proofs.Columns.{between, pad, column_nulls, in_left, in_right, FitsEach, left_fits, right_fits, says_left, says_right, all_product, all_left_join, all_passed, length_nulls}

abbrev pub IsWide : ℕ → Row → Type 0
IsWide n row = length row ≡ n

-- ---- sets that hold of a column that isn't NULL

abbrev pub FitsKnown : (ℕ → ValueSet) → (ℕ → ValueSet) → ℕ → ℕ → Row → Type 0
FitsKnown sets s start n r = FitsEach sets start n r → (x : ℕ) → start ≤ x → x < start + n → is_known (column (pad start r) x) ≡ true → has_value (s x) (column (pad start r) x) ≡ true

join_known : (sets sa sb : ℕ → ValueSet) (start wa wb : ℕ) (l r : Row) → length l ≡ wa → FitsKnown sets sa start wa l →
    (FitsEach sets start (wa + wb) (l ++ r) → (x : ℕ) → start + wa ≤ x → x < start + wa + wb → is_known (column (pad start (l ++ r)) x) ≡ true → has_value (sb x) (column (pad start (l ++ r)) x) ≡ true) →
    FitsKnown sets (λ x. if nat_lt x (start + wa) then sa x else sb x) start (wa + wb) (l ++ r)
join_known sets sa sb start wa wb l r long left right given x lo hi k = elim (below_or_not x (start + wa)) [
  | inl y ↦ (let same : column (pad start (l ++ r)) x ≡ column (pad start l) x = in_left start l r wa long x y.1 in
      rw y.0 (subst (λ v. has_value (sa x) v ≡ true) (sym same) (left (left_fits sets start l r wa wb long given) x lo y.1 (ap is_known (sym same) ∙ k))))
  | inr n ↦ rw n.0 (right given x n.1 (omega (arith, hi)) k)
]

right_known : (sets sb : ℕ → ValueSet) (start wa wb : ℕ) (l r : Row) → length l ≡ wa → FitsKnown sets sb (start + wa) wb r →
    FitsEach sets start (wa + wb) (l ++ r) → (x : ℕ) → start + wa ≤ x → x < start + wa + wb → is_known (column (pad start (l ++ r)) x) ≡ true → has_value (sb x) (column (pad start (l ++ r)) x) ≡ true
right_known sets sb start wa wb l r long right given x lo hi k =
    let same : column (pad start (l ++ r)) x ≡ column (pad (start + wa) r) x = in_right start l r wa long x lo in
    subst (λ v. has_value (sb x) v ≡ true) (sym same) (right (right_fits sets start l r wa wb long given) x lo hi (ap is_known (sym same) ∙ k))

-- ---- the right side of a LEFT JOIN

module _ (left : ℕ → ValueSet) (low mid : ℕ) (row : Row) (holds : (x : ℕ) → low ≤ x → x < mid → is_known (column row x) ≡ true → has_value (left x) (column row x) ≡ true) (y : ℕ) where
  met_step : (e : ℕ × ℕ) (s : ValueSet) → Agrees row e → has_value s (column row y) ≡ true → has_value (met_with left (partner_of low mid y e) s) (column row y) ≡ true
  met_step e s a h = pick (nat_eq e.1 y && is_between low mid e.0) (nat_eq e.0 y && is_between low mid e.1) refl refl
    where
      pick : (b d : Bool) → (nat_eq e.1 y && is_between low mid e.0) ≡ b → (nat_eq e.0 y && is_between low mid e.1) ≡ d → has_value (met_with left (cond b (Some e.0) (cond d (Some e.1) None)) s) (column row y) ≡ true
      pick true d is other =
          let t = and_both (nat_eq e.1 y) (is_between low mid e.0) is in
          let in' = between low mid e.0 t.1 in
          let same : column row e.0 ≡ column row y = a.0 ∙ ap (column row) (same_number e.1 y t.0) in
          meet_has s (left e.0) (column row y) h (subst (λ v. has_value (left e.0) v ≡ true) same (holds e.0 in'.0 in'.1 a.1))
      pick false true is other =
          let t = and_both (nat_eq e.0 y) (is_between low mid e.1) other in
          let in' = between low mid e.1 t.1 in
          let same : column row e.1 ≡ column row y = sym a.0 ∙ ap (column row) (same_number e.0 y t.0) in
          meet_has s (left e.1) (column row y) h (subst (λ v. has_value (left e.1) v ≡ true) same (holds e.1 in'.0 in'.1 (ap is_known (sym a.0) ∙ a.1)))
      pick false false is other = h

  met_fold : (pairs : List (ℕ × ℕ)) (s : ValueSet) → AllByRecursion (Agrees row) pairs → has_value s (column row y) ≡ true → has_value (narrowed_by left low mid y s pairs) (column row y) ≡ true
  met_fold [] s all h = h
  met_fold (e ∷ pairs) s all h = met_fold pairs (met_with left (partner_of low mid y e) s) all.1 (met_step e s all.0 h)

-- a row that the ON keeps has its values in the narrowed sets too
pub right_has : (sets left : ℕ → ValueSet) (key : Option Distribution) (low mid : ℕ) (on : Cond) (rs : Results) (row : Row) → keeps on rs row ≡ true →
    ((x : ℕ) → low ≤ x → x < mid → is_known (column row x) ≡ true → has_value (left x) (column row x) ≡ true) → (y : ℕ) → has_value (sets y) (column row y) ≡ true →
    has_value (right_sets sets left key low mid on y) (column row y) ≡ true
right_has sets left key low mid on rs row k holds y h = elim (two_ways (is_at key y)) [
  | inl t ↦ rw t (met_fold left low mid row holds y (equalities (conjuncts on)) (sets y) (pairs_agree row (conjuncts on) (kept_says row rs on k)) h)
  | inr f ↦ rw f h
]

-- ---- widths

all_any : {X Y : Type 0} (Q : Y → Type 0) (f : X → Y) → ((x : X) → Q (f x)) → (xs : List X) → AllByRecursion Q (map f xs)
all_any Q f h [] = tt
all_any Q f h (x ∷ xs) = (h x, all_any Q f h xs)

taken_long : (n : ℕ) (row : Row) → n ≤ length row → length (take n row) ≡ n
taken_long zero row h = refl
taken_long (suc n) [] h = absurd (omega (arith, h))
taken_long (suc n) (v ∷ row) h = ap suc (taken_long n row (omega (arith, h)))

items_wide : (f : Cond) (grouped : Bool) (keys : List Expr) (aggs : List Agg) (having : Cond) (items : List Expr) (rs : Results) (rows : List Row) →
    AllByRecursion (IsWide (length items)) (item_rows f grouped keys aggs having items rs rows)
items_wide f false keys aggs having items rs rows = all_any (IsWide (length items)) (items_of items rs) (λ row. length-map items (λ e. value_of e row rs)) (filter (keeps f rs) rows)
items_wide f true keys aggs having items rs rows = all_any (IsWide (length items)) (items_of items rs) (λ row. length-map items (λ e. value_of e row rs)) (filter (keeps having rs) (map (group_row aggs rs) (groups_of keys rs (filter (keeps f rs) rows))))

all_limited : (P : Row → Type 0) (limit : Option ℕ) (rows : List Row) → AllByRecursion P rows → AllByRecursion P (limited limit rows)
all_limited P None rows h = h
all_limited P (Some n) rows h = all_take P n rows h

module _ (c : Contents) (widths : ℕ → ℕ) (db : Tables) (rs : Results) where
  pub mean_wide : (q : Query) → IsLaid c widths q → AllByRecursion (IsWide (outputs_of q)) (meaning q db rs)
  mean_wide (Query' cs ctes ss subs from filter_ grouped keys aggs having items shown distinct order limit offset names) h =
      let rows : List Row = item_rows filter_ grouped keys aggs having items rs (from_rows from 0 db rs) in
      let W : Row → Type 0 = IsWide (length items) in
      let a : AllByRecursion W (distinct_if distinct rows) = all_distinct_if W distinct rows (items_wide filter_ grouped keys aggs having items rs (from_rows from 0 db rs)) in
      let b : AllByRecursion W (sorted (keys_cmp order) (distinct_if distinct rows)) = all_sorted W (λ x y. is_lt (keys_cmp order x y)) (distinct_if distinct rows) a in
      let d : AllByRecursion W (limited limit (drop offset (sorted (keys_cmp order) (distinct_if distinct rows)))) =
      all_limited W limit (drop offset (sorted (keys_cmp order) (distinct_if distinct rows))) (all_drop W offset (sorted (keys_cmp order) (distinct_if distinct rows)) b) in
      all_map W (IsWide shown) (λ row. take shown row) (λ row w. taken_long shown row (let s = h.1 in omega (arith, w, s)))
      (limited limit (drop offset (sorted (keys_cmp order) (distinct_if distinct rows)))) d

  -- ---- each row

  abbrev pub HasFacts : (ℕ → ValueSet) → FromTree → ℕ → Row → Type 0
  HasFacts sets f start r = (length r ≡ columns_in f) × AllByRecursion (Says (pad start r)) (inner_conjuncts f) × FitsKnown sets (sets_in c sets f start) start (columns_in f) r

  module _ (wide_tables : (t n : ℕ) → IsColumnOf n (place_at c t) → AllByRecursion (IsWide (length (shape_in c t).kinds)) (table_rows db t)) (wide_results : (i : ℕ) → AllByRecursion (IsWide (widths i)) (result_at rs i)) where
    pub all_facts : (f : FromTree) (sets : ℕ → ValueSet) (start : ℕ) → IsLaidFrom c widths f → AllByRecursion (HasFacts sets f start) (from_rows f start db rs)
    all_facts (Table t n) sets start h = all_weaker (IsWide (length (shape_in c t).kinds)) (HasFacts sets (Table t n) start) (λ r w. (w ∙ h.0, tt, λ given x lo hi k. given x lo hi)) (table_rows db t) (wide_tables t n h.1)
    all_facts (Sub' p (more_of-Query q end_of-Query)) sets start h = all_weaker (IsWide (outputs_of q)) (HasFacts sets (Sub' p (more_of-Query q end_of-Query)) start) (λ r w. (w, tt, λ given x lo hi k. given x lo hi)) (meaning q db rs) (mean_wide q h)
    all_facts (Result i n) sets start h = all_weaker (IsWide (widths i)) (HasFacts sets (Result i n) start) (λ r w. (w ∙ h, tt, λ given x lo hi k. given x lo hi)) (result_at rs i) (wide_results i)
    all_facts (Cross' p (more_of-FromTree a end_of-FromTree) q (more_of-FromTree b end_of-FromTree)) sets start h =
        let wa : ℕ = columns_in a in
        all_product (HasFacts sets a start) (HasFacts sets b (start + wa)) (HasFacts sets (Cross' p (more_of-FromTree a end_of-FromTree) q (more_of-FromTree b end_of-FromTree)) start)
        (λ l r L R. (
          length-append l r ∙ (λ i. L.0 i + R.0 i),
          all_append (Says (pad start (l ++ r))) (inner_conjuncts a) (inner_conjuncts b) (says_left start l r wa L.0 (inner_conjuncts a) L.1) (says_right start l r wa L.0 (inner_conjuncts b) R.1),
          join_known sets (sets_in c sets a start) (sets_in c sets b (start + wa)) start wa (columns_in b) l r L.0 L.2 (right_known sets (sets_in c sets b (start + wa)) start wa (columns_in b) l r L.0 R.2),
        ))
        (from_rows a start db rs) (from_rows b (start + wa) db rs) (all_facts a sets start h.0) (all_facts b sets (start + wa) h.1)
    all_facts (Inner' p (more_of-FromTree a end_of-FromTree) q (more_of-FromTree b end_of-FromTree) on) sets start h =
        let wa : ℕ = columns_in a in
        let cross : AllByRecursion (HasFacts sets (Cross' p (more_of-FromTree a end_of-FromTree) q (more_of-FromTree b end_of-FromTree)) start) (product (from_rows a start db rs) (from_rows b (start + wa) db rs)) =
        all_product (HasFacts sets a start) (HasFacts sets b (start + wa)) (HasFacts sets (Cross' p (more_of-FromTree a end_of-FromTree) q (more_of-FromTree b end_of-FromTree)) start)
        (λ l r L R. (
          length-append l r ∙ (λ i. L.0 i + R.0 i),
          all_append (Says (pad start (l ++ r))) (inner_conjuncts a) (inner_conjuncts b) (says_left start l r wa L.0 (inner_conjuncts a) L.1) (says_right start l r wa L.0 (inner_conjuncts b) R.1),
          join_known sets (sets_in c sets a start) (sets_in c sets b (start + wa)) start wa (columns_in b) l r L.0 L.2 (right_known sets (sets_in c sets b (start + wa)) start wa (columns_in b) l r L.0 R.2),
        ))
        (from_rows a start db rs) (from_rows b (start + wa) db rs) (all_facts a sets start h.0) (all_facts b sets (start + wa) h.1) in
        all_passed (joins on rs start) (λ r g k. (g.0, all_append (Says (pad start r)) (inner_conjuncts a ++ inner_conjuncts b) (conjuncts on) g.1 (kept_says (pad start r) rs on k), g.2))
        (product (from_rows a start db rs) (from_rows b (start + wa) db rs)) cross
    all_facts (Left' p (more_of-FromTree a end_of-FromTree) q (more_of-FromTree b end_of-FromTree) on) sets start h =
        let wa : ℕ = columns_in a in
        let wb : ℕ = columns_in b in
        let sa : ℕ → ValueSet = sets_in c sets a start in
        let sb : ℕ → ValueSet = right_sets sets sa (distribution_in c b (start + wa)) start (start + wa) on in
        all_left_join (HasFacts sets a start) (HasFacts sets b (start + wa)) (HasFacts sets (Left' p (more_of-FromTree a end_of-FromTree) q (more_of-FromTree b end_of-FromTree) on) start)
        (joins on rs start) wb
        (λ l r L R o. (
          length-append l r ∙ (λ i. L.0 i + R.0 i),
          says_left start l r wa L.0 (inner_conjuncts a) L.1,
          join_known sets sa sb start wa wb l r L.0 L.2 (λ given x lo hi k.
              right_has sets sa (distribution_in c b (start + wa)) start (start + wa) on rs (pad start (l ++ r)) o
              (λ z zl zh zk. (let same : column (pad start (l ++ r)) z ≡ column (pad start l) z = in_left start l r wa L.0 z zh in
              subst (λ v. has_value (sa z) v ≡ true) (sym same) (L.2 (left_fits sets start l r wa wb L.0 given) z zl zh (ap is_known (sym same) ∙ zk))))
              x (given x (omega (arith, lo)) (omega (arith, hi)))),
        ))
        (λ l L. (
          length-append l (replicate wb Null) ∙ (λ i. L.0 i + length_nulls wb i),
          says_left start l (replicate wb Null) wa L.0 (inner_conjuncts a) L.1,
          join_known sets sa sb start wa wb l (replicate wb Null) L.0 L.2 (λ given x lo hi k.
              (let nothing : column (pad start (l ++ replicate wb Null)) x ≡ Null = in_right start l (replicate wb Null) wa L.0 x lo ∙ column_nulls (start + wa) wb x in
              let bad : false ≡ true = sym (ap is_known nothing) ∙ k in cc)),
        ))
        (from_rows a start db rs) (from_rows b (start + wa) db rs) (all_facts a sets start h.0) (all_facts b sets (start + wa) h.1)

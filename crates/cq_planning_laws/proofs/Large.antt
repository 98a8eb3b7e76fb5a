-- A group of more rows than the limit over the touched groups alone is one over the whole.
use Rattle.std.proofs.Common.{◌≡◌, ◌+◌, ◌<◌, ◌≤◌, inl, inr, ℕ, Bool, true, false, ◌||◌, ◌⊎◌, List, [], ◌∷◌, length, map, filter, refl, sym, ◌∙◌, ap, subst, arith}
use Rattle.std.specs.Prelude.{nat_lt, ◌^◌}
use Rattle.std.specs.List.{AllByRecursion, list_any}
use Rattle.cq_value.proofs.Truths.{two_ways}
use Rattle.cq_tree.specs.declared.expression.Cond.{Cond}
use Rattle.cq_tree.specs.declared.expression.Expr.{Expr}
use Rattle.cq_tree.specs.declared.query.FromTree.{FromTree, Table, Sub', Result, Cross', Inner', Left', end_of-FromTree, more_of-FromTree, end_of-Query, more_of-Query}
use Rattle.cq_tree.specs.declared.query.Query.{Query, Query'}
use Rattle.cq_meaning.specs.Values.{Row, Tables, Results, table_rows, result_at, same_row}
use Rattle.cq_meaning.specs.Expressions.{keeps, items_of}
use Rattle.cq_meaning.specs.declared.Group.{Group}
use Rattle.cq_meaning.specs.Groups.{groups_of, groups_by, group_with, distinct}
use Rattle.cq_meaning.specs.Limits.{is_large_group, has_large_group, is_large_from, is_large}
use Rattle.cq_meaning.specs.Lists.{Has}
use Rattle.cq_meaning.specs.Queries.{columns_in, from_rows}
use Rattle.cq_meaning.proofs.RowLaws.{same_is, has_distinct}
use Rattle.cq_catalog.specs.Contents.{Contents}
use Rattle.cq_catalog.specs.Placement.{place_at}
use Rattle.cq_catalog.specs.Whole.{IsWhole}
use Rattle.cq_planning.specs.Conjuncts.{conjuncts_of}
use Rattle.cq_planning.specs.Narrowing.{distribution_in, right_sets, sets_in}
use Rattle.cq_planning.specs.Occurrences.{occurrences_from, occurrences_in}
use Rattle.cq_planning.specs.ValueSets.{ValueSet, value_set}
use Rattle.cq_planning.specs.Database.{shape_in}
use Rattle.cq_planning_laws.specs.Laid.{IsLaidFrom, IsLaid, IsColumnOf}
use Rattle.cq_planning.specs.Simple.{IsSteadyFrom, IsSimpleFrom, IsSimple, GivesSimplyFrom, GivesSimply}
use Rattle.cq_planning_laws.proofs.SameRows.{PushesThrough}
use Rattle.cq_planning_laws.proofs.Fewer.{Fewer, fewer_kept, fewer_from}
use Rattle.cq_planning_laws.proofs.RowFacts.{IsWide}
use Rattle.cq_planning_laws.proofs.Narrowing.{Reach, Covers, covers_left, covers_right, kept_alone, kept_same}

-- ---- large groups

more_lt : (m a b : ℕ) → nat_lt m a ≡ true → a ≤ b → nat_lt m b ≡ true
more_lt m a b h l = grind arith

above_some : (m a : ℕ) → nat_lt m a ≡ true → 0 < a
above_some m a h = grind arith

module _ (key : Row → Row) (m : ℕ) where
  mine : Row → Row → Bool
  mine k row = same_row k (key row)

  any_found : (xs ks : List Row) → list_any (λ (g : Group). nat_lt m (length g.rows)) (map (group_with key xs) ks) ≡ true → (k : Row) × (nat_lt m (length (filter (λ row. same_row k (key row)) xs)) ≡ true)
  any_found xs [] h = cc
  any_found xs (k ∷ ks) h = elim (two_ways (nat_lt m (length (filter (λ row. same_row k (key row)) xs)))) [
    | inl y ↦ (k, y)
    | inr n ↦ (let rest : list_any (λ (g : Group). nat_lt m (length g.rows)) (map (group_with key xs) ks) ≡ true = rw n at h in any_found xs ks rest)
  ]

  some_there : (k : Row) (ys : List Row) → 0 < length (filter (λ row. same_row k (key row)) ys) → Has (map key ys) k
  some_there k [] h = absurd (omega (arith, h))
  some_there k (y ∷ ys) h = elim (two_ways (same_row k (key y))) [
    | inl s ↦ inl (sym (same_is k (key y) s))
    | inr n ↦ (let rest : 0 < length (filter (λ row. same_row k (key row)) ys) = rw n at h in inr (some_there k ys rest))
  ]

  any_there : (ys ks : List Row) (k : Row) → Has ks k → nat_lt m (length (filter (λ row. same_row k (key row)) ys)) ≡ true → list_any (λ (g : Group). nat_lt m (length g.rows)) (map (group_with key ys) ks) ≡ true
  any_there ys [] k h l = absurd h
  any_there ys (j ∷ ks) k (inl e) l =
      let t : nat_lt m (length (filter (λ row. same_row j (key row)) ys)) ≡ true = subst (λ z. nat_lt m (length (filter (λ row. same_row z (key row)) ys)) ≡ true) (sym e) l in rw t refl
  any_there ys (j ∷ ks) k (inr h) l = elim (two_ways (nat_lt m (length (filter (λ row. same_row j (key row)) ys)))) [
    | inl y ↦ rw y refl
    | inr n ↦ rw n (any_there ys ks k h l)
  ]

  groups_large : (xs ys : List Row) → Fewer xs ys → list_any (λ (g : Group). nat_lt m (length g.rows)) (groups_by key xs) ≡ true → list_any (λ (g : Group). nat_lt m (length g.rows)) (groups_by key ys) ≡ true
  groups_large xs ys f h =
      let k = any_found xs (distinct (map key xs)) h in
      let more = more_lt m (length (filter (λ row. same_row k.0 (key row)) xs)) (length (filter (λ row. same_row k.0 (key row)) ys)) k.1 (f (λ row. same_row k.0 (key row))) in
      any_there ys (distinct (map key ys)) k.0 (has_distinct (map key ys) k.0 (some_there k.0 ys (above_some m (length (filter (λ row. same_row k.0 (key row)) ys)) more))) more

all_through : (xs : List Row) → filter (λ row. true) xs ≡ xs
all_through [] = refl
all_through (x ∷ xs) = ap (λ u. x ∷ u) (all_through xs)

keyed_large : (keys : List Expr) (rs : Results) (m : ℕ) (xs ys : List Row) → Fewer xs ys → list_any (λ (g : Group). nat_lt m (length g.rows)) (groups_of keys rs xs) ≡ true → list_any (λ (g : Group). nat_lt m (length g.rows)) (groups_of keys rs ys) ≡ true
keyed_large [] rs m xs ys f h =
    let a : length (filter (λ row. true) xs) ≡ length xs = ap length (all_through xs) in
    let b : length (filter (λ row. true) ys) ≡ length ys = ap length (all_through ys) in
    let d = f (λ row. true) in
    let l : length xs ≤ length ys = omega (arith, a, b, d) in
    let t : nat_lt m (length xs) ≡ true = one (nat_lt m (length xs)) h in
    rw (more_lt m (length xs) (length ys) t l) refl
  where
    one : (b : Bool) → (b || false) ≡ true → b ≡ true
    one true e = refl
    one false e = cc
keyed_large (e ∷ es) rs m xs ys f h = groups_large (items_of (e ∷ es) rs) m xs ys f h

table_large : (f : Cond) (grouped : Bool) (keys : List Expr) (rs : Results) (xs ys : List Row) → Fewer xs ys → has_large_group f grouped keys rs xs ≡ true → has_large_group f grouped keys rs ys ≡ true
table_large f false keys rs xs ys l h = cc
table_large f true keys rs xs ys l h = keyed_large keys rs (2 ^ 31) (filter (keeps f rs) xs) (filter (keeps f rs) ys) (fewer_kept (keeps f rs) xs ys l) h

-- ---- where tables have fewer rows

either_true : (a b d e : Bool) → (a ≡ true → d ≡ true) → (b ≡ true → e ≡ true) → (a || b) ≡ true → (d || e) ≡ true
either_true true b d e f g h = rw (f refl) refl
either_true false b true e f g h = refl
either_true false b false e f g h = g h

large_rows_in : (f : Cond) (grouped : Bool) (keys : List Expr) (rs : Results) (xs ys : List Row) → (grouped ≡ false) ⊎ Fewer xs ys → has_large_group f grouped keys rs xs ≡ true → has_large_group f grouped keys rs ys ≡ true
large_rows_in f false keys rs xs ys s h = cc
large_rows_in f true keys rs xs ys (inl e) h = cc
large_rows_in f true keys rs xs ys (inr l) h = table_large f true keys rs xs ys l h

module _ (db dn : Tables) (rs : Results) (few : (t : ℕ) → Fewer (table_rows dn t) (table_rows db t)) where
  steady_rows : (grouped : Bool) (from : FromTree) → (grouped ≡ false) ⊎ IsSteadyFrom from → (grouped ≡ false) ⊎ Fewer (from_rows from 0 dn rs) (from_rows from 0 db rs)
  steady_rows grouped from (inl e) = inl e
  steady_rows grouped from (inr s) = inr (fewer_from db dn rs few from 0 s)

  mutual
    simple_from : (f : FromTree) → IsSimpleFrom f → is_large_from f dn rs ≡ true → is_large_from f db rs ≡ true
    simple_from (Table t n) s h = cc
    simple_from (Sub' p (more_of-Query q end_of-Query)) s h = simple_large q s h
    simple_from (Result i n) s h = cc
    simple_from (Cross' p (more_of-FromTree a end_of-FromTree) q (more_of-FromTree b end_of-FromTree)) s h =
        either_true (is_large_from a dn rs) (is_large_from b dn rs) (is_large_from a db rs) (is_large_from b db rs) (simple_from a s.0) (simple_from b s.1) h
    simple_from (Inner' p (more_of-FromTree a end_of-FromTree) q (more_of-FromTree b end_of-FromTree) on) s h =
        either_true (is_large_from a dn rs) (is_large_from b dn rs) (is_large_from a db rs) (is_large_from b db rs) (simple_from a s.0) (simple_from b s.1) h
    simple_from (Left' p (more_of-FromTree a end_of-FromTree) q (more_of-FromTree b end_of-FromTree) on) s h =
        either_true (is_large_from a dn rs) (is_large_from b dn rs) (is_large_from a db rs) (is_large_from b db rs) (simple_from a s.0) (simple_from b s.1) h

    simple_large : (q : Query) → IsSimple q → is_large q dn rs ≡ true → is_large q db rs ≡ true
    simple_large (Query' cs ctes ss subs from filter_ grouped keys aggs having items shown distinct order limit offset names) s h =
        either_true (is_large_from from dn rs) (has_large_group filter_ grouped keys rs (from_rows from 0 dn rs)) (is_large_from from db rs) (has_large_group filter_ grouped keys rs (from_rows from 0 db rs))
        (simple_from from s.0) (large_rows_in filter_ grouped keys rs (from_rows from 0 dn rs) (from_rows from 0 db rs) (steady_rows grouped from s.1)) h

module _ (c : Contents) (w : IsWhole c) (touched : List ℕ) (widths : ℕ → ℕ) (through : PushesThrough c) (db dn : Tables) (rs : Results)
    (tables_db : (t n : ℕ) → IsColumnOf n (place_at c t) → AllByRecursion (IsWide (length (shape_in c t).kinds)) (table_rows db t))
    (tables_dn : (t n : ℕ) → IsColumnOf n (place_at c t) → AllByRecursion (IsWide (length (shape_in c t).kinds)) (table_rows dn t))
    (results : (i : ℕ) → AllByRecursion (IsWide (widths i)) (result_at rs i))
    (same : (t : ℕ) (p : Row → Bool) → Reach c touched t (place_at c t) p → filter p (table_rows db t) ≡ filter p (table_rows dn t))
    (few : (t : ℕ) → Fewer (table_rows dn t) (table_rows db t)) where
  large_rows : (f : Cond) (grouped : Bool) (keys : List Expr) (xs ys : List Row) → filter (keeps f rs) xs ≡ filter (keeps f rs) ys → has_large_group f grouped keys rs ys ≡ true → has_large_group f grouped keys rs xs ≡ true
  large_rows f true keys xs ys e h = ap (λ rows. list_any is_large_group (groups_of keys rs rows)) e ∙ h
  large_rows f false keys xs ys e h = h

  mutual
    large_from_same : (f : FromTree) (sets : ℕ → ValueSet) (start : ℕ) → IsLaidFrom c widths f → Covers c touched (occurrences_from c sets f start) → GivesSimplyFrom c sets f start → is_large_from f dn rs ≡ true → is_large_from f db rs ≡ true
    large_from_same (Table t n) sets start h cov u l = cc
    large_from_same (Sub' p (more_of-Query q end_of-Query)) sets start h cov u l = elim u [
      | inl v ↦ large_same q h (subst (λ o. Covers c touched (occurrences_in c q o)) v.0 cov) v.1 l
      | inr v ↦ simple_large db dn rs few q v l
    ]
    large_from_same (Result i n) sets start h cov u l = cc
    large_from_same (Cross' p (more_of-FromTree a end_of-FromTree) q (more_of-FromTree b end_of-FromTree)) sets start h cov u l =
        let wa : ℕ = columns_in a in
        either_true (is_large_from a dn rs) (is_large_from b dn rs) (is_large_from a db rs) (is_large_from b db rs)
        (large_from_same a sets start h.0 (covers_left c touched (occurrences_from c sets a start) (occurrences_from c sets b (start + wa)) cov) u.0)
        (large_from_same b sets (start + wa) h.1 (covers_right c touched (occurrences_from c sets a start) (occurrences_from c sets b (start + wa)) cov) u.1) l
    large_from_same (Inner' p (more_of-FromTree a end_of-FromTree) q (more_of-FromTree b end_of-FromTree) on) sets start h cov u l =
        let wa : ℕ = columns_in a in
        either_true (is_large_from a dn rs) (is_large_from b dn rs) (is_large_from a db rs) (is_large_from b db rs)
        (large_from_same a sets start h.0 (covers_left c touched (occurrences_from c sets a start) (occurrences_from c sets b (start + wa)) cov) u.0)
        (large_from_same b sets (start + wa) h.1 (covers_right c touched (occurrences_from c sets a start) (occurrences_from c sets b (start + wa)) cov) u.1) l
    large_from_same (Left' p (more_of-FromTree a end_of-FromTree) q (more_of-FromTree b end_of-FromTree) on) sets start h cov u l =
        let wa : ℕ = columns_in a in
        let sb : ℕ → ValueSet = right_sets sets (sets_in c sets a start) (distribution_in c b (start + wa)) start (start + wa) on in
        either_true (is_large_from a dn rs) (is_large_from b dn rs) (is_large_from a db rs) (is_large_from b db rs)
        (large_from_same a sets start h.0 (covers_left c touched (occurrences_from c sets a start) (occurrences_from c sb b (start + wa)) cov) u.0)
        (large_from_same b sb (start + wa) h.1 (covers_right c touched (occurrences_from c sets a start) (occurrences_from c sb b (start + wa)) cov) u.1) l

    pub large_same : (q : Query) → IsLaid c widths q → Covers c touched (occurrences_in c q []) → GivesSimply c q → is_large q dn rs ≡ true → is_large q db rs ≡ true
    large_same (Query' cs ctes ss subs from filter_ grouped keys aggs having items shown distinct order limit offset names) h cov u l =
        let kept = kept_same c w touched widths through db dn rs tables_db tables_dn results same (Query' cs ctes ss subs from filter_ grouped keys aggs having items shown distinct order limit offset names) [] h cov in
        either_true (is_large_from from dn rs) (has_large_group filter_ grouped keys rs (from_rows from 0 dn rs)) (is_large_from from db rs) (has_large_group filter_ grouped keys rs (from_rows from 0 db rs))
        (large_from_same from (value_set [] (conjuncts_of filter_ from)) 0 h.0 cov u)
        (large_rows filter_ grouped keys (from_rows from 0 db rs) (from_rows from 0 dn rs) (kept_alone filter_ rs (from_rows from 0 db rs) (from_rows from 0 dn rs) kept)) l

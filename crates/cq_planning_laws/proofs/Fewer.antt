-- Where tables have fewer rows, so have inner joins of them, and queries that neither group nor cut.
use Rattle.std.proofs.Common.{◌≡◌, ◌+◌, ◌<◌, ◌≤◌, inl, inr, ℕ, zero, suc, Bool, true, false, not, ◌&&◌, List, [], ◌∷◌, ◌++◌, length, map, filter, take, refl, ◌∙◌, ap, subst, arith, length-append, Some, None, Option}
use Rattle.std.specs.Ordering.{is_lt}
use Rattle.std.proofs.lemmas.List.{length-map}
use Rattle.std.proofs.lemmas.List.Elements.{filter-append}
use Rattle.cq_value.proofs.Truths.{two_ways}
use Rattle.cq_value.proofs.Lists.{filter_map}
use Rattle.cq_tree.specs.declared.expression.Cond.{Cond}
use Rattle.cq_tree.specs.declared.expression.Expr.{Expr}
use Rattle.cq_tree.specs.declared.query.Agg.{Agg}
use Rattle.cq_tree.specs.declared.query.Key.{Key}
use Rattle.cq_tree.specs.declared.query.FromTree.{FromTree, Table, Sub', Result, Cross', Inner', Left', end_of-FromTree, more_of-FromTree, end_of-Query, more_of-Query}
use Rattle.cq_tree.specs.declared.query.Query.{Query, Query'}
use Rattle.cq_meaning.specs.Values.{Row, Tables, Results, table_rows, same_row}
use Rattle.cq_meaning.specs.Expressions.{keeps, items_of}
use Rattle.cq_meaning.specs.Groups.{differs, distinct, distinct_if}
use Rattle.cq_meaning.specs.Joins.{product}
use Rattle.cq_meaning.specs.Sorting.{placed, sorted_by, sorted, keys_cmp, cut}
use Rattle.cq_meaning.specs.Queries.{item_rows, columns_in, joins, from_rows, meaning}
use Rattle.cq_meaning.proofs.RowLaws.{same_from}
use Rattle.cq_meaning.proofs.KeyLaws.{keys_weak}
use Rattle.cq_planning.specs.Simple.{IsSteadyFrom, IsSteady}
use Rattle.cq_planning_laws.proofs.Columns.{filter_twice}
use Rattle.cq_planning_laws.proofs.Tests.{sort_sifted, distinct_sifted}

-- how many rows pass a test
abbrev count : (Row → Bool) → List Row → ℕ
count p xs = length (filter p xs)

-- of each kind no more
abbrev pub Fewer : List Row → List Row → Type 0
Fewer xs ys = (p : Row → Bool) → length (filter p xs) ≤ length (filter p ys)

pub fewer_kept : (keep : Row → Bool) (xs ys : List Row) → Fewer xs ys → Fewer (filter keep xs) (filter keep ys)
fewer_kept keep xs ys f p =
    let a : length (filter p (filter keep xs)) ≡ length (filter (λ x. keep x && p x) xs) = ap length (filter_twice p keep xs) in
    let b : length (filter p (filter keep ys)) ≡ length (filter (λ x. keep x && p x) ys) = ap length (filter_twice p keep ys) in
    let d = f (λ x. keep x && p x) in
    omega (arith, a, b, d)

count_map : (p : Row → Bool) (f : Row → Row) (xs : List Row) → count p (map f xs) ≡ count (λ x. p (f x)) xs
count_map p f xs = ap length (filter_map p f xs) ∙ length-map (filter (λ x. p (f x)) xs) f

fewer_map : (f : Row → Row) (xs ys : List Row) → Fewer xs ys → Fewer (map f xs) (map f ys)
fewer_map f xs ys l p =
    let a = count_map p f xs in
    let b = count_map p f ys in
    let d = l (λ x. p (f x)) in
    omega (arith, a, b, d)

-- ---- joins

count_append : (p : Row → Bool) (xs ys : List Row) → count p (xs ++ ys) ≡ count p xs + count p ys
count_append p xs ys = ap length (filter-append p xs ys) ∙ length-append (filter p xs) (filter p ys)

count_first : (p : Row → Bool) (x : Row) (xs : List Row) → count p (x ∷ xs) ≡ count p (x ∷ []) + count p xs
count_first p x xs = count_append p (x ∷ []) xs

-- fewer rows on the right side
fewer_right : (ls us vs : List Row) → Fewer us vs → Fewer (product ls us) (product ls vs)
fewer_right [] us vs f p = omega arith
fewer_right (l ∷ ls) us vs f p =
    let a = count_append p (map (λ r. l ++ r) us) (product ls us) in
    let b = count_append p (map (λ r. l ++ r) vs) (product ls vs) in
    let d = fewer_map (λ r. l ++ r) us vs f p in
    let e = fewer_right ls us vs f p in
    omega (arith, a, b, d, e)

product_none : (p : Row → Bool) (ls : List Row) → count p (product ls []) ≡ 0
product_none p [] = refl
product_none p (l ∷ ls) = product_none p ls

-- a product by the rows of its right side
product_first : (p : Row → Bool) (ls : List Row) (r : Row) (rs : List Row) → count p (product ls (r ∷ rs)) ≡ count (λ l. p (l ++ r)) ls + count p (product ls rs)
product_first p [] r rs = refl
product_first p (l ∷ ls) r rs =
    let a = count_append p (map (λ r. l ++ r) (r ∷ rs)) (product ls (r ∷ rs)) in
    let b = count_first p (l ++ r) (map (λ r. l ++ r) rs) in
    let d = count_append p (map (λ r. l ++ r) rs) (product ls rs) in
    let e = product_first p ls r rs in
    let f = count_first (λ l. p (l ++ r)) l ls in
    let g : count p ((l ++ r) ∷ []) ≡ count (λ l. p (l ++ r)) (l ∷ []) = one l in
    omega (arith, a, b, d, e, f, g)
  where
    one : (l : Row) → count p ((l ++ r) ∷ []) ≡ count (λ l. p (l ++ r)) (l ∷ [])
    one l = elim (two_ways (p (l ++ r))) [ inl y ↦ rw y refl | inr n ↦ rw n refl ]

-- fewer rows on the left side
fewer_left : (xs ys rs : List Row) → Fewer xs ys → Fewer (product xs rs) (product ys rs)
fewer_left xs ys [] f p =
    let a = product_none p xs in
    omega (arith, a)
fewer_left xs ys (r ∷ rs) f p =
    let a = product_first p xs r rs in
    let b = product_first p ys r rs in
    let d = f (λ l. p (l ++ r)) in
    let e = fewer_left xs ys rs f p in
    omega (arith, a, b, d, e)

fewer_product : (xs ys us vs : List Row) → Fewer xs ys → Fewer us vs → Fewer (product xs us) (product ys vs)
fewer_product xs ys us vs f g p =
    let a = fewer_right xs us vs g p in
    let b = fewer_left xs ys vs f p in
    omega (arith, a, b)

-- ---- DISTINCT

parts : (q : Row → Bool) (zs : List Row) → length zs ≡ length (filter q zs) + length (filter (λ z. not (q z)) zs)
parts q [] = refl
parts q (z ∷ zs) = elim (two_ways (q z)) [
  | inl y ↦ (let rest = parts q zs in rw y (omega (arith, rest)))
  | inr n ↦ (let rest = parts q zs in rw n (omega (arith, rest)))
]

no_longer : (q : Row → Bool) (zs : List Row) → length (filter q zs) ≤ length zs
no_longer q zs = let a = parts q zs in omega (arith, a)

some_distinct : (zs : List Row) → 0 < length zs → 0 < length (distinct zs)
some_distinct [] h = h
some_distinct (z ∷ zs) h = omega arith

fewer_apart : (n : ℕ) (xs ys : List Row) → length xs ≤ n → Fewer xs ys → length (distinct xs) ≤ length (distinct ys)
fewer_apart n [] ys l f = omega arith
fewer_apart zero (x ∷ xs) ys l f = absurd (omega (arith, l))
fewer_apart (suc n) (x ∷ xs) ys l f =
    let itself : same_row x x ≡ true = same_from x x refl in
    let beside : filter (differs x) (x ∷ xs) ≡ filter (differs x) xs = rw itself refl in
    let mine : length (filter (differs x) (distinct xs)) ≡ length (distinct (filter (differs x) xs)) = ap length (distinct_sifted (differs x) xs) in
    let others : length (filter (differs x) (distinct ys)) ≡ length (distinct (filter (differs x) ys)) = ap length (distinct_sifted (differs x) ys) in
    let same : length (filter (same_row x) (distinct ys)) ≡ length (distinct (filter (same_row x) ys)) = ap length (distinct_sifted (same_row x) ys) in
    let all : length (distinct ys) ≡ length (filter (same_row x) (distinct ys)) + length (filter (differs x) (distinct ys)) = parts (same_row x) (distinct ys) in
    let here : 0 < length (filter (same_row x) (x ∷ xs)) = rw itself (omega arith) in
    let there : length (filter (same_row x) (x ∷ xs)) ≤ length (filter (same_row x) ys) = f (same_row x) in
    let some : 0 < length (distinct (filter (same_row x) ys)) = some_distinct (filter (same_row x) ys) (omega (arith, here, there)) in
    let short = no_longer (differs x) xs in
    let fewer : Fewer (filter (differs x) xs) (filter (differs x) ys) = subst (λ zs. Fewer zs (filter (differs x) ys)) beside (fewer_kept (differs x) (x ∷ xs) ys f) in
    let rest = fewer_apart n (filter (differs x) xs) (filter (differs x) ys) (omega (arith, short, l)) fewer in
    omega (arith, mine, others, same, all, some, rest)

fewer_distinct : (d : Bool) (xs ys : List Row) → Fewer xs ys → Fewer (distinct_if d xs) (distinct_if d ys)
fewer_distinct false xs ys f p = f p
fewer_distinct true xs ys f p =
    let a : length (filter p (distinct xs)) ≡ length (distinct (filter p xs)) = ap length (distinct_sifted p xs) in
    let b : length (filter p (distinct ys)) ≡ length (distinct (filter p ys)) = ap length (distinct_sifted p ys) in
    let d = fewer_apart (length (filter p xs)) (filter p xs) (filter p ys) (omega arith) (fewer_kept p xs ys f) in
    omega (arith, a, b, d)

-- ---- queries

placed_long : (lt : Row → Row → Bool) (x : Row) (ys : List Row) → length (placed lt x ys) ≡ suc (length ys)
placed_long lt x [] = refl
placed_long lt x (y ∷ ys) = elim (two_ways (lt y x)) [ inl l ↦ rw l (ap suc (placed_long lt x ys)) | inr n ↦ rw n refl ]

sorted_long : (lt : Row → Row → Bool) (xs : List Row) → length (sorted_by lt xs) ≡ length xs
sorted_long lt [] = refl
sorted_long lt (x ∷ xs) = placed_long lt x (sorted_by lt xs) ∙ ap suc (sorted_long lt xs)

fewer_sorted : (order : List Key) (xs ys : List Row) → Fewer xs ys → Fewer (sorted (keys_cmp order) xs) (sorted (keys_cmp order) ys)
fewer_sorted order xs ys f p =
    let a = counted xs in
    let b = counted ys in
    let d = f p in
    omega (arith, a, b, d)
  where
    counted : (zs : List Row) → count p (sorted (keys_cmp order) zs) ≡ count p zs
    counted zs = ap length (sort_sifted (λ x y. is_lt (keys_cmp order x y)) (keys_weak order) p zs) ∙ sorted_long (λ x y. is_lt (keys_cmp order x y)) (filter p zs)

fewer_items : (filter_ : Cond) (grouped : Bool) (keys : List Expr) (aggs : List Agg) (having : Cond) (items : List Expr) (rs : Results) (xs ys : List Row) → grouped ≡ false → Fewer xs ys →
    Fewer (item_rows filter_ grouped keys aggs having items rs xs) (item_rows filter_ grouped keys aggs having items rs ys)
fewer_items filter_ true keys aggs having items rs xs ys e f = cc
fewer_items filter_ false keys aggs having items rs xs ys e f = fewer_map (items_of items rs) (filter (keeps filter_ rs) xs) (filter (keeps filter_ rs) ys) (fewer_kept (keeps filter_ rs) xs ys f)

fewer_cut : (order : List Key) (shown : ℕ) (distinct : Bool) (limit : Option ℕ) (offset : ℕ) (xs ys : List Row) → limit ≡ None → offset ≡ 0 → Fewer xs ys →
    Fewer (cut shown limit offset (sorted (keys_cmp order) (distinct_if distinct xs))) (cut shown limit offset (sorted (keys_cmp order) (distinct_if distinct ys)))
fewer_cut order shown distinct (Some n) offset xs ys l o f = cc
fewer_cut order shown distinct None (suc n) xs ys l o f = absurd (omega (arith, o))
fewer_cut order shown distinct None zero xs ys l o f =
    fewer_map (λ row. take shown row) (sorted (keys_cmp order) (distinct_if distinct xs)) (sorted (keys_cmp order) (distinct_if distinct ys))
    (fewer_sorted order (distinct_if distinct xs) (distinct_if distinct ys) (fewer_distinct distinct xs ys f))

module _ (db dn : Tables) (rs : Results) (few : (t : ℕ) → Fewer (table_rows dn t) (table_rows db t)) where
  mutual
    pub fewer_from : (f : FromTree) (start : ℕ) → IsSteadyFrom f → Fewer (from_rows f start dn rs) (from_rows f start db rs)
    fewer_from (Table t n) start h = few t
    fewer_from (Sub' p (more_of-Query q end_of-Query)) start h = fewer_mean q h
    fewer_from (Result i n) start h = λ p. omega arith
    fewer_from (Cross' p (more_of-FromTree a end_of-FromTree) q (more_of-FromTree b end_of-FromTree)) start h =
        fewer_product (from_rows a start dn rs) (from_rows a start db rs) (from_rows b (start + columns_in a) dn rs) (from_rows b (start + columns_in a) db rs)
        (fewer_from a start h.0) (fewer_from b (start + columns_in a) h.1)
    fewer_from (Inner' p (more_of-FromTree a end_of-FromTree) q (more_of-FromTree b end_of-FromTree) on) start h =
        fewer_kept (joins on rs start) (product (from_rows a start dn rs) (from_rows b (start + columns_in a) dn rs)) (product (from_rows a start db rs) (from_rows b (start + columns_in a) db rs))
        (fewer_product (from_rows a start dn rs) (from_rows a start db rs) (from_rows b (start + columns_in a) dn rs) (from_rows b (start + columns_in a) db rs)
        (fewer_from a start h.0) (fewer_from b (start + columns_in a) h.1))
    fewer_from (Left' p (more_of-FromTree a end_of-FromTree) q (more_of-FromTree b end_of-FromTree) on) start h = absurd h

    fewer_mean : (q : Query) → IsSteady q → Fewer (meaning q dn rs) (meaning q db rs)
    fewer_mean (Query' cs ctes ss subs from filter_ grouped keys aggs having items shown distinct order limit offset names) h =
        fewer_cut order shown distinct limit offset (item_rows filter_ grouped keys aggs having items rs (from_rows from 0 dn rs)) (item_rows filter_ grouped keys aggs having items rs (from_rows from 0 db rs)) h.2 h.3
        (fewer_items filter_ grouped keys aggs having items rs (from_rows from 0 dn rs) (from_rows from 0 db rs) h.1 (fewer_from from 0 h.0))

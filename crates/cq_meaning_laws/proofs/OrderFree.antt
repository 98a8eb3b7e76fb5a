-- L1: the meaning of a query doesn't depend on the order of rows in tables and results.
use Rattle.std.proofs.Common.{◌≡◌, ℕ, zero, suc, Bool, true, false, List, [], ◌∷◌, ◌++◌, ◌+◌, map, length, take, drop, replicate, refl, sym, ap, subst, ◌∙◌, inl, inr}
use Rattle.std.specs.Prelude.{filter, ◌⊎◌, Option, None, Some}
use Rattle.std.specs.Ordering.{is_lt}
use Rattle.std.proofs.lemmas.List.Sorted.{IsPermutation-trans}
use Rattle.cq_value.specs.declared.value.Value.TheVariants.{Null}
use Rattle.cq_tree.specs.declared.expression.Expr.{Expr}
use Rattle.cq_tree.specs.declared.expression.Cond.{Cond}
use Rattle.cq_tree.specs.declared.query.Agg.{Agg}
use Rattle.cq_tree.specs.declared.query.Key.{Key}
use Rattle.cq_tree.specs.declared.query.FromTree.{FromTree, Table, Sub', Result, Cross', Inner', Left', more_of-FromTree, end_of-FromTree}
use Rattle.cq_tree.specs.declared.query.Query.{Query, Query', more_of-Query, end_of-Query}
use Rattle.cq_meaning.specs.Values.{Row, Tables, table_rows}
use Rattle.cq_meaning.specs.Expressions.{keeps, items_of}
use Rattle.cq_meaning.specs.Joins.{or_else, left_join}
use Rattle.cq_meaning.specs.Groups.{distinct_if, groups_of, group_row}
use Rattle.cq_meaning.specs.Sorting.{cut, limited, sorted, keys_cmp}
use Rattle.cq_meaning.specs.Queries.{item_rows, columns_in, joins, from_rows, full_rows, meaning, AnswersWith}
use Rattle.cq_meaning.proofs.KeyLaws.{keys_weak, keys_total}
use Rattle.cq_meaning.proofs.Reorder.{Reordered, none, kept, turned, then, same, permuted, filtered, mapped, behind, before, product_left, product_right, left_left}
use Rattle.cq_meaning_laws.specs.Settled.{OrdersAll, KeepsAll, IsSettledFrom, IsSettled, IsSettledBelow}
use Rattle.cq_meaning.specs.Lists.{Has}
use Rattle.cq_meaning.proofs.RowLaws.{distinct_again, distinct_has, has_again}
use Rattle.cq_meaning_laws.proofs.AggregateLaws.{group_row_again, group_rows_again, tie_from}
use Rattle.cq_meaning_laws.proofs.ResultLaws.{SameResults, itemed_same, joins_again}
use Rattle.cq_meaning_laws.proofs.SortLaws.{back, sort_moved, sorts_tie, same_images, keys_exact, take_alike}

-- each table has the same rows, in some order
abbrev pub SameTables : Tables → Tables → Type 0
SameTables db dc = (t : ℕ) → Reordered (table_rows db t) (table_rows dc t)

-- joins

pub or_else_again : (nulls : Row) {us vs : List Row} → Reordered us vs → Reordered (or_else nulls us) (or_else nulls vs)
or_else_again nulls none = same (nulls ∷ [])
or_else_again nulls (kept r) = kept r
or_else_again nulls turned = turned
or_else_again nulls (then r s) = then (or_else_again nulls r) (or_else_again nulls s)

pub left_right : (on : Row → Bool) (width : ℕ) (ls : List Row) {rs ss : List Row} → Reordered rs ss → Reordered (left_join on width ls rs) (left_join on width ls ss)
left_right on width [] r = none
left_right on width (l ∷ ls) {rs} {ss} r =
    then (before (left_join on width ls rs) (or_else_again (l ++ replicate width Null) (filtered on (mapped (λ x. l ++ x) r))))
    (behind (or_else (l ++ replicate width Null) (filter on (map (λ x. l ++ x) ss))) (left_right on width ls r))

-- from WHERE on

pub distinct_if_again : (d : Bool) {xs ys : List Row} → Reordered xs ys → Reordered (distinct_if d xs) (distinct_if d ys)
distinct_if_again false r = r
distinct_if_again true r = distinct_again r

pub groups_again : (aggs : List Agg) (keys : List Expr) (rs : List (List Row)) {xs ys : List Row} → Reordered xs ys →
    Reordered (map (group_row aggs rs) (groups_of keys rs xs)) (map (group_row aggs rs) (groups_of keys rs ys))
groups_again aggs [] rs {xs} {ys} r = rw (group_row_again rs aggs [] r) (same (group_row aggs rs (record { keys = []; rows = ys }) ∷ []))
groups_again aggs (e ∷ es) rs r = group_rows_again rs aggs (items_of (e ∷ es) rs) r

pub itemed_again : (filter_ : Cond) (grouped : Bool) (keys : List Expr) (aggs : List Agg) (having : Cond) (items : List Expr) (rs : List (List Row)) {xs ys : List Row} →
    Reordered xs ys → Reordered (item_rows filter_ grouped keys aggs having items rs xs) (item_rows filter_ grouped keys aggs having items rs ys)
itemed_again filter_ false keys aggs having items rs r = mapped (items_of items rs) (filtered (keeps filter_ rs) r)
itemed_again filter_ true keys aggs having items rs r = mapped (items_of items rs) (filtered (keeps having rs) (groups_again aggs keys rs (filtered (keeps filter_ rs) r)))

-- order and cut

length_items : (items : List Expr) (rs : List (List Row)) (row : Row) → length (items_of items rs row) ≡ length items
length_items [] rs row = refl
length_items (e ∷ es) rs row = ap suc (length_items es rs row)

has_map_width : {X : Type 0} (f : X → Row) (w : ℕ) → ((x : X) → length (f x) ≡ w) → (xs : List X) (r : Row) → Has (map f xs) r → length r ≡ w
has_map_width f w h [] r k = absurd k
has_map_width f w h (x ∷ xs) r (inl e) = subst (λ z. length z ≡ w) e (h x)
has_map_width f w h (x ∷ xs) r (inr k) = has_map_width f w h xs r k

-- the rows before the order have one width
pub itemed_width : (filter_ : Cond) (grouped : Bool) (keys : List Expr) (aggs : List Agg) (having : Cond) (items : List Expr) (rs : List (List Row)) (rows : List Row) (r : Row) →
    Has (item_rows filter_ grouped keys aggs having items rs rows) r → length r ≡ length items
itemed_width filter_ false keys aggs having items rs rows r h = has_map_width (items_of items rs) (length items) (length_items items rs) (filter (keeps filter_ rs) rows) r h
itemed_width filter_ true keys aggs having items rs rows r h =
    has_map_width (items_of items rs) (length items) (length_items items rs) (filter (keeps having rs) (map (group_row aggs rs) (groups_of keys rs (filter (keeps filter_ rs) rows)))) r h

pub distinct_width : (d : Bool) (w : ℕ) (rows : List Row) → ((r : Row) → Has rows r → length r ≡ w) → (r : Row) → Has (distinct_if d rows) r → length r ≡ w
distinct_width false w rows width r h = width r h
distinct_width true w rows width r h = width r (distinct_has rows r h)

map_take : {X Y : Type 0} (f : X → Y) (n : ℕ) (xs : List X) → map f (take n xs) ≡ take n (map f xs)
map_take f zero xs = refl
map_take f (suc n) [] = refl
map_take f (suc n) (x ∷ xs) = ap (λ us. f x ∷ us) (map_take f n xs)

map_drop : {X Y : Type 0} (f : X → Y) (n : ℕ) (xs : List X) → map f (drop n xs) ≡ drop n (map f xs)
map_drop f zero xs = refl
map_drop f (suc n) [] = refl
map_drop f (suc n) (x ∷ xs) = map_drop f n xs

-- the part that is kept, of what is shown
cut_is : (shown : ℕ) (limit : Option ℕ) (offset : ℕ) (rows : List Row) → cut shown limit offset rows ≡ limited limit (drop offset (map (λ r. take shown r) rows))
cut_is shown None offset rows = map_drop (λ r. take shown r) offset rows
cut_is shown (Some n) offset rows = map_take (λ r. take shown r) n (drop offset rows) ∙ ap (λ us. take n us) (map_drop (λ r. take shown r) offset rows)

sorted_shown : (order : List Key) (shown : ℕ) → OrdersAll order shown → (w : ℕ) {xs ys : List Row} → Reordered xs ys → ((r : Row) → Has xs r → length r ≡ w) →
    map (λ r. take shown r) (sorted (keys_cmp order) xs) ≡ map (λ r. take shown r) (sorted (keys_cmp order) ys)
sorted_shown order shown all w {xs} {ys} r width =
    let lt : Row → Row → Bool = λ x y. is_lt (keys_cmp order x y) in
    same_images lt (λ r. take shown r) (sorted (keys_cmp order) xs) (sorted (keys_cmp order) ys) (sorts_tie lt (keys_weak order) r)
    (λ x y a b t. take_alike shown x y (width x (has_again (back (sort_moved lt xs)) x a) ∙ sym (width y (has_again (back (then r (sort_moved lt ys))) y b)))
    (λ j l. keys_exact order x y (tie_from (keys_total order) x y t.0 t.1) j (all j l)))

pub cut_again : (order : List Key) (shown : ℕ) (limit : Option ℕ) (offset : ℕ) → (KeepsAll limit offset) ⊎ (OrdersAll order shown) → (w : ℕ) {xs ys : List Row} → Reordered xs ys → ((r : Row) → Has xs r → length r ≡ w) →
    Reordered (cut shown limit offset (sorted (keys_cmp order) xs)) (cut shown limit offset (sorted (keys_cmp order) ys))
cut_again order shown limit offset (inl (k)) w {xs} {ys} r width =
    let lt : Row → Row → Bool = λ x y. is_lt (keys_cmp order x y) in
    rw (k.0, k.1) (mapped (λ r. take shown r) (then (back (sort_moved lt xs)) (then r (sort_moved lt ys))))
cut_again order shown limit offset (inr all) w {xs} {ys} r width =
    rw (cut_is shown limit offset (sorted (keys_cmp order) xs), cut_is shown limit offset (sorted (keys_cmp order) ys), sorted_shown order shown all w r width)
    (same (limited limit (drop offset (map (λ r. take shown r) (sorted (keys_cmp order) ys)))))

-- the law
module _ (db dc : Tables) (rs ss : List (List Row)) (tables : SameTables db dc) (results : SameResults rs ss) where
  mutual
    pub from_again : (start : ℕ) (f : FromTree) → IsSettledFrom f → Reordered (from_rows f start db rs) (from_rows f start dc ss)
    from_again start (Table t n) h = tables t
    from_again start (Sub' p (more_of-Query q end_of-Query)) h = mean_again q h
    from_again start (Result i n) h = results i
    from_again start (Cross' p (more_of-FromTree a end_of-FromTree) q (more_of-FromTree b end_of-FromTree)) h = then (product_left (from_rows b (start + columns_in a) db rs) (from_again start a h.0)) (product_right (from_rows a start dc ss) (from_again (start + columns_in a) b h.1))
    from_again start (Inner' p (more_of-FromTree a end_of-FromTree) q (more_of-FromTree b end_of-FromTree) on) h =
        rw (joins_again rs ss results on start) (filtered (joins on ss start) (then (product_left (from_rows b (start + columns_in a) db rs) (from_again start a h.0)) (product_right (from_rows a start dc ss) (from_again (start + columns_in a) b h.1))))
    from_again start (Left' p (more_of-FromTree a end_of-FromTree) q (more_of-FromTree b end_of-FromTree) on) h =
        rw (joins_again rs ss results on start) (then (left_left (joins on ss start) (columns_in b) (from_rows b (start + columns_in a) db rs) (from_again start a h.0)) (left_right (joins on ss start) (columns_in b) (from_rows a start dc ss) (from_again (start + columns_in a) b h.1)))

    pub mean_again : (q : Query) → IsSettled q → Reordered (meaning q db rs) (meaning q dc ss)
    mean_again (Query' cs ctes sc subs from filter_ grouped keys aggs having items shown distinct order limit offset names) h =
        let full : Reordered (distinct_if distinct (item_rows filter_ grouped keys aggs having items rs (from_rows from 0 db rs))) (distinct_if distinct (item_rows filter_ grouped keys aggs having items ss (from_rows from 0 dc ss))) =
        rw (itemed_same rs ss results filter_ grouped keys aggs having items (from_rows from 0 db rs)) (distinct_if_again distinct (itemed_again filter_ grouped keys aggs having items ss (from_again 0 from h.1))) in
        cut_again order shown limit offset h.0 (length items) full
        (distinct_width distinct (length items) (item_rows filter_ grouped keys aggs having items rs (from_rows from 0 db rs)) (itemed_width filter_ grouped keys aggs having items rs (from_rows from 0 db rs)))

  -- the rows before a query's own order, which may have a LIMIT of its own
  pub full_again : (q : Query) → IsSettledBelow q → Reordered (full_rows q db rs) (full_rows q dc ss)
  full_again (Query' cs ctes sc subs from filter_ grouped keys aggs having items shown distinct order limit offset names) h =
      rw (itemed_same rs ss results filter_ grouped keys aggs having items (from_rows from 0 db rs)) (distinct_if_again distinct (itemed_again filter_ grouped keys aggs having items ss (from_again 0 from h)))

  pub answers_again : (q : Query) → IsSettledBelow q → (rows : List Row) → AnswersWith q dc ss rows → AnswersWith q db rs rows
  answers_again (Query' cs ctes sc subs from filter_ grouped keys aggs having items shown distinct order limit offset names) h rows a = (
    a.0,
    IsPermutation-trans (distinct_if distinct (item_rows filter_ grouped keys aggs having items rs (from_rows from 0 db rs))) (distinct_if distinct (item_rows filter_ grouped keys aggs having items ss (from_rows from 0 dc ss))) a.0
        (permuted (full_again (Query' cs ctes sc subs from filter_ grouped keys aggs having items shown distinct order limit offset names) h)) a.1,
    a.2,
    a.3,
  )

pub tables_back : (db dc : Tables) → SameTables db dc → SameTables dc db
tables_back db dc h t = back (h t)

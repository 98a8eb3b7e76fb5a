-- How many rows the groups have over all tasks.
use Rattle.std.proofs.Common.{◌≡◌, ℕ, zero, suc, ◌+◌, add-zero, inl, inr, Bool, true, false, List, [], ◌∷◌, ◌++◌, map, length, take, refl, sym, ap, subst, ◌∙◌}
use Rattle.std.specs.Prelude.{filter, ◌||◌}
use Rattle.std.specs.List.{list_any}
use Rattle.std.proofs.lemmas.List.{get_or-append-add}
use Rattle.cq_value.proofs.Truths.{or_neither, or_right}
use Rattle.cq_value.proofs.Lists.{any_map}
use Rattle.cq_value.specs.declared.value.Value.{Value}
use Rattle.cq_value.specs.declared.value.Value.TheVariants.{Null}
use Rattle.cq_tree.specs.declared.expression.Expr.{Expr, Column}
use Rattle.cq_tree.specs.declared.expression.Cond.{Always}
use Rattle.cq_tree.specs.declared.query.Agg.TheVariants as agg
use Rattle.cq_tree.specs.declared.query.Query.{Query, out-Query, roll-Query}
use Rattle.cq_meaning.specs.declared.Group.{Group}
use Rattle.cq_meaning.specs.Values.{Row, Results, Tables, table_rows, column}
use Rattle.cq_meaning.specs.Expressions.{keeps, items_of}
use Rattle.cq_meaning.specs.Groups.{distinct, group_with, groups_of, group_row, aggregate}
use Rattle.cq_meaning.specs.Sorting.{sorted_by, placed}
use Rattle.cq_meaning.specs.Limits.{is_large, is_large_group}
use Rattle.cq_meaning.specs.Queries.{meaning}
use Rattle.cq_meaning.specs.Lists.{Has}
use Rattle.cq_meaning.proofs.RowLaws.{filter_all, distinct_has}
use Rattle.cq_task_laws.proofs.PartLaws.{mapped_has}
use Rattle.cq_task_laws.specs.Partial.{columns_from}
use Rattle.cq_task_laws.specs.Merging.{is_above_limit, is_large_together, has_large_groups, merging_groups}
use Rattle.cq_task_laws.specs.Counting.{counting}

-- the groups of the tasks' rows
abbrev groups : Query → Results → List Row → List Group
groups q results rows = groups_of (columns_from 0 (length (out-Query q).keys)) results rows

counted : (q : Query) (db : Tables) (results : Results) →
    meaning (counting q) db results ≡ map (λ row. take 1 row) (sorted_by (λ x y. false) (map (items_of (Column (length (out-Query q).keys) ∷ []) results) (filter (keeps Always results) (map (group_row (agg.Sum (Column (length (out-Query q).keys + length (out-Query q).aggs)) ∷ []) results) (groups q results (filter (keeps Always results) (table_rows db 0)))))))
unfolding roll-Query denote.Hole.Carrier.roll
counted q db results = refl

counting_large : (q : Query) (db : Tables) (results : Results) → is_large (counting q) db results ≡ list_any is_large_group (groups q results (filter (keeps Always results) (table_rows db 0)))
unfolding roll-Query denote.Hole.Carrier.roll
counting_large q db results = refl

merging_large : (q : Query) (db : Tables) (results : Results) → is_large (merging_groups q) db results ≡ list_any is_large_group (groups q results (filter (keeps Always results) (table_rows db 0)))
unfolding roll-Query denote.Hole.Carrier.roll
merging_large q db results = refl

-- a sort by no key leaves all in place
sorted_as_is : {X : Type 0} (xs : List X) → sorted_by (λ x y. false) xs ≡ xs
sorted_as_is [] = refl
sorted_as_is (x ∷ xs) = ap (placed (λ x y. false) x) (sorted_as_is xs) ∙ first x xs
  where
    first : {X : Type 0} (x : X) (ys : List X) → placed (λ x y. false) x ys ≡ x ∷ ys
    first x [] = refl
    first x (y ∷ ys) = refl

-- where no group has too many rows of tasks, it is the rows that they count
any_count : (at : ℕ) (results : Results) (gs : List Group) → list_any is_large_group gs ≡ false →
    list_any (λ g. is_above_limit (aggregate results g.rows (agg.Sum (Column at)))) gs ≡ list_any (is_large_together at results) gs
any_count at results [] e = refl
any_count at results (g ∷ gs) e =
    let f : (is_large_group g ≡ false) × (list_any is_large_group gs ≡ false) = or_neither (is_large_group g) (list_any is_large_group gs) e in
    λ i. (sym f.0 i || is_above_limit (aggregate results g.rows (agg.Sum (Column at)))) || any_count at results gs f.1 i

any_more : (at : ℕ) (results : Results) (gs : List Group) → list_any is_large_group gs ≡ true → list_any (is_large_together at results) gs ≡ true
any_more at results [] e = cc
any_more at results (g ∷ gs) e = go (is_large_group g) refl e (any_more at results gs)
  where
    go : (b : Bool) → is_large_group g ≡ b → (b || list_any is_large_group gs) ≡ true → (list_any is_large_group gs ≡ true → list_any (is_large_together at results) gs ≡ true) →
        list_any (is_large_together at results) (g ∷ gs) ≡ true
    go true f h more = ap (λ b. (b || is_above_limit (aggregate results g.rows (agg.Sum (Column at)))) || list_any (is_large_together at results) gs) f
    go false f h more = or_right (is_large_together at results g) (list_any (is_large_together at results) gs) (more h)

kept_all : (q : Query) (results : Results) (rows : List Row) → filter (keeps Always results) rows ≡ rows
kept_all q results rows = filter_all (keeps Always results) rows (λ r h. refl)

any_same : {X : Type 0} (p q : X → Bool) (xs : List X) → ((x : X) → Has xs x → p x ≡ q x) → list_any p xs ≡ list_any q xs
any_same p q [] h = refl
any_same p q (x ∷ xs) h = let e : p x ≡ q x = h x (inl refl) in let es : list_any p xs ≡ list_any q xs = any_same p q xs (λ y k. h y (inr k)) in λ i. e i || es i

length_columns : (at n : ℕ) → length (columns_from at n) ≡ n
length_columns at zero = refl
length_columns at (suc n) = ap suc (length_columns (suc at) n)

length_items : (es : List Expr) (results : Results) (row : Row) → length (items_of es results row) ≡ length es
length_items [] results row = refl
length_items (e ∷ es) results row = ap suc (length_items es results row)

-- each group has its keys
groups_wide : (n : ℕ) (results : Results) (rows : List Row) (g : Group) → Has (groups_of (columns_from 0 n) results rows) g → length g.keys ≡ n
groups_wide zero results rows g (inl e) = ap (λ (h : Group). length h.keys) (sym e)
groups_wide zero results rows g (inr h) = absurd h
groups_wide (suc n) results rows g h =
    let key : Row → Row = items_of (columns_from 0 (suc n)) results in
    let u : (k : Row) × Has (distinct (map key rows)) k × (group_with key rows k ≡ g) = mapped_has (group_with key rows) (distinct (map key rows)) g h in
    let v : (r : Row) × Has rows r × (key r ≡ u.0) = mapped_has key rows u.0 (distinct_has (map key rows) u.0 u.1) in
    ap (λ (x : Group). length x.keys) (sym u.2) ∙ (ap length (sym v.2) ∙ (length_items (columns_from 0 (suc n)) results v.0 ∙ length_columns 0 (suc n)))

-- the value behind the keys
behind_keys : (keys : Row) (n : ℕ) (v : Value) → length keys ≡ n → column (keys ++ v ∷ []) n ≡ v
behind_keys keys n v e = subst (λ m. column (keys ++ v ∷ []) m ≡ v) (add-zero (length keys) ∙ e) (get_or-append-add keys (v ∷ []) 0 Null)

-- the counted rows tell whether a group is too large
pub counting_tells : (q : Query) (db : Tables) (results : Results) → is_large (counting q) db results ≡ false →
    list_any (λ row. is_above_limit (column row 0)) (meaning (counting q) db results) ≡ has_large_groups q results (table_rows db 0)
counting_tells q db results e =
    let n : ℕ = length (out-Query q).keys in
    let at : ℕ = n + length (out-Query q).aggs in
    let p : Row → Bool = λ row. is_above_limit (column row 0) in
    let gs : List Group = groups q results (filter (keeps Always results) (table_rows db 0)) in
    let f : Group → Row = group_row (agg.Sum (Column at) ∷ []) results in
    let items : Row → Row = items_of (Column n ∷ []) results in
    ap (list_any p) (counted q db results)
    ∙ (ap (λ rows. list_any p (map (λ row. take 1 row) rows)) (sorted_as_is (map items (filter (keeps Always results) (map f gs))))
    ∙ (ap (λ rows. list_any p (map (λ row. take 1 row) (map items rows))) (kept_all q results (map f gs))
    ∙ (any_map p (λ row. take 1 row) (map items (map f gs))
    ∙ (any_map (λ row. p (take 1 row)) items (map f gs)
    ∙ (any_map (λ row. p (take 1 (items row))) f gs
    ∙ (any_same (λ g. p (take 1 (items (f g)))) (λ g. is_above_limit (aggregate results g.rows (agg.Sum (Column at)))) gs
    (λ g h. ap is_above_limit (behind_keys g.keys n (aggregate results g.rows (agg.Sum (Column at))) (groups_wide n results (filter (keeps Always results) (table_rows db 0)) g h)))
    ∙ (any_count at results gs (sym (counting_large q db results) ∙ e)
    ∙ ap (λ rows. has_large_groups q results rows) (kept_all q results (table_rows db 0)))))))))

pub counting_too_large : (q : Query) (db : Tables) (results : Results) → is_large (counting q) db results ≡ true → has_large_groups q results (table_rows db 0) ≡ true
counting_too_large q db results e =
    sym (ap (λ rows. has_large_groups q results rows) (kept_all q results (table_rows db 0)))
    ∙ any_more (length (out-Query q).keys + length (out-Query q).aggs) results (groups q results (filter (keeps Always results) (table_rows db 0))) (sym (counting_large q db results) ∙ e)

pub merging_too_large : (q : Query) (db : Tables) (results : Results) → is_large (merging_groups q) db results ≡ true → has_large_groups q results (table_rows db 0) ≡ true
merging_too_large q db results e =
    sym (ap (λ rows. has_large_groups q results rows) (kept_all q results (table_rows db 0)))
    ∙ any_more (length (out-Query q).keys + length (out-Query q).aggs) results (groups q results (filter (keeps Always results) (table_rows db 0))) (sym (merging_large q db results) ∙ e)

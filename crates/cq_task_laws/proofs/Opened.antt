-- The queries of the tasks and of the coordinator as patterns see them.
use Rattle.std.proofs.Common.{◌≡◌, ℕ, ◌+◌, true, false, Bool, List, [], ◌∷◌, ◌++◌, map, length, take, refl, sym, ap, subst}
use Rattle.std.specs.Prelude.{filter, ◌||◌, if◌then◌else◌}
use Rattle.std.specs.List.{list_any}
use Rattle.std.specs.List.Sorted.{IsPermutation}
use Rattle.cq_tree.specs.declared.expression.Expr.{Column}
use Rattle.cq_tree.specs.declared.expression.Cond.{Always}
use Rattle.cq_tree.specs.declared.plan.Combine.{Combine}
use Rattle.cq_tree.specs.declared.plan.Combine.TheVariants.{Nothing, RowsOnly, Groups}
use Rattle.cq_tree.specs.declared.query.Agg.TheVariants as agg
use Rattle.cq_tree.specs.declared.query.FromTree.{FromTree, Table}
use Rattle.cq_tree.specs.declared.query.Query.{Query, Query', out-Query, roll-Query}
use Rattle.cq_meaning.specs.Values.{Results, Row, Tables, table_rows}
use Rattle.cq_meaning.specs.Limits.{is_large, is_large_from, has_large_group}
use Rattle.cq_meaning.specs.Sorting.{sorted_by}
use Rattle.cq_meaning.specs.Expressions.{keeps, items_of}
use Rattle.cq_meaning.specs.Groups.{distinct_if, groups_of, group_row}
use Rattle.cq_meaning.specs.Safety.{AreSafeItems, IsSafeFrom, IsSafeQuery}
use Rattle.cq_meaning.specs.Queries.{AnswersWith, from_rows, item_rows, meaning}
use Rattle.cq_task_laws.specs.Partial.{columns_from, partial}
use Rattle.cq_task_laws.specs.Merging.{merging_rows, merging, joined, as_table, all_combining, is_large_together, has_large_together}
use Rattle.cq_task_laws.specs.Counting.{CanMerge}
use Rattle.cq_task_laws.specs.Gathering.{full_over, has_large_over, IsCutOf, AnswersOver, IsSafeOver}

-- all rows, in some order
abbrev pub IsUncutOf : ℕ → List Row → List Row → Type 0
IsUncutOf w full rows = (all : List Row) × IsPermutation full all × (rows ≡ map (λ r. take w r) all)

abbrev pub items_in : Query → ℕ
items_in (Query' cs ctes ss subs from filter_ grouped keys aggs having items shown distinct order limit offset names) = length items

abbrev pub is_grouped : Query → Bool
is_grouped (Query' cs ctes ss subs from filter_ grouped keys aggs having items shown distinct order limit offset names) = grouped

-- the groups of a query over some rows, where its tasks compute them
abbrev pub counted_rows : Query → Results → List Row → List Row
counted_rows (Query' cs ctes ss subs from filter_ grouped keys aggs having items shown distinct order limit offset names) rs rows = map (group_row (aggs ++ agg.CountAll ∷ []) rs) (groups_of keys rs (filter (keeps filter_ rs) rows))

abbrev pub counted_columns : Query → ℕ
counted_columns (Query' cs ctes ss subs from filter_ grouped keys aggs having items shown distinct order limit offset names) = length keys + (length aggs + 1)

-- the rows of a query, of the rows of its tasks' groups
abbrev pub regrouped_rows : Query → Results → List Row → List Row
regrouped_rows (Query' cs ctes ss subs from filter_ grouped keys aggs having items shown distinct order limit offset names) rs rows =
    distinct_if distinct (map (items_of items rs) (filter (keeps having rs) (map (group_row (all_combining (length keys) aggs) rs) (groups_of (columns_from 0 (length keys)) rs (filter (keeps Always rs) rows)))))

-- what a query gives up to its items
abbrev pub rows_of_items : Query → Results → List Row → List Row
rows_of_items (Query' cs ctes ss subs from filter_ grouped keys aggs having items shown distinct order limit offset names) rs rows = item_rows filter_ grouped keys aggs having items rs rows

abbrev pub has_large_rows : Query → Results → List Row → Bool
has_large_rows (Query' cs ctes ss subs from filter_ grouped keys aggs having items shown distinct order limit offset names) rs rows =
    if grouped then list_any (is_large_together (length keys + length aggs) rs) (groups_of (columns_from 0 (length keys)) rs rows) else false

pub all_items : (q : Query) (rs : Results) (p a : List Row) → AnswersOver (partial RowsOnly q) rs p a → IsUncutOf (items_in q) (full_over q rs p) a
unfolding out-Query roll-Query denote.Hole.Carrier.out denote.Hole.Carrier.roll
all_items (Query' cs ctes ss subs from filter_ grouped keys aggs having items shown distinct order limit offset names) rs p a h = (h.0, h.1, h.3)

pub rows_merged : (d : Bool) (q : Query) (rs : Results) (all rows : List Row) → AnswersWith (merging_rows d q) (as_table all) rs rows →
    IsCutOf q (distinct_if d (map (items_of (columns_from 0 (items_in q)) rs) (filter (keeps Always rs) all))) rows
unfolding out-Query roll-Query denote.Hole.Carrier.out denote.Hole.Carrier.roll
rows_merged d (Query' cs ctes ss subs from filter_ grouped keys aggs having items shown distinct order limit offset names) rs all rows h = h

pub distinct_merged : (q : Query) (rs : Results) (all rows : List Row) → is_grouped q ≡ false → AnswersWith (merging Groups q) (as_table all) rs rows →
    IsCutOf q (distinct_if true (map (items_of (columns_from 0 (items_in q)) rs) (filter (keeps Always rs) all))) rows
unfolding out-Query roll-Query denote.Hole.Carrier.out denote.Hole.Carrier.roll
distinct_merged (Query' cs ctes ss subs from filter_ false keys aggs having items shown distinct order limit offset names) rs all rows e h = h
distinct_merged (Query' cs ctes ss subs from filter_ true keys aggs having items shown distinct order limit offset names) rs all rows e h = cc

pub groups_merged : (q : Query) (rs : Results) (all rows : List Row) → is_grouped q ≡ true → AnswersWith (merging Groups q) (as_table all) rs rows → IsCutOf q (regrouped_rows q rs all) rows
unfolding out-Query roll-Query denote.Hole.Carrier.out denote.Hole.Carrier.roll
groups_merged (Query' cs ctes ss subs from filter_ false keys aggs having items shown distinct order limit offset names) rs all rows e h = cc
groups_merged (Query' cs ctes ss subs from filter_ true keys aggs having items shown distinct order limit offset names) rs all rows e h = h

pub distinct_items : (q : Query) (rs : Results) (p a : List Row) → is_grouped q ≡ false → AnswersOver (partial Groups q) rs p a → IsUncutOf (items_in q) (distinct_if true (rows_of_items q rs p)) a
unfolding out-Query roll-Query denote.Hole.Carrier.out denote.Hole.Carrier.roll
distinct_items (Query' cs ctes ss subs from filter_ false keys aggs having items shown distinct order limit offset names) rs p a e h = (h.0, h.1, h.3)
distinct_items (Query' cs ctes ss subs from filter_ true keys aggs having items shown distinct order limit offset names) rs p a e h = cc

pub counted_groups : (q : Query) (rs : Results) (p a : List Row) → is_grouped q ≡ true → AnswersOver (partial Groups q) rs p a →
    IsUncutOf (counted_columns q) (map (items_of (columns_from 0 (counted_columns q)) rs) (filter (keeps Always rs) (counted_rows q rs p))) a
unfolding out-Query roll-Query denote.Hole.Carrier.out denote.Hole.Carrier.roll
counted_groups (Query' cs ctes ss subs from filter_ false keys aggs having items shown distinct order limit offset names) rs p a e h = cc
counted_groups (Query' cs ctes ss subs from filter_ true keys aggs having items shown distinct order limit offset names) rs p a e h = (h.0, h.1, h.3)

abbrev pub from_of : Query → FromTree
from_of (Query' cs ctes ss subs from filter_ grouped keys aggs having items shown distinct order limit offset names) = from

-- a task's answer, over the rows of its FROM
pub over_from : (q : Query) (kind : Combine) (db : Tables) (rs : Results) (rows : List Row) → AnswersWith (partial kind q) db rs rows → AnswersOver (partial kind q) rs (from_rows (from_of q) 0 db rs) rows
unfolding out-Query roll-Query denote.Hole.Carrier.out denote.Hole.Carrier.roll
over_from (Query' cs ctes ss subs from filter_ grouped keys aggs having items shown distinct order limit offset names) Nothing db rs rows a = a
over_from (Query' cs ctes ss subs from filter_ grouped keys aggs having items shown distinct order limit offset names) RowsOnly db rs rows a = a
over_from (Query' cs ctes ss subs from filter_ false keys aggs having items shown distinct order limit offset names) Groups db rs rows a = a
over_from (Query' cs ctes ss subs from filter_ true keys aggs having items shown distinct order limit offset names) Groups db rs rows a = a

-- a task's groups are those of the block over its rows
pub large_partial : (kind : Combine) (q : Query) (rs : Results) (rows : List Row) → has_large_over (partial kind q) rs rows ≡ has_large_over q rs rows
unfolding out-Query roll-Query denote.Hole.Carrier.out denote.Hole.Carrier.roll
large_partial Nothing (Query' cs ctes ss subs from filter_ grouped keys aggs having items shown distinct order limit offset names) rs rows = refl
large_partial RowsOnly (Query' cs ctes ss subs from filter_ grouped keys aggs having items shown distinct order limit offset names) rs rows = refl
large_partial Groups (Query' cs ctes ss subs from filter_ false keys aggs having items shown distinct order limit offset names) rs rows = refl
large_partial Groups (Query' cs ctes ss subs from filter_ true keys aggs having items shown distinct order limit offset names) rs rows = refl

-- the groups of the tasks' rows
pub large_opened : (q : Query) (rs : Results) (answers : List (List Row)) → has_large_together Groups q rs answers ≡ has_large_rows q rs (joined answers)
unfolding out-Query denote.Hole.Carrier.out
large_opened (Query' cs ctes ss subs from filter_ false keys aggs having items shown distinct order limit offset names) rs answers = refl
large_opened (Query' cs ctes ss subs from filter_ true keys aggs having items shown distinct order limit offset names) rs answers = refl

pub from_is : (q : Query) → (out-Query q).from ≡ from_of q
unfolding out-Query denote.Hole.Carrier.out
from_is (Query' cs ctes ss subs from filter_ grouped keys aggs having items shown distinct order limit offset names) = refl

-- what the coordinator's queries need
abbrev pub SafeRows : Query → Results → List Row → Type 0
SafeRows (Query' cs ctes ss subs from filter_ grouped keys aggs having items shown distinct order limit offset names) rs rows = AreSafeItems Always false [] [] Always (columns_from 0 (length items)) rs rows

abbrev pub SafeCounts : Query → Results → List Row → Type 0
SafeCounts (Query' cs ctes ss subs from filter_ grouped keys aggs having items shown distinct order limit offset names) rs rows =
    AreSafeItems Always true (columns_from 0 (length keys)) (agg.Sum (Column (length keys + length aggs)) ∷ []) Always (Column (length keys) ∷ []) rs rows

abbrev pub SafeGroups : Query → Results → List Row → Type 0
SafeGroups (Query' cs ctes ss subs from filter_ grouped keys aggs having items shown distinct order limit offset names) rs rows = AreSafeItems Always true (columns_from 0 (length keys)) (all_combining (length keys) aggs) having items rs rows

pub can_merge_rows : (q : Query) (rs : Results) (answers : List (List Row)) → SafeRows q rs (joined answers) → CanMerge RowsOnly q rs answers
unfolding out-Query roll-Query denote.Hole.Carrier.out denote.Hole.Carrier.roll
can_merge_rows (Query' cs ctes ss subs from filter_ grouped keys aggs having items shown distinct order limit offset names) rs answers h = (tt, λ e. h)

pub can_merge_distinct : (q : Query) (rs : Results) (answers : List (List Row)) → is_grouped q ≡ false → SafeRows q rs (joined answers) → CanMerge Groups q rs answers
unfolding out-Query roll-Query denote.Hole.Carrier.out denote.Hole.Carrier.roll
can_merge_distinct (Query' cs ctes ss subs from filter_ false keys aggs having items shown distinct order limit offset names) rs answers f h = ((λ e. cc), λ small. (tt, λ e. h))
can_merge_distinct (Query' cs ctes ss subs from filter_ true keys aggs having items shown distinct order limit offset names) rs answers f h = cc

pub can_merge_groups : (q : Query) (rs : Results) (answers : List (List Row)) → is_grouped q ≡ true → SafeCounts q rs (joined answers) → (has_large_rows q rs (joined answers) ≡ false → SafeGroups q rs (joined answers)) → CanMerge Groups q rs answers
unfolding out-Query roll-Query denote.Hole.Carrier.out denote.Hole.Carrier.roll
can_merge_groups (Query' cs ctes ss subs from filter_ false keys aggs having items shown distinct order limit offset names) rs answers f counts groups = cc
can_merge_groups (Query' cs ctes ss subs from filter_ true keys aggs having items shown distinct order limit offset names) rs answers f counts groups = ((λ e. (tt, λ d. counts)), λ small. (tt, λ d. groups small))

-- what a task gives, before its order
pub task_items : (q : Query) (rs : Results) (p : List Row) → full_over (partial RowsOnly q) rs p ≡ full_over q rs p
unfolding out-Query roll-Query denote.Hole.Carrier.out denote.Hole.Carrier.roll
task_items (Query' cs ctes ss subs from filter_ grouped keys aggs having items shown distinct order limit offset names) rs p = refl

pub task_distinct : (q : Query) (rs : Results) (p : List Row) → is_grouped q ≡ false → full_over (partial Groups q) rs p ≡ distinct_if true (rows_of_items q rs p)
unfolding out-Query roll-Query denote.Hole.Carrier.out denote.Hole.Carrier.roll
task_distinct (Query' cs ctes ss subs from filter_ false keys aggs having items shown distinct order limit offset names) rs p f = refl
task_distinct (Query' cs ctes ss subs from filter_ true keys aggs having items shown distinct order limit offset names) rs p f = cc

pub task_groups : (q : Query) (rs : Results) (p : List Row) → is_grouped q ≡ true → full_over (partial Groups q) rs p ≡ map (items_of (columns_from 0 (counted_columns q)) rs) (filter (keeps Always rs) (counted_rows q rs p))
unfolding out-Query roll-Query denote.Hole.Carrier.out denote.Hole.Carrier.roll
task_groups (Query' cs ctes ss subs from filter_ false keys aggs having items shown distinct order limit offset names) rs p f = cc
task_groups (Query' cs ctes ss subs from filter_ true keys aggs having items shown distinct order limit offset names) rs p f = refl

-- a task that groups needs of its rows what the block does
abbrev pub SafeTask : Query → Results → List Row → Type 0
SafeTask (Query' cs ctes ss subs from filter_ grouped keys aggs having items shown distinct order limit offset names) rs p = AreSafeItems filter_ true keys (aggs ++ agg.CountAll ∷ []) Always (columns_from 0 (length keys + (length aggs + 1))) rs p

pub safe_partial : (kind : Combine) (q : Query) (rs : Results) (p : List Row) → (is_grouped q ≡ true → IsSafeOver q rs p → SafeTask q rs p) → IsSafeOver q rs p → IsSafeOver (partial kind q) rs p
unfolding out-Query roll-Query denote.Hole.Carrier.out denote.Hole.Carrier.roll
safe_partial Nothing (Query' cs ctes ss subs from filter_ grouped keys aggs having items shown distinct order limit offset names) rs p groups h = h
safe_partial RowsOnly (Query' cs ctes ss subs from filter_ grouped keys aggs having items shown distinct order limit offset names) rs p groups h = h
safe_partial Groups (Query' cs ctes ss subs from filter_ false keys aggs having items shown distinct order limit offset names) rs p groups h = h
safe_partial Groups (Query' cs ctes ss subs from filter_ true keys aggs having items shown distinct order limit offset names) rs p groups h = groups refl h

-- a query's rows and its groups, where its FROM is a table
pub safe_table : (q : Query) (table columns : ℕ) (db : Tables) (rs : Results) → from_of q ≡ Table table columns → IsSafeQuery q db rs → IsSafeOver q rs (table_rows db table)
safe_table (Query' cs ctes ss subs from filter_ grouped keys aggs having items shown distinct order limit offset names) table columns db rs e h = subst (λ f. is_large_from f db rs ≡ false → AreSafeItems filter_ grouped keys aggs having items rs (from_rows f 0 db rs)) e h.1 refl

pub table_safe : (q : Query) (table columns : ℕ) (db : Tables) (rs : Results) → from_of q ≡ Table table columns → IsSafeOver q rs (table_rows db table) → IsSafeQuery q db rs
table_safe (Query' cs ctes ss subs from filter_ grouped keys aggs having items shown distinct order limit offset names) table columns db rs e h = (
  subst (λ f. IsSafeFrom f 0 db rs) (sym e) tt,
  λ none. subst (λ f. AreSafeItems filter_ grouped keys aggs having items rs (from_rows f 0 db rs)) (sym e) h,
)

pub table_large : (q : Query) (table columns : ℕ) (db : Tables) (rs : Results) → from_of q ≡ Table table columns → is_large q db rs ≡ has_large_over q rs (table_rows db table)
table_large (Query' cs ctes ss subs from filter_ grouped keys aggs having items shown distinct order limit offset names) table columns db rs e = ap (λ f. is_large_from f db rs || has_large_group filter_ grouped keys rs (from_rows f 0 db rs)) e

pub partial_from : (kind : Combine) (q : Query) → from_of (partial kind q) ≡ from_of q
unfolding out-Query roll-Query denote.Hole.Carrier.out denote.Hole.Carrier.roll
partial_from Nothing (Query' cs ctes ss subs from filter_ grouped keys aggs having items shown distinct order limit offset names) = refl
partial_from RowsOnly (Query' cs ctes ss subs from filter_ grouped keys aggs having items shown distinct order limit offset names) = refl
partial_from Groups (Query' cs ctes ss subs from filter_ false keys aggs having items shown distinct order limit offset names) = refl
partial_from Groups (Query' cs ctes ss subs from filter_ true keys aggs having items shown distinct order limit offset names) = refl

-- a task's rows stand in the order in which they are made
pub task_meaning : (q : Query) (db : Tables) (rs : Results) → meaning (partial RowsOnly q) db rs ≡ map (λ row. take (items_in q) row) (sorted_by (λ x y. false) (full_over (partial RowsOnly q) rs (from_rows (from_of q) 0 db rs)))
unfolding out-Query roll-Query denote.Hole.Carrier.out denote.Hole.Carrier.roll
task_meaning (Query' cs ctes ss subs from filter_ grouped keys aggs having items shown distinct order limit offset names) db rs = refl

abbrev pub task_columns : Query → ℕ
task_columns (Query' cs ctes ss subs from filter_ false keys aggs having items shown distinct order limit offset names) = length items
task_columns (Query' cs ctes ss subs from filter_ true keys aggs having items shown distinct order limit offset names) = length keys + (length aggs + 1)

pub task_group_meaning : (q : Query) (db : Tables) (rs : Results) → meaning (partial Groups q) db rs ≡ map (λ row. take (task_columns q) row) (sorted_by (λ x y. false) (full_over (partial Groups q) rs (from_rows (from_of q) 0 db rs)))
unfolding out-Query roll-Query denote.Hole.Carrier.out denote.Hole.Carrier.roll
task_group_meaning (Query' cs ctes ss subs from filter_ false keys aggs having items shown distinct order limit offset names) db rs = refl
task_group_meaning (Query' cs ctes ss subs from filter_ true keys aggs having items shown distinct order limit offset names) db rs = refl

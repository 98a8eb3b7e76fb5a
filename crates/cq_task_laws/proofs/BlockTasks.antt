-- What the tasks of a block give, each over the tables that it reads, and what the coordinator makes of it.
use Rattle.std.proofs.Common.{◌≡◌, ℕ, ◌≤◌, ◌^◌, ◌+◌, Bool, true, false, List, [], ◌∷◌, ◌++◌, map, length, take, refl, sym, ap, subst, ◌∙◌, inl, inr}
use Rattle.std.specs.Prelude.{filter, ◌⊎◌, ◌||◌}
use Rattle.std.specs.List.{flat_map, list_any, AllByRecursion}
use Rattle.cq_value.proofs.Lists.{length_map}
use Rattle.cq_value.proofs.Truths.{or_either}
use Rattle.cq_tree.specs.declared.plan.Combine.{Combine}
use Rattle.cq_tree.specs.declared.plan.Combine.TheVariants.{Nothing, RowsOnly, Groups}
use Rattle.cq_tree.specs.declared.query.Agg.TheVariants as agg
use Rattle.cq_tree.specs.declared.query.FromTree.{FromTree}
use Rattle.cq_tree.specs.declared.query.Query.{Query, Query'}
use Rattle.cq_meaning.specs.Lists.{Has}
use Rattle.cq_meaning.specs.Values.{Row, Tables}
use Rattle.cq_meaning.specs.Expressions.{keeps}
use Rattle.cq_meaning.specs.Groups.{group_row, groups_of}
use Rattle.cq_meaning.specs.Limits.{is_large, is_large_from}
use Rattle.cq_meaning.specs.Sorting.{sorted_by, placed}
use Rattle.cq_meaning.specs.Queries.{item_rows, from_rows, meaning, AnswersWith}
use Rattle.cq_meaning.specs.Safety.{IsSafeQuery, IsSafeFrom}
use Rattle.cq_meaning.proofs.AnswerLaws.{mean_answers}
use Rattle.cq_meaning.proofs.MapLaws.{has_mapped}
use Rattle.cq_meaning.proofs.Reorder.{Reordered}
use Rattle.cq_meaning_laws.proofs.OrderFree.{itemed_width, distinct_width}
use Rattle.cq_task_laws.specs.Partial.{partial}
use Rattle.cq_task_laws.specs.Merging.{joined, GathersTo, has_large_together}
use Rattle.cq_task_laws.specs.Counting.{CanMerge}
use Rattle.cq_task_laws.specs.Gathering.{AllAnswer, AnswersOver, full_over, kept_of, has_large_over, IsSafeOver, IsNonEmpty, Serves}
use Rattle.cq_task_laws.specs.Tasks.{Side, TasksServe}
use Rattle.cq_task_laws.proofs.Opened.{from_of, items_in, task_columns, task_items, task_distinct, task_groups, task_meaning, task_group_meaning, over_from, partial_from, large_partial}
use Rattle.cq_task_laws.proofs.PartLaws.{flat_map_of_map}
use Rattle.cq_task_laws.proofs.TaskLaws.{from_cut}
use Rattle.cq_task_laws.proofs.GatherRows.{whole_rows, shown_whole}
use Rattle.cq_task_laws.proofs.GatherLaws.{part_width, length_push, gather, some_map}
use Rattle.cq_task_laws.proofs.LargeLaws.{any_at, large_task, large_together}
use Rattle.cq_task_laws.proofs.OneTable.{safe_task, safe_merge}

-- ---- a query, from its WHERE on

-- over the rows of its FROM, where this has no group that is too large
pub query_over : (q : Query) (db : Tables) (rs : List (List Row)) → is_large_from (from_of q) db rs ≡ false → IsSafeQuery q db rs → IsSafeOver q rs (from_rows (from_of q) 0 db rs)
query_over (Query' cs ctes ss subs from filter_ grouped keys aggs having items shown distinct order limit offset names) db rs small h = h.1 small

over_query : (q : Query) (db : Tables) (rs : List (List Row)) → IsSafeFrom (from_of q) 0 db rs → (is_large_from (from_of q) db rs ≡ false → IsSafeOver q rs (from_rows (from_of q) 0 db rs)) → IsSafeQuery q db rs
over_query (Query' cs ctes ss subs from filter_ grouped keys aggs having items shown distinct order limit offset names) db rs safe h = (safe, h)

query_from : (q : Query) (db : Tables) (rs : List (List Row)) → IsSafeQuery q db rs → IsSafeFrom (from_of q) 0 db rs
query_from (Query' cs ctes ss subs from filter_ grouped keys aggs having items shown distinct order limit offset names) db rs h = h.0

-- it has a group that is too large in its FROM or of its own
pub large_over : (q : Query) (db : Tables) (rs : List (List Row)) → is_large q db rs ≡ (is_large_from (from_of q) db rs || has_large_over q rs (from_rows (from_of q) 0 db rs))
large_over (Query' cs ctes ss subs from filter_ grouped keys aggs having items shown distinct order limit offset names) db rs = refl

-- its rows are an answer over those of its FROM
pub answers_over : (q : Query) (db : Tables) (rs : List (List Row)) (rows : List Row) → AnswersOver q rs (from_rows (from_of q) 0 db rs) rows → AnswersWith q db rs rows
answers_over (Query' cs ctes ss subs from filter_ grouped keys aggs having items shown distinct order limit offset names) db rs rows h = h

-- ---- tasks that serve for a block

-- its FROM keeps, up to order, what the tasks' FROMs keep
pub served_cut : (side : FromTree → Side) (kind : Combine) (q : Query) (db : Tables) (dbs : ℕ → Tables) (rs : List (List Row)) (indices : List ℕ) → TasksServe side kind q db dbs rs indices →
    Reordered (kept_of q rs (from_rows (from_of q) 0 db rs)) (flat_map (kept_of q rs) (map (λ i. from_rows (from_of q) 0 (dbs i) rs) indices))
served_cut side kind (Query' cs ctes ss subs from filter_ grouped keys aggs having items shown distinct order limit offset names) db dbs rs indices serve =
    subst (λ us. Reordered (filter (keeps filter_ rs) (from_rows from 0 db rs)) us) (sym (flat_map_of_map (filter (keeps filter_ rs)) (λ i. from_rows from 0 (dbs i) rs) indices))
    (from_cut side db dbs rs from (keeps filter_ rs) indices serve.0 serve.1 serve.2)

pub served_parts : (side : FromTree → Side) (kind : Combine) (q : Query) (db : Tables) (dbs : ℕ → Tables) (rs : List (List Row)) (indices : List ℕ) → TasksServe side kind q db dbs rs indices →
    Serves kind q rs (map (λ i. from_rows (from_of q) 0 (dbs i) rs) indices)
served_parts side kind (Query' cs ctes ss subs from filter_ grouped keys aggs having items shown distinct order limit offset names) db dbs rs indices serve = serve.3

-- ---- a task's rows stand in the order in which they are made, and have its columns

sorted_as_is : {X : Type 0} (xs : List X) → sorted_by (λ x y. false) xs ≡ xs
sorted_as_is [] = refl
sorted_as_is (x ∷ xs) = ap (placed (λ x y. false) x) (sorted_as_is xs) ∙ first x xs
  where
    first : {X : Type 0} (x : X) (ys : List X) → placed (λ x y. false) x ys ≡ x ∷ ys
    first x [] = refl
    first x (y ∷ ys) = refl

in_order : (w : ℕ) (full : List Row) → ((r : Row) → Has full r → length r ≡ w) → map (λ row. take w row) (sorted_by (λ x y. false) full) ≡ full
in_order w full wide = ap (λ us. map (λ row. take w row) us) (sorted_as_is full) ∙ shown_whole w full wide

rows_wide : (q : Query) (rs : List (List Row)) (p : List Row) (r : Row) → Has (full_over (partial RowsOnly q) rs p) r → length r ≡ items_in q
rows_wide (Query' cs ctes ss subs from filter_ grouped keys aggs having items shown distinct order limit offset names) rs p r h =
    distinct_width distinct (length items) (item_rows filter_ grouped keys aggs having items rs p) (itemed_width filter_ grouped keys aggs having items rs p) r
    (subst (λ us. Has us r) (task_items (Query' cs ctes ss subs from filter_ grouped keys aggs having items shown distinct order limit offset names) rs p) h)

groups_wide : (q : Query) (rs : List (List Row)) (p : List Row) (r : Row) → Has (full_over (partial Groups q) rs p) r → length r ≡ task_columns q
groups_wide (Query' cs ctes ss subs from filter_ false keys aggs having items shown distinct order limit offset names) rs p r h =
    distinct_width true (length items) (item_rows filter_ false keys aggs having items rs p) (itemed_width filter_ false keys aggs having items rs p) r
    (subst (λ us. Has us r) (task_distinct (Query' cs ctes ss subs from filter_ false keys aggs having items shown distinct order limit offset names) rs p refl) h)
groups_wide (Query' cs ctes ss subs from filter_ true keys aggs having items shown distinct order limit offset names) rs p r h =
    let g : List Row = map (group_row (aggs ++ agg.CountAll ∷ []) rs) (groups_of keys rs (filter (keeps filter_ rs) p)) in
    let wide : (s : Row) → Has g s → length s ≡ length keys + (length aggs + 1) =
    λ s k. part_width rs aggs (agg.CountAll ∷ []) keys (filter (keeps filter_ rs) p) s k ∙ ap (λ n. length keys + n) (length_push aggs agg.CountAll) in
    wide r (subst (λ us. Has us r) (task_groups (Query' cs ctes ss subs from filter_ true keys aggs having items shown distinct order limit offset names) rs p refl ∙ whole_rows rs (length keys + (length aggs + 1)) g wide) h)

-- ---- the tasks of a block, over what each reads

module _ (q : Query) (rs : List (List Row)) (kind : Combine) where
  -- the rows of a task's FROM
  abbrev pub part_of : Tables → List Row
  part_of db = from_rows (from_of q) 0 db rs

  abbrev pub task_meaning_of : Tables → List Row
  task_meaning_of db = meaning (partial kind q) db rs

  abbrev pub is_large_task : Tables → Bool
  is_large_task db = is_large (partial kind q) db rs

  same_part : (db : Tables) → from_rows (from_of (partial kind q)) 0 db rs ≡ part_of db
  same_part db = ap (λ f. from_rows f 0 db rs) (partial_from kind q)

  -- where the block is safe, so is its task
  task_safe : (db : Tables) → IsSafeQuery q db rs → IsSafeQuery (partial kind q) db rs
  task_safe db h = over_query (partial kind q) db rs (subst (λ f. IsSafeFrom f 0 db rs) (sym (partial_from kind q)) (query_from q db rs h))
      (λ small. subst (IsSafeOver (partial kind q) rs) (sym (same_part db))
      (safe_task kind q rs (part_of db) (query_over q db rs (ap (λ f. is_large_from f db rs) (sym (partial_from kind q)) ∙ small) h)))

  pub tasks_safe : (dbs : List Tables) → AllByRecursion (λ db. IsSafeQuery q db rs) dbs → AllByRecursion (λ db. IsSafeQuery (partial kind q) db rs) dbs
  tasks_safe [] h = tt
  tasks_safe (db ∷ dbs) h = (task_safe db h.0, tasks_safe dbs h.1)

  -- a group that is too large for a task is one of its FROM or one of the block over its rows
  pub task_large : (db : Tables) → is_large_task db ≡ (is_large_from (from_of q) db rs || has_large_over q rs (part_of db))
  task_large db = large_over (partial kind q) db rs
      ∙ (λ i. is_large_from (partial_from kind q i) db rs || (ap (has_large_over (partial kind q) rs) (same_part db) ∙ large_partial kind q rs (part_of db)) i)

  -- of tasks none of which has one
  pub none_large : (dbs : List Tables) → list_any is_large_task dbs ≡ false → AllByRecursion (λ db. is_large_from (from_of q) db rs ≡ false) dbs × AllByRecursion (λ part. has_large_over q rs part ≡ false) (map part_of dbs)
  none_large [] e = (tt, tt)
  none_large (db ∷ dbs) e =
      let f : (is_large_task db ≡ false) × (list_any is_large_task dbs ≡ false) = or_false (is_large_task db) (list_any is_large_task dbs) e in
      let own : (is_large_from (from_of q) db rs ≡ false) × (has_large_over q rs (part_of db) ≡ false) = or_false (is_large_from (from_of q) db rs) (has_large_over q rs (part_of db)) (sym (task_large db) ∙ f.0) in
      let more = none_large dbs f.1 in
      ((own.0, more.0), (own.1, more.1))
    where
      or_false : (a b : Bool) → (a || b) ≡ false → (a ≡ false) × (b ≡ false)
      or_false true b e = cc
      or_false false b e = (refl, e)

  all_answer : (dbs : List Tables) → AllAnswer (partial kind q) rs (map part_of dbs) (map task_meaning_of dbs)
  all_answer [] = tt
  all_answer (db ∷ dbs) = (over_from q kind db rs (task_meaning_of db) (mean_answers (partial kind q) db rs), all_answer dbs)

  -- the block's FROM keeps, up to order, what the tasks' FROMs keep
  module _ (dbs : List Tables) (whole : List Row) (cut : Reordered (kept_of q rs whole) (flat_map (kept_of q rs) (map part_of dbs))) where
    -- what is made of the tasks' rows is an answer
    pub tasks_gather : (rows : List Row) → Serves kind q rs (map part_of dbs) → GathersTo kind q rs (map task_meaning_of dbs) rows → AnswersOver q rs whole rows
    tasks_gather rows serves gathers = gather kind q rs (map part_of dbs) (map task_meaning_of dbs) whole rows cut serves (all_answer dbs) gathers

    -- a group of a task's that is too large, or one over all tasks, is too large for the block, unless it is one of its FROM
    pub tasks_large : IsNonEmpty dbs → length dbs ≤ 2 ^ 31 → (list_any is_large_task dbs ≡ true) ⊎ (has_large_together kind q rs (map task_meaning_of dbs) ≡ true) →
        ((db : Tables) × Has dbs db × (is_large_from (from_of q) db rs ≡ true)) ⊎ (has_large_over q rs whole ≡ true)
    tasks_large some few (inl e) =
        let u : (db : Tables) × Has dbs db × (is_large_task db ≡ true) = any_at is_large_task dbs e in
        elim (or_either (is_large_from (from_of q) u.0 rs) (has_large_over q rs (part_of u.0)) (sym (task_large u.0) ∙ u.2)) [
          | inl below ↦ inl (u.0, u.1, below)
          | inr own ↦ inr (large_task kind q rs (map part_of dbs) whole (part_of u.0) cut (has_mapped part_of dbs u.0 u.1) (large_partial kind q rs (part_of u.0) ∙ own))
        ]
    tasks_large some few (inr e) =
        inr (large_together kind q rs (map part_of dbs) (map task_meaning_of dbs) whole cut (some_map part_of dbs some) (subst (λ n. n ≤ 2 ^ 31) (sym (length_map part_of dbs)) few) (all_answer dbs) e)

-- what a task gives, as it is made
task_gives : (q : Query) (rs : List (List Row)) (kind : Combine) → (kind ≡ Nothing → ⊥) → (db : Tables) → meaning (partial kind q) db rs ≡ full_over (partial kind q) rs (from_rows (from_of q) 0 db rs)
task_gives q rs Nothing h db = absurd (h refl)
task_gives q rs RowsOnly h db = task_meaning q db rs ∙ in_order (items_in q) (full_over (partial RowsOnly q) rs (from_rows (from_of q) 0 db rs)) (rows_wide q rs (from_rows (from_of q) 0 db rs))
task_gives q rs Groups h db = task_group_meaning q db rs ∙ in_order (task_columns q) (full_over (partial Groups q) rs (from_rows (from_of q) 0 db rs)) (groups_wide q rs (from_rows (from_of q) 0 db rs))

-- what tasks give can be merged
module _ (q : Query) (rs : List (List Row)) where
  made : (kind : Combine) → (kind ≡ Nothing → ⊥) → (dbs : List Tables) → map (full_over (partial kind q) rs) (map (part_of q rs kind) dbs) ≡ map (task_meaning_of q rs kind) dbs
  made kind h [] = refl
  made kind h (db ∷ dbs) = let e : meaning (partial kind q) db rs ≡ full_over (partial kind q) rs (from_rows (from_of q) 0 db rs) = task_gives q rs kind h db in
      let more : map (full_over (partial kind q) rs) (map (part_of q rs kind) dbs) ≡ map (task_meaning_of q rs kind) dbs = made kind h dbs in λ i. sym e i ∷ more i

  pub tasks_merge : (kind : Combine) (dbs : List Tables) → (kind ≡ Nothing → length dbs ≡ 1) → IsNonEmpty dbs → length dbs ≤ 2 ^ 31 → IsSafeOver q rs (joined (map (part_of q rs kind) dbs)) →
      list_any (is_large_task q rs kind) dbs ≡ false → CanMerge kind q rs (map (task_meaning_of q rs kind) dbs)
  tasks_merge Nothing dbs only some few safe none = length_map (λ db. meaning q db rs) dbs ∙ only refl
  tasks_merge RowsOnly dbs only some few safe none = subst (CanMerge RowsOnly q rs) (made RowsOnly (λ e. cc) dbs)
      (safe_merge RowsOnly q rs (map (part_of q rs RowsOnly) dbs) (λ e. cc) (some_map (part_of q rs RowsOnly) dbs some) (subst (λ n. n ≤ 2 ^ 31) (sym (length_map (part_of q rs RowsOnly) dbs)) few) safe (none_large q rs RowsOnly dbs none).1)
  tasks_merge Groups dbs only some few safe none = subst (CanMerge Groups q rs) (made Groups (λ e. cc) dbs)
      (safe_merge Groups q rs (map (part_of q rs Groups) dbs) (λ e. cc) (some_map (part_of q rs Groups) dbs some) (subst (λ n. n ≤ 2 ^ 31) (sym (length_map (part_of q rs Groups) dbs)) few) safe (none_large q rs Groups dbs none).1)

-- The first rows of all tasks are enough for a block's cut.
use Rattle.std.proofs.Common.{◌≡◌, ℕ, ◌+◌, ◌<◌, Bool, false, List, [], ◌∷◌, ◌++◌, map, length, get_or, take, drop, refl, sym, ap, subst, ◌∙◌, inl, inr}
use Rattle.std.specs.List.{list_any}
use Rattle.std.specs.Ordering.{is_lt}
use Rattle.std.proofs.lemmas.List.{drop_more}
use Rattle.cq_tree.specs.declared.plan.Combine.TheVariants.{RowsOnly}
use Rattle.cq_tree.specs.declared.query.Query.{Query, Query', out-Query, roll-Query}
use Rattle.cq_meaning.specs.Lists.{Has}
use Rattle.cq_meaning.specs.Values.{Row, Tables, Results}
use Rattle.cq_meaning.specs.Groups.{distinct_if}
use Rattle.cq_meaning.specs.Sorting.{keys_cmp, sorted, sorted_by, cut, limited}
use Rattle.cq_meaning.specs.Queries.{from_rows, item_rows, meaning, AnswersWith}
use Rattle.cq_meaning.proofs.AnswerLaws.{sorted_moves}
use Rattle.cq_meaning.proofs.RowLaws.{has_either}
use Rattle.cq_meaning_laws.proofs.OrderFree.{itemed_width, distinct_width}
use Rattle.cq_task_laws.specs.Partial.{partial}
use Rattle.cq_task_laws.specs.Merging.{merging_rows, joined, as_table}
use Rattle.cq_task_laws.proofs.GatherRows.{whole_answer, has_rows}
use Rattle.cq_combine.proofs.MergeLaws.{merged}
use Rattle.cq_queries.specs.declared.wanted.Top.{Top}
use Rattle.cq_queries.specs.Wanted.{top_of}
use Rattle.cq_queries.proofs.TopLaws.{top_seen}
use Rattle.cq_tasks.specs.Execution.{reads_by, task_rows}

-- a task's rows have a column for each item
task_width : (q : Query) (rs : Results) (db : Tables) (r : Row) → Has (meaning (partial RowsOnly q) db rs) r → length r ≡ length (out-Query q).items
unfolding out-Query roll-Query denote.Hole.Carrier.out denote.Hole.Carrier.roll
task_width (Query' cs ctes ss subs from filter_ grouped keys aggs having items shown distinct order limit offset names) rs db r h =
    let w : ℕ = length items in
    let made : List Row = item_rows filter_ grouped keys aggs having items rs (from_rows from 0 db rs) in
    let full : List Row = distinct_if distinct made in
    let lt : Row → Row → Bool = λ x y. is_lt (keys_cmp [] x y) in
    let wide : (s : Row) → Has full s → length s ≡ w = distinct_width distinct w made (itemed_width filter_ grouped keys aggs having items rs (from_rows from 0 db rs)) in
    has_rows (map (λ row. take w row) (sorted_by lt full)) full w wide (whole_answer w full (sorted_by lt full) (map (λ row. take w row) (sorted_by lt full)) wide (sorted_moves lt full) refl) r h

tasks_width : (q : Query) (rs : Results) (dbs : List Tables) (r : Row) → Has (joined (task_rows RowsOnly q rs dbs)) r → length r ≡ length (out-Query q).items
tasks_width q rs [] r h = absurd h
tasks_width q rs (db ∷ dbs) r h = elim (has_either (meaning (partial RowsOnly q) db rs) (joined (task_rows RowsOnly q rs dbs)) r h) [ inl a ↦ task_width q rs db r a | inr b ↦ tasks_width q rs dbs r b ]

pub tops_gather : (q : Query) (rs : Results) (dbs : List Tables) (most : ℕ) (first rows : List Row) →
    ((us : List Row) → let p = out-Query q in limited p.limit (drop p.offset (take most us)) ≡ limited p.limit (drop p.offset us)) →
    (let p = out-Query q in first ≡ take most (sorted (keys_cmp p.order) (joined (task_rows RowsOnly q rs dbs)))) →
    (let p = out-Query q in rows ≡ cut p.shown p.limit p.offset first) →
    AnswersWith (merging_rows false q) (as_table (joined (task_rows RowsOnly q rs dbs))) rs rows
tops_gather q rs dbs most first rows enough is cutting =
    let p = out-Query q in
    let all : List Row = joined (task_rows RowsOnly q rs dbs) in
    let e : rows ≡ cut p.shown p.limit p.offset (sorted (keys_cmp p.order) (distinct_if false all)) =
    cutting ∙ (ap (cut p.shown p.limit p.offset) is ∙ ap (map (λ row. take p.shown row)) (enough (sorted (keys_cmp p.order) all))) in
    subst (AnswersWith (merging_rows false q) (as_table all) rs) (sym e) (merged false q rs all (tasks_width q rs dbs))

-- one task further to the front
module _ (f : Tables → List Row) (beside : Tables) (parts : List Tables) (at i : ℕ) (own : Tables) (below : i < length parts) (next : at ≡ i + 1) (is : own ≡ get_or parts i own) where
  one_more : drop i parts ≡ own ∷ drop at parts
  one_more = drop_more parts i own below ∙ (ap (λ o. o ∷ drop (i + 1) parts) (sym is) ∙ ap (λ k. own ∷ drop k parts) (sym next))

  pub tops_step : (t : Top) → t.behind ≡ take t.most (sorted (keys_cmp t.keys.now) (joined (map f (reads_by beside (drop at parts))))) →
      top_of t (f (beside ++ own)) ≡ take t.most (sorted (keys_cmp t.keys.now) (joined (map f (reads_by beside (drop i parts)))))
  tops_step t e =
      top_seen t (joined (map f (reads_by beside (drop at parts))), e) (f (beside ++ own))
      ∙ ap (λ ps. take t.most (sorted (keys_cmp t.keys.now) (joined (map f (reads_by beside ps))))) (sym one_more)

  pub large_step : (p : Tables → Bool) → p (beside ++ own) ≡ false → list_any p (reads_by beside (drop at parts)) ≡ false → list_any p (reads_by beside (drop i parts)) ≡ false
  large_step p a b = ap (λ ps. list_any p (reads_by beside ps)) one_more ∙ rw (a, b) refl

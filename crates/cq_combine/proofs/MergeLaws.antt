-- Rows that have all items are merged by their order and their cut alone.
use Rattle.std.proofs.Common.{◌≡◌, ℕ, Bool, true, List, length, sym, subst, ◌∙◌}
use Rattle.std.specs.Prelude.{All}
use Rattle.std.proofs.lemmas.List.Elements.{recursion_from_All}
use Rattle.cq_tree.specs.declared.query.Query.{Query, Query', out-Query, roll-Query}
use Rattle.cq_meaning.specs.Values.{Row, Results}
use Rattle.cq_meaning.specs.Lists.{Has}
use Rattle.cq_meaning.specs.Groups.{distinct_if}
use Rattle.cq_meaning.specs.Sorting.{keys_cmp, sorted, cut}
use Rattle.cq_meaning.specs.Queries.{AnswersWith}
use Rattle.cq_meaning.proofs.AnswerLaws.{mean_answers}
use Rattle.cq_task_laws.specs.Merging.{merging_rows, joined, as_table}
use Rattle.cq_task_laws.proofs.GatherRows.{whole_rows}
use Rattle.cq_task_laws.proofs.SafeMerge.{at_has}

pub merged : (d : Bool) (q : Query) (rs : Results) (rows : List Row) → ((r : Row) → Has rows r → length r ≡ length (out-Query q).items) →
    AnswersWith (merging_rows d q) (as_table rows) rs (let p = out-Query q in cut p.shown p.limit p.offset (sorted (keys_cmp p.order) (distinct_if d rows)))
unfolding out-Query roll-Query denote.Hole.Carrier.out denote.Hole.Carrier.roll
merged d (Query' cs ctes ss subs from filter_ grouped keys aggs having items shown distinct order limit offset names) rs rows width =
    let q : Query = Query' cs ctes ss subs from filter_ grouped keys aggs having items shown distinct order limit offset names in
    subst (λ us. AnswersWith (merging_rows d q) (as_table rows) rs (cut shown limit offset (sorted (keys_cmp order) (distinct_if d us))))
    (whole_rows rs (length items) rows width) (mean_answers (merging_rows d q) (as_table rows) rs)

pub merged_at_once : (d : Bool) (q : Query) (rs : Results) (parts : List (List Row)) (rows us all : List Row) (w : ℕ) (b : Bool) → rows ≡ joined parts → us ≡ rows →
    w ≡ length (out-Query q).items → (b ≡ true → All (λ row. length row ≡ w) us) → b ≡ true →
    all ≡ (let p = out-Query q in cut p.shown p.limit p.offset (sorted (keys_cmp p.order) (distinct_if d rows))) → AnswersWith (merging_rows d q) (as_table (joined parts)) rs all
merged_at_once d q rs parts rows us all w b e f g wide y is =
    let each : (r : Row) → Has us r → length r ≡ w = at_has (λ row. length row ≡ w) us (recursion_from_All (λ row. length row ≡ w) us (wide y)) in
    let width : (r : Row) → Has rows r → length r ≡ length (out-Query q).items = λ r h. each r (subst (λ xs. Has xs r) (sym f) h) ∙ g in
    subst (λ xs. AnswersWith (merging_rows d q) (as_table xs) rs all) e (subst (λ xs. AnswersWith (merging_rows d q) (as_table rows) rs xs) (sym is) (merged d q rs rows width))

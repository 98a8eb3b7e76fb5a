-- What tasks come to is within the widths of a block's outputs.
use Rattle.std.proofs.Common.{◌≡◌, ℕ, zero, suc, pos, ◌+◌, Bool, true, false, List, [], ◌∷◌, ◌++◌, map, length, refl, sym, ap, subst, ◌∙◌, inl, inr, append-nil}
use Rattle.std.specs.Prelude.{filter, slice_set, slice_index_or, ◌||◌}
use Rattle.std.specs.List.{flat_map, list_any, AllByRecursion}
use Rattle.std.proofs.lemmas.List.{length-set}
use Rattle.std.proofs.lemmas.List.Elements.{filter-append}
use Rattle.cq_value.proofs.Truths.{or_neither}
use Rattle.cq_value.specs.declared.value.Value.TheVariants.{Int}
use Rattle.cq_tree.specs.declared.expression.Expr.{Expr, Column}
use Rattle.cq_tree.specs.declared.expression.Cond.{Cond, Always}
use Rattle.cq_tree.specs.declared.plan.Combine.{Combine}
use Rattle.cq_tree.specs.declared.plan.Combine.TheVariants.{Nothing, RowsOnly, Groups}
use Rattle.cq_tree.specs.declared.query.Agg.{Agg}
use Rattle.cq_tree.specs.declared.query.Agg.TheVariants as agg
use Rattle.cq_tree.specs.declared.query.FromTree.{FromTree, Table, Sub', Result, Cross', Inner', Left', end_of-FromTree, more_of-FromTree, end_of-Query, more_of-Query}
use Rattle.cq_tree.specs.declared.query.Query.{Query, Query'}
use Rattle.cq_meaning.specs.declared.Columns.{Columns}
use Rattle.cq_meaning.specs.declared.Group.{Group}
use Rattle.cq_meaning.specs.Lists.{Has}
use Rattle.cq_meaning.specs.Values.{Row, Results, Tables, column, result_at}
use Rattle.cq_meaning.specs.Expressions.{keeps, items_of}
use Rattle.cq_meaning.specs.Joins.{product, left_join}
use Rattle.cq_meaning.specs.Groups.{aggregate, distinct_if, group_row, groups_of}
use Rattle.cq_meaning.specs.Limits.{is_large_group, is_large_from}
use Rattle.cq_meaning.specs.Queries.{columns_in, joins, from_rows, item_rows}
use Rattle.cq_meaning.specs.Widths.{bits, input_bits, from_bits, output_bits, AreBoundItems, IsBoundFrom, IsBoundQuery, Within, AllWithin, Holds}
use Rattle.cq_meaning.proofs.AnswerLaws.{mean_answers}
use Rattle.cq_meaning.proofs.MapLaws.{has_mapped}
use Rattle.cq_meaning.proofs.Reorder as reorder
use Rattle.cq_meaning.proofs.Reorder.{Reordered, same}
use Rattle.cq_meaning.proofs.RowLaws.{has_again, has_either}
use Rattle.cq_meaning_laws.proofs.OrderFree.{groups_again}
use Rattle.cq_meaning_laws.proofs.Permuted.{reordered}
use Rattle.cq_meaning_laws.proofs.SafeLaws.{columns_are, items_fit, query_fits}
use Rattle.cq_meaning_laws.proofs.WithinLaws.{all_append, all_distinct_if, all_filter, within_cut, within_left, within_product}
use Rattle.cq_task_laws.specs.Partial.{columns_from, partial}
use Rattle.cq_task_laws.specs.Merging.{joined, all_combining, is_above_limit, is_large_together, has_large_together}
use Rattle.cq_task_laws.specs.Gathering.{kept_of, has_large_over, AllAnswer, AnswersOver, IsNonEmpty, Serves, ShareNo}
use Rattle.cq_task_laws.proofs.BlockTasks.{part_of, task_meaning_of, none_large, tasks_gather}
use Rattle.cq_task_laws.proofs.GatherLaws.{groups_join, length_push, part_width, some_map}
use Rattle.cq_task_laws.proofs.GatherRows.{all_given, answers_joined, whole_rows}
use Rattle.cq_task_laws.proofs.LargeLaws.{any_at, any_from, count_of, sum_in}
use Rattle.cq_task_laws.proofs.Opened.{from_of, from_is, over_from, counted_groups, large_opened}
use Rattle.cq_task_laws.proofs.PartLaws.{flat_map_of_map, flat_map_same, groups_apart, mapped_has}
use Rattle.cq_subplan_laws.specs.Laws.{TasksFit}

within_again : (ks : List ℕ) {us vs : List Row} → Reordered us vs → AllWithin ks us → AllWithin ks vs
within_again ks reorder.none h = h
within_again ks (reorder.kept r) h = (h.0, within_again ks r h.1)
within_again ks reorder.turned h = (h.1.0, (h.0, h.1.1))
within_again ks (reorder.then r s) h = within_again ks s (within_again ks r h)

has_in : {X : Type 0} (f : X → List Row) (xs : List X) (r : Row) → Has (flat_map f xs) r → (x : X) × Has xs x × Has (f x) r
has_in f [] r h = absurd h
has_in {X} f (x ∷ xs) r h = elim (has_either (f x) (flat_map f xs) r h) [
  | inl here ↦ (x, inl refl, here)
  | inr later ↦ (let u : (y : X) × Has xs y × Has (f y) r = has_in f xs r later in (u.0, inr u.1, u.2))
]

never : (b : Bool) → b ≡ true → b ≡ false → ⊥
never b t f = (let bad : true ≡ false = sym t ∙ f in cc)

not_true : (b : Bool) → (b ≡ true → ⊥) → b ≡ false
not_true true h = absurd (h refl)
not_true false h = refl

-- what is kept of joined rows
kept_joined : (keep : Cond) (rs : Results) (parts : List (List Row)) → filter (keeps keep rs) (joined parts) ≡ flat_map (filter (keeps keep rs)) parts
kept_joined keep rs [] = refl
kept_joined keep rs (p ∷ parts) = filter-append (keeps keep rs) p (joined parts) ∙ ap (λ us. filter (keeps keep rs) p ++ us) (kept_joined keep rs parts)

-- ---- a group that is too large over all tasks' rows is so for a task, or by the counts

-- where tasks share no group
large_apart : (rs : Results) (keys : List Expr) → IsNonEmpty keys → (ps : List (List Row)) → ShareNo (items_of keys rs) ps → list_any is_large_group (groups_of keys rs (joined ps)) ≡ true →
    (p : List Row) × Has ps p × (list_any is_large_group (groups_of keys rs p) ≡ true)
large_apart rs [] some ps apart e = absurd some
large_apart rs (k ∷ ks) some ps apart e =
    let keys : List Expr = k ∷ ks in
    let counted : List Agg = agg.CountAll ∷ [] in
    let counts : List Row → List Row = λ p. map (group_row counted rs) (groups_of keys rs p) in
    let g : (g : Group) × Has (groups_of keys rs (joined ps)) g × (is_large_group g ≡ true) = any_at is_large_group (groups_of keys rs (joined ps)) e in
    let row : Row = group_row counted rs g.0 in
    let there : Has (flat_map counts ps) row = subst (λ us. Has us row) (groups_apart rs counted (items_of keys rs) ps apart) (has_mapped (group_row counted rs) (groups_of keys rs (joined ps)) g.0 g.1) in
    let p : (p : List Row) × Has ps p × Has (counts p) row = has_in counts ps row there in
    let h : (h : Group) × Has (groups_of keys rs p.0) h × (group_row counted rs h ≡ row) = mapped_has (group_row counted rs) (groups_of keys rs p.0) row p.2 in
    let as_many : Int (pos (length g.0.rows)) ≡ Int (pos (length h.0.rows)) =
    sym (count_of rs keys [] (joined ps) g.0 g.1) ∙ (ap (λ x. column x (length keys + 0)) (sym h.2) ∙ count_of rs keys [] p.0 h.0 h.1) in
    (p.0, p.1, any_from is_large_group (groups_of keys rs p.0) h.0 h.1 (subst (λ v. is_above_limit v ≡ true) as_many g.2))

-- where their groups are put together
large_by_counts : (q : Query) (rs : Results) (parts answers : List (List Row)) → IsNonEmpty parts → AllAnswer (partial Groups q) rs parts answers → has_large_over q rs (joined parts) ≡ true → has_large_together Groups q rs answers ≡ true
large_by_counts (Query' cs ctes ss subs from filter_ false keys aggs having items shown distinct order limit offset names) rs parts answers some given large = cc
large_by_counts (Query' cs ctes ss subs from filter_ true keys aggs having items shown distinct order limit offset names) rs parts answers some given large =
    let q : Query = Query' cs ctes ss subs from filter_ true keys aggs having items shown distinct order limit offset names in
    let keep : List Row → List Row = filter (keeps filter_ rs) in
    let counted : List Agg = aggs ++ agg.CountAll ∷ [] in
    let at : ℕ = length keys + length aggs in
    let w : ℕ = length keys + (length aggs + 1) in
    let g : List Row → List Row = λ p. map (group_row counted rs) (groups_of keys rs (keep p)) in
    let wide : (p : List Row) (r : Row) → Has (g p) r → length r ≡ w = λ p r h. part_width rs aggs (agg.CountAll ∷ []) keys (keep p) r h ∙ ap (λ n. length keys + n) (length_push aggs agg.CountAll) in
    let g2 : List Row → List Row = λ p. map (items_of (columns_from 0 w) rs) (filter (keeps Always rs) (g p)) in
    let same_part : (p : List Row) → g2 p ≡ g p = λ p. whole_rows rs w (g p) (wide p) in
    let r1 : Reordered (flat_map g2 parts) (joined answers) =
    answers_joined w g2 (λ p r h. wide p r (subst (λ us. Has us r) (same_part p) h)) parts answers
    (all_given (partial Groups q) rs w g2 (λ p a h. counted_groups q rs p a refl h) parts answers given) in
    let r2 : Reordered (flat_map g parts) (joined answers) = subst (λ us. Reordered us (joined answers)) (flat_map_same g2 g parts (λ p h. same_part p)) r1 in
    let cols : List Expr = columns_from 0 (length keys) in
    let sums : List Agg = all_combining (length keys) counted in
    let e2 : map (group_row sums rs) (groups_of cols rs (flat_map g parts)) ≡ map (group_row counted rs) (groups_of keys rs (flat_map keep parts)) =
    ap (λ us. map (group_row sums rs) (groups_of cols rs us)) (sym (flat_map_of_map (λ p. map (group_row counted rs) (groups_of keys rs p)) keep parts))
    ∙ (ap (λ more. map (group_row sums rs) (groups_of cols rs (flat_map (λ p. map (group_row more rs) (groups_of keys rs p)) (map keep parts)))) (sym (append-nil counted))
    ∙ (groups_join rs counted [] keys (map keep parts) (some_map keep parts some)
    ∙ ap (λ us. map (group_row counted rs) (groups_of keys rs us)) (flat_map_of_map (λ p. p) keep parts))) in
    let r3 : Reordered (map (group_row counted rs) (groups_of keys rs (flat_map keep parts))) (map (group_row sums rs) (groups_of cols rs (joined answers))) =
    subst (λ us. Reordered us (map (group_row sums rs) (groups_of cols rs (joined answers)))) e2 (groups_again sums cols rs r2) in
    let big : (h : Group) × Has (groups_of keys rs (flat_map keep parts)) h × (is_large_group h ≡ true) =
    any_at is_large_group (groups_of keys rs (flat_map keep parts)) (subst (λ us. list_any is_large_group (groups_of keys rs us) ≡ true) (kept_joined filter_ rs parts) large) in
    let row : Row = group_row counted rs big.0 in
    let there : (h : Group) × Has (groups_of cols rs (joined answers)) h × (group_row sums rs h ≡ row) =
    mapped_has (group_row sums rs) (groups_of cols rs (joined answers)) row (has_again r3 row (has_mapped (group_row counted rs) (groups_of keys rs (flat_map keep parts)) big.0 big.1)) in
    let as_many : Int (pos (length big.0.rows)) ≡ aggregate rs there.0.rows (agg.Sum (Column at)) =
    sym (count_of rs keys aggs (flat_map keep parts) big.0 big.1) ∙ (ap (λ x. column x at) (sym there.2) ∙ sum_in rs keys aggs (joined answers) there.0 there.1) in
    let above : is_above_limit (aggregate rs there.0.rows (agg.Sum (Column at))) ≡ true = subst (λ v. is_above_limit v ≡ true) as_many big.2 in
    large_opened q rs answers ∙ any_from (is_large_together at rs) (groups_of cols rs (joined answers)) there.0 there.1 (or_second (is_large_group there.0) above)
  where
    or_second : (a : Bool) {b : Bool} → b ≡ true → (a || b) ≡ true
    or_second true e = refl
    or_second false e = e

-- so none is, where none is so for a task, or by the counts
small_over : (kind : Combine) (q : Query) (rs : Results) (parts answers : List (List Row)) → (kind ≡ Nothing → ⊥) → IsNonEmpty parts → Serves kind q rs parts → AllAnswer (partial kind q) rs parts answers →
    AllByRecursion (λ p. has_large_over q rs p ≡ false) parts → has_large_together kind q rs answers ≡ false → has_large_over q rs (joined parts) ≡ false
small_over Nothing q rs parts answers several some serves given small few = absurd (several refl)
small_over RowsOnly (Query' cs ctes ss subs from filter_ false keys aggs having items shown distinct order limit offset names) rs parts answers several some serves given small few = refl
small_over RowsOnly (Query' cs ctes ss subs from filter_ true keys aggs having items shown distinct order limit offset names) rs parts answers several some serves given small few =
    let q : Query = Query' cs ctes ss subs from filter_ true keys aggs having items shown distinct order limit offset names in
    let keep : List Row → List Row = filter (keeps filter_ rs) in
    let apart = serves.0 refl in
    not_true (has_large_over q rs (joined parts)) (λ e.
    let u = large_apart rs keys apart.0 (map keep parts) apart.1
    (subst (λ us. list_any is_large_group (groups_of keys rs us) ≡ true) (kept_joined filter_ rs parts ∙ sym (flat_map_of_map (λ (p : List Row). p) keep parts)) e) in
    let v = mapped_has keep parts u.0 u.1 in
    never (has_large_over q rs v.0) (subst (λ us. list_any is_large_group (groups_of keys rs us) ≡ true) (sym v.2) u.2) (each_has parts v.0 v.1 small))
  where
    each_has : (ps : List (List Row)) (p : List Row) → Has ps p → AllByRecursion (λ us. has_large_over (Query' cs ctes ss subs from filter_ true keys aggs having items shown distinct order limit offset names) rs us ≡ false) ps →
        has_large_over (Query' cs ctes ss subs from filter_ true keys aggs having items shown distinct order limit offset names) rs p ≡ false
    each_has [] p h all = absurd h
    each_has (x ∷ ps) p (inl e) all = subst (λ us. list_any is_large_group (groups_of keys rs (filter (keeps filter_ rs) us)) ≡ false) e all.0
    each_has (x ∷ ps) p (inr h) all = each_has ps p h all.1
small_over Groups q rs parts answers several some serves given small few = not_true (has_large_over q rs (joined parts)) (λ e. never (has_large_together Groups q rs answers) (large_by_counts q rs parts answers some given e) few)

-- ---- widths

module _ (cs : Columns) (db : Tables) (rs : Results) (holds : Holds cs db rs) where
  from_fits : (ahead : List ℕ) (start : ℕ) (f : FromTree) → IsBoundFrom cs ahead f → is_large_from f db rs ≡ false → AllWithin (from_bits cs f) (from_rows f start db rs)
  from_fits ahead start (Table t n) h small = holds.in_tables t
  from_fits ahead start (Sub' p (more_of-Query q end_of-Query)) h small = query_fits cs db rs holds q h small
  from_fits ahead start (Result i n) h small = holds.in_results i
  from_fits ahead start (Cross' p (more_of-FromTree a end_of-FromTree) q (more_of-FromTree b end_of-FromTree)) h small =
      let s = or_neither (is_large_from a db rs) (is_large_from b db rs) small in
      within_product (from_bits cs a) (from_bits cs b) (from_rows a start db rs) (from_rows b (start + columns_in a) db rs) (from_fits ahead start a h.0 s.0) (from_fits (ahead ++ from_bits cs a) (start + columns_in a) b h.1 s.1)
  from_fits ahead start (Inner' p (more_of-FromTree a end_of-FromTree) q (more_of-FromTree b end_of-FromTree) on) h small =
      let s = or_neither (is_large_from a db rs) (is_large_from b db rs) small in
      all_filter (Within (from_bits cs a ++ from_bits cs b)) (joins on rs start) (product (from_rows a start db rs) (from_rows b (start + columns_in a) db rs))
      (within_product (from_bits cs a) (from_bits cs b) (from_rows a start db rs) (from_rows b (start + columns_in a) db rs) (from_fits ahead start a h.0 s.0) (from_fits (ahead ++ from_bits cs a) (start + columns_in a) b h.1 s.1))
  from_fits ahead start (Left' p (more_of-FromTree a end_of-FromTree) q (more_of-FromTree b end_of-FromTree) on) h small =
      let s = or_neither (is_large_from a db rs) (is_large_from b db rs) small in
      subst (λ n. AllWithin (from_bits cs a ++ from_bits cs b) (left_join (joins on rs start) n (from_rows a start db rs) (from_rows b (start + columns_in a) db rs)))
      (sym (columns_are cs (ahead ++ from_bits cs a) b h.1))
      (within_left (from_bits cs a) (from_bits cs b) (joins on rs start) (from_rows a start db rs) (from_rows b (start + columns_in a) db rs) (from_fits ahead start a h.0 s.0) (from_fits (ahead ++ from_bits cs a) (start + columns_in a) b h.1 s.1))

module _ (cs : Columns) (q : Query) (rs : Results) (bound : IsBoundQuery cs q) (counted : length rs ≡ length cs.results) where
  -- the rows of the FROMs of several databases
  parts_fit : (dbs : List Tables) → AllByRecursion (λ db. Holds cs db rs) dbs → AllByRecursion (λ db. is_large_from (from_of q) db rs ≡ false) dbs → AllWithin (from_bits cs (from_of q)) (flat_map (λ db. from_rows (from_of q) 0 db rs) dbs)
  parts_fit [] holds small = tt
  parts_fit (db ∷ dbs) holds small =
      all_append (Within (from_bits cs (from_of q))) (from_rows (from_of q) 0 db rs) (flat_map (λ d. from_rows (from_of q) 0 d rs) dbs)
      (from_fits cs db rs holds.0 [] 0 (from_of q) (bound_from q bound) small.0) (parts_fit dbs holds.1 small.1)
    where
      bound_from : (q : Query) → IsBoundQuery cs q → IsBoundFrom cs [] (from_of q)
      bound_from (Query' ts ctes ss subs from filter_ grouped keys aggs having items shown distinct order limit offset names) b = b.0

-- an answer over rows of a FROM that are within their widths
over_fits : (cs : Columns) (q : Query) (rs : Results) → IsBoundQuery cs q → length rs ≡ length cs.results → (from rows : List Row) → AllWithin (from_bits cs (from_of q)) from → has_large_over q rs from ≡ false →
    AnswersOver q rs from rows → AllWithin (output_bits cs q) rows
over_fits cs (Query' ts ctes ss subs from filter_ grouped keys aggs having items shown distinct order limit offset names) rs bound counted all rows within small a =
    let ks : List ℕ = from_bits cs from in
    let js : List ℕ = map (bits (input_bits ks grouped keys aggs)) items in
    let own : AreBoundItems ks (length rs) filter_ grouped keys aggs having items = subst (λ n. AreBoundItems ks n filter_ grouped keys aggs having items) (sym counted) bound.1 in
    let made : List Row = item_rows filter_ grouped keys aggs having items rs all in
    let full : AllWithin js (distinct_if distinct made) = all_distinct_if (Within js) distinct made (items_fit rs ks filter_ grouped keys aggs having items all own within small) in
    subst (AllWithin (output_bits cs (Query' ts ctes ss subs from filter_ grouped keys aggs having items shown distinct order limit offset names))) (sym a.3)
    (within_cut js shown limit offset a.0 (within_again js (reordered (distinct_if distinct made) a.0 a.1) full))

-- what the tasks of a block come to
pub tasks_fit : TasksFit
tasks_fit cs kind q rs dbs rows several bound counted some holds own small few gathers =
    let serves : Serves kind q rs (map (part_of q rs kind) dbs) = subst (λ f. Serves kind q rs (map (λ db. from_rows f 0 db rs) dbs)) (from_is q) own in
    let parts : List (List Row) = map (part_of q rs kind) dbs in
    let none = none_large q rs kind dbs small in
    over_fits cs q rs bound counted (joined parts) rows
    (subst (AllWithin (from_bits cs (from_of q))) (sym (flat_map_of_map (λ (p : List Row). p) (part_of q rs kind) dbs)) (parts_fit cs q rs bound counted dbs holds none.0))
    (small_over kind q rs parts (map (task_meaning_of q rs kind) dbs) several (some_map (part_of q rs kind) dbs some) serves (all_answer dbs) none.1 few)
    (tasks_gather q rs kind dbs (joined parts) (joined_cut q rs parts) rows serves gathers)
  where
    all_answer : (ds : List Tables) → AllAnswer (partial kind q) rs (map (part_of q rs kind) ds) (map (task_meaning_of q rs kind) ds)
    all_answer [] = tt
    all_answer (d ∷ ds) = (over_from q kind d rs (task_meaning_of q rs kind d) (mean_answers (partial kind q) d rs), all_answer ds)

    joined_cut : (q : Query) (rs : Results) (parts : List (List Row)) → Reordered (kept_of q rs (joined parts)) (flat_map (kept_of q rs) parts)
    joined_cut (Query' ts ctes ss subs from filter_ grouped keys aggs having items shown distinct order limit offset names) rs parts =
        subst (λ us. Reordered us (flat_map (filter (keeps filter_ rs)) parts)) (sym (kept_joined filter_ rs parts)) (same (flat_map (filter (keeps filter_ rs)) parts))

-- ---- a result is replaced by rows within its widths

set_within : (ks : List (List ℕ)) (rs : Results) (k : ℕ) (rows : List Row) → AllWithin (slice_index_or ks k []) rows →
    ((i : ℕ) → AllWithin (slice_index_or ks i []) (result_at rs i)) → (i : ℕ) → AllWithin (slice_index_or ks i []) (result_at (slice_set rs k rows) i)
set_within ks [] k rows h w i = w i
set_within [] (r ∷ rs) zero rows h w zero = h
set_within (b ∷ ks) (r ∷ rs) zero rows h w zero = h
set_within ks (r ∷ rs) zero rows h w (suc i) = w (suc i)
set_within ks (r ∷ rs) (suc k) rows h w zero = w zero
set_within [] (r ∷ rs) (suc k) rows h w (suc i) = set_within [] rs k rows h (λ j. w (suc j)) i
set_within (b ∷ ks) (r ∷ rs) (suc k) rows h w (suc i) = set_within ks rs k rows h (λ j. w (suc j)) i

pub holds_set : (cs : Columns) (db : Tables) (rs : Results) (k : ℕ) (rows : List Row) → Holds cs db rs → AllWithin (slice_index_or cs.results k []) rows → Holds cs db (slice_set rs k rows)
holds_set cs db rs k rows holds h = record {
  in_tables = holds.in_tables;
  in_results = set_within cs.results rs k rows h holds.in_results;
  counted = length-set rs k rows ∙ holds.counted;
}

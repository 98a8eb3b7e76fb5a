-- What the coordinator makes of the tasks' rows is an answer of the block, for each way of combining.
use Rattle.std.proofs.Common.{◌≡◌, ℕ, suc, ◌+◌, true, false, List, [], ◌∷◌, ◌++◌, map, length, refl, sym, ap, subst, ◌∙◌, append-nil, length-append, inl, inr, zero-add}
use Rattle.std.specs.Prelude.{filter}
use Rattle.std.specs.List.{flat_map}
use Rattle.cq_value.proofs.Lists.{length_map}
use Rattle.cq_tree.specs.declared.expression.Expr.{Expr}
use Rattle.cq_tree.specs.declared.expression.Cond.{Always}
use Rattle.cq_tree.specs.declared.query.Agg.{Agg}
use Rattle.cq_tree.specs.declared.query.Agg.TheVariants as agg
use Rattle.cq_tree.specs.declared.query.Query.{Query, Query'}
use Rattle.cq_meaning.specs.Values.{Row, column, same_row}
use Rattle.cq_meaning.specs.Expressions.{value_of, keeps, items_of}
use Rattle.cq_meaning.specs.Groups.{distinct, distinct_if, groups_of, group_row, aggregate}
use Rattle.cq_meaning.specs.Queries.{item_rows}
use Rattle.cq_meaning.proofs.Reorder.{Reordered, then, filtered, mapped}
use Rattle.cq_meaning.specs.Lists.{Has}
use Rattle.cq_tree.specs.declared.plan.Combine.{Combine}
use Rattle.cq_tree.specs.declared.plan.Combine.TheVariants.{Nothing, RowsOnly, Groups}
use Rattle.cq_task_laws.specs.Partial.{columns_from, partial}
use Rattle.cq_task_laws.specs.Merging.{joined, GathersTo, all_combining}
use Rattle.cq_task_laws.specs.Gathering.{full_over, IsCutOf, AnswersOver, kept_of, IsNonEmpty, Serves, AllAnswer}
use Rattle.cq_meaning.proofs.RowLaws.{distinct_again, filter_all, distinct_has}
use Rattle.cq_meaning_laws.proofs.OrderFree.{itemed_width, distinct_width, distinct_if_again, groups_again}
use Rattle.cq_task_laws.proofs.PartLaws.{group_rows_are, map_of_flat_map, flat_map_same, flat_map_of_map, distinct_of_parts, mapped_has}
use Rattle.cq_task_laws.proofs.Opened.{distinct_merged, groups_merged, distinct_items, counted_groups, regrouped_rows}
use Rattle.cq_task_laws.proofs.GatherRows.{whole_rows, all_given, answers_joined, moved_cut, has_rows, wide_parts, gather_rows}
use Rattle.cq_task_laws.proofs.Combining.{all_combined}
use Rattle.cq_task_laws.proofs.Regrouping.{regrouped}

-- DISTINCT once more
gather_distinct : (q : Query) (rs : List (List Row)) (parts answers : List (List Row)) (full rows : List Row) (f : List Row → List Row) (w : ℕ) →
    ((p : List Row) (r : Row) → Has (f p) r → length r ≡ w) → Reordered full (flat_map f parts) → Reordered (flat_map (λ p. distinct (f p)) parts) (joined answers) →
    IsCutOf q (distinct (map (items_of (columns_from 0 w) rs) (filter (keeps Always rs) (joined answers)))) rows → IsCutOf q (distinct full) rows
gather_distinct q rs parts answers full rows f w width again given a =
    let wide : (p : List Row) (r : Row) → Has (distinct (f p)) r → length r ≡ w = λ p r h. width p r (distinct_has (f p) r h) in
    let e : map (items_of (columns_from 0 w) rs) (filter (keeps Always rs) (joined answers)) ≡ joined answers =
    whole_rows rs w (joined answers) (has_rows (joined answers) (flat_map (λ p. distinct (f p)) parts) w (wide_parts w (λ p. distinct (f p)) parts wide) given) in
    moved_cut q (distinct full) (distinct (joined answers)) rows
    (then (distinct_again again) (subst (λ us. Reordered us (distinct (joined answers))) (distinct_of_parts f parts) (distinct_again given)))
    (subst (λ us. IsCutOf q (distinct us) rows) e a)

-- the rows of the groups of parts
module _ (rs : List (List Row)) (aggs rest : List Agg) where
  abbrev more : List Agg
  more = aggs ++ rest

  pub part_width : (keys : List Expr) (rows : List Row) (r : Row) → Has (map (group_row more rs) (groups_of keys rs rows)) r → length r ≡ length keys + length more
  part_width [] rows r (inl e) = subst (λ z. length z ≡ length more) e (length_map (aggregate rs rows) more) ∙ sym (zero-add (length more))
  part_width [] rows r (inr h) = absurd h
  part_width (e ∷ es) rows r h =
      let key : Row → Row = items_of (e ∷ es) rs in
      let u : (k : Row) × Has (distinct (map key rows)) k × (group_row more rs (record { keys = k; rows = filter (λ s. same_row k (key s)) rows }) ≡ r) =
      mapped_has (λ k. group_row more rs (record { keys = k; rows = filter (λ s. same_row k (key s)) rows })) (distinct (map key rows)) r (subst (λ us. Has us r) (group_rows_are rs more key rows) h) in
      let v : (s : Row) × Has rows s × (key s ≡ u.0) = mapped_has key rows u.0 (distinct_has (map key rows) u.0 u.1) in
      let kw : length u.0 ≡ length (e ∷ es) = subst (λ z. length z ≡ length (e ∷ es)) v.2 (length_map (λ x. value_of x v.0 rs) (e ∷ es)) in
      let lw : length (map (aggregate rs (filter (λ s. same_row u.0 (key s)) rows)) more) ≡ length more = length_map (aggregate rs (filter (λ s. same_row u.0 (key s)) rows)) more in
      subst (λ z. length z ≡ length (e ∷ es) + length more) u.2
      (length-append u.0 (map (aggregate rs (filter (λ s. same_row u.0 (key s)) rows)) more) ∙ (λ i. kw i + lw i))

  part_groups : List Expr → List Row → List Row
  part_groups keys rows = map (group_row more rs) (groups_of keys rs rows)

  single : (f : List Row → Row) (ps : List (List Row)) → flat_map (λ p. f p ∷ []) ps ≡ map f ps
  single f [] = refl
  single f (p ∷ ps) = ap (λ us. f p ∷ us) (single f ps)

  pub groups_join : (keys : List Expr) (ps : List (List Row)) → IsNonEmpty ps →
      map (group_row (all_combining (length keys) aggs) rs) (groups_of (columns_from 0 (length keys)) rs (flat_map (λ p. map (group_row more rs) (groups_of keys rs p)) ps))
      ≡ map (group_row aggs rs) (groups_of keys rs (joined ps))
  groups_join [] ps some = ap (λ us. us ∷ [])
      (ap (λ us. map (aggregate rs us) (all_combining 0 aggs)) (single (λ p. map (aggregate rs p) more) ps)
      ∙ all_combined rs (λ p. map (aggregate rs p) more) ps some aggs rest 0 (λ p j. ap (λ n. column (map (aggregate rs p) more) n) (zero-add j)))
  groups_join (e ∷ es) ps some = regrouped rs (e ∷ es) aggs rest ps

pub some_map : {X Y : Type 0} (f : X → Y) (ps : List X) → IsNonEmpty ps → IsNonEmpty (map f ps)
some_map f [] h = absurd h
some_map f (p ∷ ps) h = tt

pub length_push : {X : Type 0} (xs : List X) (x : X) → length (xs ++ x ∷ []) ≡ length xs + 1
length_push xs x = length-append xs (x ∷ [])

pub gather_groups : (q : Query) (rs : List (List Row)) (parts answers : List (List Row)) (whole rows : List Row) →
    Reordered (kept_of q rs whole) (flat_map (kept_of q rs) parts) → Serves Groups q rs parts → AllAnswer (partial Groups q) rs parts answers →
    GathersTo Groups q rs answers rows → AnswersOver q rs whole rows
gather_groups (Query' cs ctes ss subs from filter_ false keys aggs having items shown distinct order limit offset names) rs parts answers whole rows again serves given gathers =
    let q : Query = Query' cs ctes ss subs from filter_ false keys aggs having items shown distinct order limit offset names in
    let f : List Row → List Row = item_rows filter_ false keys aggs having items rs in
    let w : ℕ = length items in
    let width : (p : List Row) (r : Row) → Has (f p) r → length r ≡ w = itemed_width filter_ false keys aggs having items rs in
    let r1 : Reordered (flat_map (λ p. distinct_if true (f p)) parts) (joined answers) =
    answers_joined w (λ p. distinct_if true (f p)) (λ p. distinct_width true w (f p) (width p)) parts answers
    (all_given (partial Groups q) rs w (λ p. distinct_if true (f p)) (λ p a h. distinct_items q rs p a refl h) parts answers given) in
    let r2 : Reordered (f whole) (flat_map f parts) = subst (λ us. Reordered (f whole) us) (map_of_flat_map (items_of items rs) (filter (keeps filter_ rs)) parts) (mapped (items_of items rs) again) in
    let d : distinct ≡ true = elim serves.1 [ inl e ↦ cc | inr e ↦ e ] in
    subst (λ b. IsCutOf q (distinct_if b (f whole)) rows) (sym d) (gather_distinct q rs parts answers (f whole) rows f w width r2 r1 (distinct_merged q rs (joined answers) rows refl gathers))
gather_groups (Query' cs ctes ss subs from filter_ true keys aggs having items shown distinct order limit offset names) rs parts answers whole rows again serves given gathers =
    let q : Query = Query' cs ctes ss subs from filter_ true keys aggs having items shown distinct order limit offset names in
    let keep : List Row → List Row = filter (keeps filter_ rs) in
    let more_aggs : List Agg = aggs ++ agg.CountAll ∷ [] in
    let w : ℕ = length keys + (length aggs + 1) in
    let g : List Row → List Row = λ p. map (group_row more_aggs rs) (groups_of keys rs (keep p)) in
    let wide : (p : List Row) (r : Row) → Has (g p) r → length r ≡ w = λ p r h. part_width rs aggs (agg.CountAll ∷ []) keys (keep p) r h ∙ ap (λ n. length keys + n) (length_push aggs agg.CountAll) in
    let g2 : List Row → List Row = λ p. map (items_of (columns_from 0 w) rs) (filter (keeps Always rs) (g p)) in
    let same : (p : List Row) → g2 p ≡ g p = λ p. whole_rows rs w (g p) (wide p) in
    let r1 : Reordered (flat_map g2 parts) (joined answers) =
    answers_joined w g2 (λ p r h. wide p r (subst (λ us. Has us r) (same p) h)) parts answers
    (all_given (partial Groups q) rs w g2 (λ p a h. counted_groups q rs p a refl h) parts answers given) in
    let r2 : Reordered (flat_map g parts) (joined answers) = subst (λ us. Reordered us (joined answers)) (flat_map_same g2 g parts (λ p h. same p)) r1 in
    let cols : List Expr = columns_from 0 (length keys) in
    let sums : List Agg = all_combining (length keys) aggs in
    let e1 : filter (keeps Always rs) (joined answers) ≡ joined answers = filter_all (keeps Always rs) (joined answers) (λ r h. refl) in
    let e2 : map (group_row sums rs) (groups_of cols rs (flat_map g parts)) ≡ map (group_row aggs rs) (groups_of keys rs (flat_map keep parts)) =
    ap (λ us. map (group_row sums rs) (groups_of cols rs us)) (sym (flat_map_of_map (λ p. map (group_row more_aggs rs) (groups_of keys rs p)) keep parts))
    ∙ (groups_join rs aggs (agg.CountAll ∷ []) keys (map keep parts) (some_map keep parts serves.0)
    ∙ ap (λ us. map (group_row aggs rs) (groups_of keys rs us)) (flat_map_of_map (λ p. p) keep parts)) in
    let r3 : Reordered (map (group_row aggs rs) (groups_of keys rs (keep whole))) (map (group_row sums rs) (groups_of cols rs (filter (keeps Always rs) (joined answers)))) =
    subst (λ us. Reordered (map (group_row aggs rs) (groups_of keys rs (keep whole))) (map (group_row sums rs) (groups_of cols rs us))) (sym e1)
    (then (groups_again aggs keys rs again) (subst (λ us. Reordered us (map (group_row sums rs) (groups_of cols rs (joined answers)))) e2 (groups_again sums cols rs r2))) in
    moved_cut q (full_over q rs whole) (regrouped_rows q rs (joined answers)) rows
    (distinct_if_again distinct (mapped (items_of items rs) (filtered (keeps having rs) r3))) (groups_merged q rs (joined answers) rows refl gathers)

-- under `Nothing` the one task has all the rows that are kept
one_part : (q : Query) (rs : List (List Row)) (parts answers : List (List Row)) (whole rows : List Row) →
    Reordered (kept_of q rs whole) (flat_map (kept_of q rs) parts) → AllAnswer q rs parts answers → answers ≡ rows ∷ [] → AnswersOver q rs whole rows
one_part q rs [] answers whole rows again h e = absurd (subst (λ us. AllAnswer q rs [] us) e h)
one_part q rs (p ∷ p2 ∷ parts) answers whole rows again h e = let k : AllAnswer q rs (p ∷ p2 ∷ parts) (rows ∷ []) = subst (λ us. AllAnswer q rs (p ∷ p2 ∷ parts) us) e h in absurd k.1
one_part q rs (p ∷ []) answers whole rows again h e =
    let k : AllAnswer q rs (p ∷ []) (rows ∷ []) = subst (λ us. AllAnswer q rs (p ∷ []) us) e h in
    over_kept q rs whole p rows (subst (λ us. Reordered (kept_of q rs whole) us) (append-nil (kept_of q rs p)) again) k.0
  where
    over_kept : (q : Query) (rs : List (List Row)) (whole p rows : List Row) → Reordered (kept_of q rs whole) (kept_of q rs p) → AnswersOver q rs p rows → AnswersOver q rs whole rows
    over_kept (Query' cs ctes ss subs from filter_ false keys aggs having items shown distinct order limit offset names) rs whole p rows r a =
        let q : Query = Query' cs ctes ss subs from filter_ false keys aggs having items shown distinct order limit offset names in
        moved_cut q (full_over q rs whole) (full_over q rs p) rows (distinct_if_again distinct (mapped (items_of items rs) r)) a
    over_kept (Query' cs ctes ss subs from filter_ true keys aggs having items shown distinct order limit offset names) rs whole p rows r a =
        let q : Query = Query' cs ctes ss subs from filter_ true keys aggs having items shown distinct order limit offset names in
        moved_cut q (full_over q rs whole) (full_over q rs p) rows (distinct_if_again distinct (mapped (items_of items rs) (filtered (keeps having rs) (groups_again aggs keys rs r)))) a

-- what the coordinator makes of the tasks' rows is an answer of the block
pub gather : (kind : Combine) (q : Query) (rs : List (List Row)) (parts answers : List (List Row)) (whole rows : List Row) →
    Reordered (kept_of q rs whole) (flat_map (kept_of q rs) parts) →
    Serves kind q rs parts →
    AllAnswer (partial kind q) rs parts answers →
    GathersTo kind q rs answers rows →
    AnswersOver q rs whole rows
gather Nothing q rs parts answers whole rows again serves given gathers = one_part q rs parts answers whole rows again given gathers
gather RowsOnly q rs parts answers whole rows again serves given gathers = gather_rows q rs parts answers whole rows again serves given gathers
gather Groups q rs parts answers whole rows again serves given gathers = gather_groups q rs parts answers whole rows again serves given gathers

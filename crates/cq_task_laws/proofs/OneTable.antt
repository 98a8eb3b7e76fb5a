-- What the tasks of a block need, and what they give, where its FROM is one table of which each task reads a part.
use Rattle.std.proofs.Common.{◌≡◌, ℕ, ◌≤◌, ◌^◌, ◌+◌, true, false, List, [], ◌∷◌, ◌++◌, map, length, All, refl, sym, ap, subst, ◌∙◌, inl, inr, arith}
use Rattle.std.specs.Prelude.{filter}
use Rattle.std.specs.List.{list_any, AllByRecursion}
use Rattle.std.proofs.lemmas.List.Elements.{recursion_from_All}
use Rattle.cq_value.proofs.Lists.{length_map}
use Rattle.cq_tree.specs.declared.plan.Combine.{Combine}
use Rattle.cq_tree.specs.declared.plan.Combine.TheVariants.{Nothing, RowsOnly, Groups}
use Rattle.cq_tree.specs.declared.expression.Expr.{Expr, Column}
use Rattle.cq_tree.specs.declared.expression.Cond.{Cond, Always}
use Rattle.cq_tree.specs.declared.query.Agg.{Agg}
use Rattle.cq_tree.specs.declared.query.Agg.TheVariants as agg
use Rattle.cq_tree.specs.declared.query.Query.{Query, Query'}
use Rattle.cq_meaning.specs.declared.Group.{Group}
use Rattle.cq_meaning.specs.Lists.{Has}
use Rattle.cq_meaning.specs.Values.{Row}
use Rattle.cq_meaning.specs.Expressions.{keeps}
use Rattle.cq_meaning.specs.Groups.{group_row, groups_of}
use Rattle.cq_meaning.specs.Limits.{is_large_group}
use Rattle.cq_meaning.specs.Queries.{item_rows}
use Rattle.cq_meaning.specs.Safety.{IsSafe, IsSafeCondition, IsSafeAggregate, AreSafeGroups, AreSafeItems}
use Rattle.cq_meaning.proofs.RowLaws.{has_either, has_filtered}
use Rattle.cq_meaning_laws.proofs.OrderFree.{itemed_width, distinct_width}
use Rattle.cq_task_laws.specs.Partial.{columns_from, partial}
use Rattle.cq_task_laws.specs.Merging.{joined, all_combining, is_large_together}
use Rattle.cq_task_laws.specs.Counting.{CanMerge}
use Rattle.cq_task_laws.specs.Gathering.{full_over, has_large_over, IsSafeOver, IsNonEmpty}
use Rattle.cq_task_laws.proofs.Opened.{safe_partial, task_items, task_distinct, task_groups, can_merge_rows, can_merge_distinct, can_merge_groups}
use Rattle.cq_task_laws.proofs.PartLaws.{mapped_has, flat_map_of_map, flat_map_filter, flat_map_same}
use Rattle.cq_task_laws.proofs.GatherRows.{whole_rows, wide_parts}
use Rattle.cq_task_laws.proofs.GatherLaws.{part_width, length_push, some_map}
use Rattle.cq_task_laws.proofs.SafeMerge.{of_has, at_has, columns_safe, rows_safe, partial_rows, counts_safe, groups_safe}

-- a task that groups

group_task : (filter_ : Cond) (keys : List Expr) (aggs : List Agg) (having : Cond) (items : List Expr) (rs : List (List Row)) (p : List Row) → AreSafeItems filter_ true keys aggs having items rs p →
    AreSafeItems filter_ true keys (aggs ++ agg.CountAll ∷ []) Always (columns_from 0 (length keys + (length aggs + 1))) rs p
group_task filter_ keys aggs having items rs p h = (
  h.0,
  h.1,
  λ none. record {
    aggregates = of_has (λ g. All (IsSafeAggregate rs g.rows) (aggs ++ agg.CountAll ∷ [])) gs (λ g m. of_has (IsSafeAggregate rs g.rows) (aggs ++ agg.CountAll ∷ []) (λ a k. each g (at_has (λ (x : Group). All (IsSafeAggregate rs x.rows) aggs) gs (recursion_from_All (λ (x : Group). All (IsSafeAggregate rs x.rows) aggs) gs (h.2 none).aggregates) g m) a k));
    conditions = of_has (λ row. IsSafeCondition Always row rs) (map (group_row (aggs ++ agg.CountAll ∷ []) rs) gs) (λ r k. tt);
    values = of_has (λ row. All (λ e. IsSafe e row rs) (columns_from 0 (length keys + (length aggs + 1)))) (filter (keeps Always rs) (map (group_row (aggs ++ agg.CountAll ∷ []) rs) gs))
        (λ r k. columns_safe (length keys + (length aggs + 1)) r rs (wide r (has_filtered (keeps Always rs) (map (group_row (aggs ++ agg.CountAll ∷ []) rs) gs) r k).0));
  },
)
  where
    gs : List Group
    gs = groups_of keys rs (filter (keeps filter_ rs) p)

    each : (g : Group) → All (IsSafeAggregate rs g.rows) aggs → (a : Agg) → Has (aggs ++ agg.CountAll ∷ []) a → IsSafeAggregate rs g.rows a
    each g safe a k = elim (has_either aggs (agg.CountAll ∷ []) a k) [
      | inl b ↦ at_has (IsSafeAggregate rs g.rows) aggs (recursion_from_All (IsSafeAggregate rs g.rows) aggs safe) a b
      | inr c ↦ last g a c
    ]
      where
        last : (g : Group) (a : Agg) → Has (agg.CountAll ∷ []) a → IsSafeAggregate rs g.rows a
        last g a (inl e) = subst (IsSafeAggregate rs g.rows) e tt
        last g a (inr c) = absurd c

    wide : (r : Row) → Has (map (group_row (aggs ++ agg.CountAll ∷ []) rs) (groups_of keys rs (filter (keeps filter_ rs) p))) r → length keys + (length aggs + 1) ≤ length r
    wide r k =
        let e : length r ≡ length keys + length (aggs ++ agg.CountAll ∷ []) = part_width rs aggs (agg.CountAll ∷ []) keys (filter (keeps filter_ rs) p) r k in
        let f : length (aggs ++ agg.CountAll ∷ []) ≡ length aggs + 1 = length_push aggs agg.CountAll in
        omega arith

pub safe_task : (kind : Combine) (q : Query) (rs : List (List Row)) (part : List Row) → IsSafeOver q rs part → IsSafeOver (partial kind q) rs part
safe_task kind (Query' cs ctes ss subs from filter_ false keys aggs having items shown distinct order limit offset names) rs part h =
    safe_partial kind (Query' cs ctes ss subs from filter_ false keys aggs having items shown distinct order limit offset names) rs part (λ e. cc) h
safe_task kind (Query' cs ctes ss subs from filter_ true keys aggs having items shown distinct order limit offset names) rs part h =
    safe_partial kind (Query' cs ctes ss subs from filter_ true keys aggs having items shown distinct order limit offset names) rs part (λ e k. group_task filter_ keys aggs having items rs part k) h

-- what the tasks give

pub safe_merge : (kind : Combine) (q : Query) (rs : List (List Row)) (parts : List (List Row)) → (kind ≡ Nothing → length parts ≡ 1) → IsNonEmpty parts → length parts ≤ 2 ^ 31 →
    IsSafeOver q rs (joined parts) → AllByRecursion (λ part. has_large_over q rs part ≡ false) parts → CanMerge kind q rs (map (full_over (partial kind q) rs) parts)
safe_merge Nothing q rs parts only some few safe small = length_map (full_over q rs) parts ∙ only refl
safe_merge RowsOnly (Query' cs ctes ss subs from filter_ grouped keys aggs having items shown distinct order limit offset names) rs parts only some few safe small =
    let q : Query = Query' cs ctes ss subs from filter_ grouped keys aggs having items shown distinct order limit offset names in
    let f : List Row → List Row = full_over (partial RowsOnly q) rs in
    let wide : (p : List Row) (r : Row) → Has (f p) r → length r ≡ length items =
    λ p r h. distinct_width distinct (length items) (item_rows filter_ grouped keys aggs having items rs p) (itemed_width filter_ grouped keys aggs having items rs p) r (subst (λ us. Has us r) (task_items q rs p) h) in
    can_merge_rows q rs (map f parts) (rows_safe (length items) rs (joined (map f parts)) (λ r h. wide_parts (length items) f parts wide r (subst (λ us. Has us r) (flat_map_of_map (λ p. p) f parts) h)))
safe_merge Groups (Query' cs ctes ss subs from filter_ false keys aggs having items shown distinct order limit offset names) rs parts only some few safe small =
    let q : Query = Query' cs ctes ss subs from filter_ false keys aggs having items shown distinct order limit offset names in
    let f : List Row → List Row = full_over (partial Groups q) rs in
    let wide : (p : List Row) (r : Row) → Has (f p) r → length r ≡ length items =
    λ p r h. distinct_width true (length items) (item_rows filter_ false keys aggs having items rs p) (itemed_width filter_ false keys aggs having items rs p) r (subst (λ us. Has us r) (task_distinct q rs p refl) h) in
    can_merge_distinct q rs (map f parts) refl (rows_safe (length items) rs (joined (map f parts)) (λ r h. wide_parts (length items) f parts wide r (subst (λ us. Has us r) (flat_map_of_map (λ p. p) f parts) h)))
safe_merge Groups (Query' cs ctes ss subs from filter_ true keys aggs having items shown distinct order limit offset names) rs parts only some few safe small =
    let q : Query = Query' cs ctes ss subs from filter_ true keys aggs having items shown distinct order limit offset names in
    let f : List Row → List Row = full_over (partial Groups q) rs in
    let keep : List Row → List Row = filter (keeps filter_ rs) in
    let w : ℕ = length keys + (length aggs + 1) in
    let g : List Row → List Row = λ p. map (group_row (aggs ++ agg.CountAll ∷ []) rs) (groups_of keys rs p) in
    let wide : (p : List Row) (r : Row) → Has (g (keep p)) r → length r ≡ w = λ p r h. part_width rs aggs (agg.CountAll ∷ []) keys (keep p) r h ∙ ap (λ n. length keys + n) (length_push aggs agg.CountAll) in
    let ps : List (List Row) = map keep parts in
    let made : joined (map f parts) ≡ partial_rows rs keys aggs ps =
    flat_map_of_map (λ p. p) f parts ∙ (flat_map_same f (λ p. g (keep p)) parts (λ p h. task_groups q rs p refl ∙ whole_rows rs w (g (keep p)) (wide p)) ∙ sym (flat_map_of_map g keep parts)) in
    let all : keep (joined parts) ≡ joined ps = flat_map_filter (keeps filter_ rs) (λ p. p) parts ∙ sym (flat_map_of_map (λ p. p) keep parts) in
    let few_parts : length ps ≤ 2 ^ 31 = subst (λ n. n ≤ 2 ^ 31) (sym (length_map keep parts)) few in
    let each : (p : List Row) → Has ps p → list_any is_large_group (groups_of keys rs p) ≡ false =
    λ p h. (let u : (part : List Row) × Has parts part × (keep part ≡ p) = mapped_has keep parts p h in
    subst (λ us. list_any is_large_group (groups_of keys rs us) ≡ false) u.2 (at_has (λ part. has_large_over q rs part ≡ false) parts small u.0 u.1)) in
    let whole : list_any is_large_group (groups_of keys rs (joined ps)) ≡ false → AreSafeGroups aggs having items rs (groups_of keys rs (joined ps)) =
    subst (λ us. list_any is_large_group (groups_of keys rs us) ≡ false → AreSafeGroups aggs having items rs (groups_of keys rs us)) all safe.2 in
    can_merge_groups q rs (map f parts) refl
    (subst (λ us. AreSafeItems Always true (columns_from 0 (length keys)) (agg.Sum (Column (length keys + length aggs)) ∷ []) Always (Column (length keys) ∷ []) rs us) (sym made) (counts_safe rs keys aggs ps few_parts each))
    (λ none. subst (λ us. AreSafeItems Always true (columns_from 0 (length keys)) (all_combining (length keys) aggs) having items rs us) (sym made)
    (groups_safe rs keys aggs ps few_parts each having items (some_map keep parts some) whole
    (subst (λ us. list_any (is_large_together (length keys + length aggs) rs) (groups_of (columns_from 0 (length keys)) rs us) ≡ false) made none)))

-- Whether a group is too large doesn't depend on the order of rows in results.
use Rattle.std.proofs.Common.{◌≡◌, Bool, true, false, List, [], ◌∷◌, refl, sym, ap, subst, ◌∙◌, append-nil, inl, inr}
use Rattle.std.specs.Prelude.{◌||◌, filter, slice_set}
use Rattle.std.specs.List.{list_any}
use Rattle.cq_value.proofs.Truths.{or_right}
use Rattle.cq_tree.specs.declared.expression.Expr.{Expr}
use Rattle.cq_tree.specs.declared.plan.Combine.TheVariants.{Nothing}
use Rattle.cq_tree.specs.declared.query.FromTree.{FromTree, Table, Sub', Result, Cross', Inner', Left', more_of-FromTree, end_of-FromTree}
use Rattle.cq_tree.specs.declared.query.Query.{Query, Query', more_of-Query, end_of-Query}
use Rattle.cq_meaning.specs.Values.{Row, Results, Tables, table_rows}
use Rattle.cq_meaning.specs.Expressions.{keeps}
use Rattle.cq_meaning.specs.Groups.{groups_of, groups_by}
use Rattle.cq_meaning.specs.Queries.{from_rows}
use Rattle.cq_meaning.specs.Results.{results_of}
use Rattle.cq_meaning.specs.Limits.{is_large_group, is_large, is_large_from}
use Rattle.cq_meaning.proofs.Reorder.{Reordered, same, filtered}
use Rattle.cq_meaning_laws.specs.Settled.{IsSettledFrom, IsSettledBelow}
use Rattle.cq_meaning_laws.specs.WholeRules.{Step, steps_of, no_results, with_step, has_large_step}
use Rattle.cq_meaning_laws.proofs.ResultLaws.{SameResults, keeps_again, items_again}
use Rattle.cq_meaning_laws.proofs.SortLaws.{back}
use Rattle.cq_meaning_laws.proofs.OrderFree.{from_again}
use Rattle.cq_meaning_laws.proofs.WholeOrder.{Alike, alike_at}
use Rattle.cq_task_laws.specs.Gathering.{kept_of, has_large_over}
use Rattle.cq_task_laws.proofs.LargeLaws.{large_task}
use Rattle.cq_subplan_laws.specs.Subplans.{HasLarge}
use Rattle.cq_subplan_laws.specs.Laws.{SubplansLarge, StepsLarge}
use Rattle.cq_subplan_laws.proofs.Settling.{AreSettled, settled_steps, settled_below, below}
use Rattle.cq_subplan_laws.proofs.Orders.{alike_itself, one_more, results_alike}

or_both : (a b c d : Bool) → (a ≡ true → c ≡ true) → (b ≡ true → d ≡ true) → (a || b) ≡ true → (c || d) ≡ true
or_both true b c d f g e = ap (λ x. x || d) (f refl)
or_both false b c d f g e = or_right c d (g e)

-- over rows in another order
over_again : (q : Query) (rs : Results) (us vs : List Row) → Reordered us vs → has_large_over q rs us ≡ true → has_large_over q rs vs ≡ true
over_again q rs us vs r e = large_task Nothing q rs (us ∷ []) vs us (subst (λ ws. Reordered (kept_of q rs vs) ws) (sym (append-nil (kept_of q rs us))) (kept q)) (inl refl) e
  where
    kept : (q : Query) → Reordered (kept_of q rs vs) (kept_of q rs us)
    kept (Query' cs ctes ss subs from filter_ grouped keys aggs having items shown distinct order limit offset names) = filtered (keeps filter_ rs) (back r)

module _ (rs ss : Results) (again : SameResults rs ss) where
  groups_same : (keys : List Expr) → groups_of keys rs ≡ groups_of keys ss
  groups_same [] = refl
  groups_same (e ∷ es) = λ i rows. groups_by (items_again rs ss again (e ∷ es) i) rows

  over_same : (q : Query) (rows : List Row) → has_large_over q rs rows ≡ has_large_over q ss rows
  over_same (Query' cs ctes sc subs from filter_ false keys aggs having items shown distinct order limit offset names) rows = refl
  over_same (Query' cs ctes sc subs from filter_ true keys aggs having items shown distinct order limit offset names) rows =
      λ i. list_any is_large_group (groups_same keys i (filter (keeps_again rs ss again filter_ i) rows))

  module _ (db : Tables) where
    mutual
      large_from : (f : FromTree) → IsSettledFrom f → is_large_from f db rs ≡ true → is_large_from f db ss ≡ true
      large_from (Table t n) h e = e
      large_from (Sub' p (more_of-Query q end_of-Query)) h e = large_again q (below q h) e
      large_from (Result i n) h e = e
      large_from (Cross' p (more_of-FromTree a end_of-FromTree) q (more_of-FromTree b end_of-FromTree)) h e =
          or_both (is_large_from a db rs) (is_large_from b db rs) (is_large_from a db ss) (is_large_from b db ss) (large_from a h.0) (large_from b h.1) e
      large_from (Inner' p (more_of-FromTree a end_of-FromTree) q (more_of-FromTree b end_of-FromTree) on) h e =
          or_both (is_large_from a db rs) (is_large_from b db rs) (is_large_from a db ss) (is_large_from b db ss) (large_from a h.0) (large_from b h.1) e
      large_from (Left' p (more_of-FromTree a end_of-FromTree) q (more_of-FromTree b end_of-FromTree) on) h e =
          or_both (is_large_from a db rs) (is_large_from b db rs) (is_large_from a db ss) (is_large_from b db ss) (large_from a h.0) (large_from b h.1) e

      pub large_again : (q : Query) → IsSettledBelow q → is_large q db rs ≡ true → is_large q db ss ≡ true
      large_again (Query' cs ctes sc subs from filter_ grouped keys aggs having items shown distinct order limit offset names) h e =
          let q : Query = Query' cs ctes sc subs from filter_ grouped keys aggs having items shown distinct order limit offset names in
          or_both (is_large_from from db rs) (has_large_over q rs (from_rows from 0 db rs)) (is_large_from from db ss) (has_large_over q ss (from_rows from 0 db ss)) (large_from from h)
          (λ t. sym (over_same q (from_rows from 0 db ss)) ∙ over_again q rs (from_rows from 0 db rs) (from_rows from 0 db ss) (from_again db db rs ss (λ t. same (table_rows db t)) again 0 from h) t) e

-- ---- steps

module _ (db : Tables) where
  steps_again : (rs ss : Results) (steps : List Step) → AreSettled steps → Alike rs ss → HasLarge db rs steps → has_large_step db ss steps ≡ true
  steps_again rs ss [] h a w = absurd w
  steps_again rs ss (s ∷ more) h a (inl e) = ap (λ b. b || has_large_step db (with_step db ss s) more) (large_again rs ss (alike_at rs ss a) db s.query (below s.query h.0) e)
  steps_again rs ss (s ∷ more) h a (inr w) =
      or_right (is_large s.query db ss) (has_large_step db (with_step db ss s) more)
      (steps_again (slice_set rs s.number w.0) (with_step db ss s) more h.1 (one_more db rs ss s w.0 h.0 a w.1) w.2)

pub steps_large : StepsLarge
steps_large q db h w = steps_again db (no_results q) (no_results q) (steps_of q) (settled_steps q h) (alike_itself (no_results q)) w

pub subplans_large : SubplansLarge
subplans_large q db results h w e = large_again results (results_of q db) (alike_at results (results_of q db) (results_alike db q results h w)) db q (settled_below q h) e

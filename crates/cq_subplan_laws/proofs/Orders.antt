-- Answers of a query that is settled differ in the order of rows alone, and so do the results of subplans.
use Rattle.std.proofs.Common.{◌≡◌, ℕ, zero, suc, Bool, List, [], ◌∷◌, length, sym, ap, subst, ◌∙◌, refl}
use Rattle.std.specs.Prelude.{slice_set}
use Rattle.std.specs.Ordering.{is_lt}
use Rattle.cq_tree.specs.declared.query.Query.{Query, Query'}
use Rattle.cq_meaning.specs.Lists.{Has}
use Rattle.cq_meaning.specs.Values.{Row, Results, Tables, table_rows}
use Rattle.cq_meaning.specs.Groups.{distinct_if}
use Rattle.cq_meaning.specs.Sorting.{cut, sorted, keys_cmp}
use Rattle.cq_meaning.specs.Queries.{item_rows, from_rows, meaning, AnswersWith}
use Rattle.cq_meaning.specs.Results.{results_of}
use Rattle.cq_meaning.proofs.KeyLaws.{keys_weak}
use Rattle.cq_meaning.proofs.StableSort.{sort_is}
use Rattle.cq_meaning.proofs.Reorder.{Reordered, then, same}
use Rattle.cq_meaning.proofs.RowLaws.{has_again}
use Rattle.cq_meaning_laws.specs.Settled.{IsSettled, AllSettled}
use Rattle.cq_meaning_laws.specs.WholeRules.{Step, steps_of, no_results, with_step, with_steps}
use Rattle.cq_meaning_laws.proofs.Permuted.{reordered}
use Rattle.cq_meaning_laws.proofs.SortLaws.{back}
use Rattle.cq_meaning_laws.proofs.OrderFree.{itemed_width, distinct_width, cut_again, mean_again, answers_again}
use Rattle.cq_meaning_laws.proofs.WholeLaws.{results_in_steps}
use Rattle.cq_meaning_laws.proofs.WholeOrder.{Alike, alike_at}
use Rattle.cq_subplan_laws.specs.Subplans.{AreAnswered}
use Rattle.cq_subplan_laws.specs.Laws.{SubplansAnswer}
use Rattle.cq_subplan_laws.proofs.Settling.{AreSettled, settled_steps, settled_below}

-- an answer has the rows of the meaning
pub answered : (q : Query) (db : Tables) (rs : Results) (rows : List Row) → IsSettled q → AnswersWith q db rs rows → Reordered rows (meaning q db rs)
answered (Query' cs ctes ss subs from filter_ grouped keys aggs having items shown distinct order limit offset names) db rs rows h a =
    let lt : Row → Row → Bool = λ x y. is_lt (keys_cmp order x y) in
    let made : List Row = item_rows filter_ grouped keys aggs having items rs (from_rows from 0 db rs) in
    let full : List Row = distinct_if distinct made in
    let again : Reordered a.0 full = back (reordered full a.0 a.1) in
    let in_order : a.0 ≡ sorted (keys_cmp order) a.0 = sort_is lt (keys_weak order) a.0 a.0 a.2 (λ x. refl) in
    let wide : (x : Row) → Has a.0 x → length x ≡ length items =
    λ x k. distinct_width distinct (length items) made (itemed_width filter_ grouped keys aggs having items rs (from_rows from 0 db rs)) x (has_again again x k) in
    subst (λ us. Reordered us (cut shown limit offset (sorted (keys_cmp order) full))) (sym (a.3 ∙ ap (λ us. cut shown limit offset us) in_order))
    (cut_again order shown limit offset h.0 (length items) again wide)

-- ---- results

pub alike_set : (us vs : Results) (k : ℕ) (u v : List Row) → Alike us vs → Reordered u v → Alike (slice_set us k u) (slice_set vs k v)
alike_set [] [] k u v h r = tt
alike_set [] (b ∷ vs) k u v h r = absurd h
alike_set (a ∷ us) [] k u v h r = absurd h
alike_set (a ∷ us) (b ∷ vs) zero u v h r = (r, h.1)
alike_set (a ∷ us) (b ∷ vs) (suc k) u v h r = (h.0, alike_set us vs k u v h.1 r)

pub alike_itself : (us : Results) → Alike us us
alike_itself [] = tt
alike_itself (u ∷ us) = (same u, alike_itself us)

module _ (db : Tables) where
  -- after one more step
  pub one_more : (rs ss : Results) (s : Step) (rows : List Row) → IsSettled s.query → Alike rs ss → AnswersWith s.query db rs rows → Alike (slice_set rs s.number rows) (with_step db ss s)
  one_more rs ss s rows h a w =
      alike_set rs ss s.number rows (meaning s.query db ss) a
      (then (answered s.query db rs rows h w) (mean_again db db rs ss (λ t. same (table_rows db t)) (alike_at rs ss a) s.query h))

  after : (rs ss : Results) (steps : List Step) → AreSettled steps → Alike rs ss → (all : Results) → AreAnswered db rs steps all → Alike all (with_steps db ss steps)
  after rs ss [] h a all e = subst (λ us. Alike us ss) (sym e) a
  after rs ss (s ∷ more) h a all w = after (slice_set rs s.number w.0) (with_step db ss s) more h.1 (one_more rs ss s w.0 h.0 a w.1) all w.2

  -- the results of a statement's subplans are those of its meaning, in some order
  pub results_alike : (q : Query) (results : Results) → AllSettled q → AreAnswered db (no_results q) (steps_of q) results → Alike results (results_of q db)
  results_alike q results h w =
      subst (Alike results) (sym (results_in_steps db q)) (after (no_results q) (no_results q) (steps_of q) (settled_steps q h) (alike_itself (no_results q)) results w)

pub subplans_answer : SubplansAnswer
subplans_answer q db results rows h w a =
    answers_again db db (results_of q db) results (λ t. same (table_rows db t)) (λ i. back (alike_at results (results_of q db) (results_alike db q results h w) i)) q (settled_below q h) rows a

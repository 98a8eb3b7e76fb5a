-- A whole statement depends on the rows of its tables alone.
use Rattle.std.proofs.Common.{◌≡◌, ◌+◌, ℕ, List, [], ◌∷◌, ◌++◌, filter, refl, sym, ◌∙◌, ap, subst}
use Rattle.std.specs.Prelude.{◌||◌, slice_set}
use Rattle.std.specs.List.{AllByRecursion}
use Rattle.std.specs.List.Sorted.{IsPermutation}
use Rattle.cq_tree.specs.declared.query.FromTree.{FromTree, Table, Sub', Result, Cross', Inner', Left', end_of-FromTree, more_of-FromTree}
use Rattle.cq_tree.specs.declared.query.Query.{Query, Query', end_of-Query, more_of-Query}
use Rattle.cq_meaning.specs.Values.{Row, Tables, Results, table_rows}
use Rattle.cq_meaning.specs.Joins.{product, left_join}
use Rattle.cq_meaning.specs.Groups.{distinct_if}
use Rattle.cq_meaning.specs.Sorting.{keys_cmp, sorted, cut}
use Rattle.cq_meaning.specs.Queries.{columns_in, joins, item_rows, from_rows, meaning, AnswersWith}
use Rattle.cq_meaning.specs.Limits.{has_large_group, is_large, is_large_from}
use Rattle.cq_meaning.specs.Results.{results_of, Answers}
use Rattle.cq_meaning_laws.specs.WholeRules.{Step, steps_of, no_results, with_step, with_steps, has_large_step}
use Rattle.cq_meaning_laws.proofs.WholeLaws.{results_in_steps}
use Rattle.cq_whole.specs.Tables.{tables_from, tables_in, tables_of_steps, tables_of_statement}
use Rattle.cq_whole.specs.Laws.{TablesSuffice}

-- these tables have the same rows in both
abbrev Agree : List ℕ → Tables → Tables → Type 0
Agree tables db dc = AllByRecursion (λ t. table_rows db t ≡ table_rows dc t) tables

agree_left : (xs ys : List ℕ) (db dc : Tables) → Agree (xs ++ ys) db dc → Agree xs db dc
agree_left [] ys db dc a = tt
agree_left (x ∷ xs) ys db dc a = (a.0, agree_left xs ys db dc a.1)

agree_right : (xs ys : List ℕ) (db dc : Tables) → Agree (xs ++ ys) db dc → Agree ys db dc
agree_right [] ys db dc a = a
agree_right (x ∷ xs) ys db dc a = agree_right xs ys db dc a.1

module _ (db dc : Tables) where
  -- ---- one query, over some results

  module _ (rs : Results) where
    mutual
      rows_alike : (f : FromTree) (start : ℕ) → Agree (tables_from f) db dc → from_rows f start db rs ≡ from_rows f start dc rs
      rows_alike (Table t n) start h = h.0
      rows_alike (Sub' p (more_of-Query q end_of-Query)) start h = meaning_alike q h
      rows_alike (Result i n) start h = refl
      rows_alike (Cross' p (more_of-FromTree a end_of-FromTree) q (more_of-FromTree b end_of-FromTree)) start h =
          λ i. product (rows_alike a start (agree_left (tables_from a) (tables_from b) db dc h) i) (rows_alike b (start + columns_in a) (agree_right (tables_from a) (tables_from b) db dc h) i)
      rows_alike (Inner' p (more_of-FromTree a end_of-FromTree) q (more_of-FromTree b end_of-FromTree) on) start h =
          λ i. filter (joins on rs start) (product (rows_alike a start (agree_left (tables_from a) (tables_from b) db dc h) i) (rows_alike b (start + columns_in a) (agree_right (tables_from a) (tables_from b) db dc h) i))
      rows_alike (Left' p (more_of-FromTree a end_of-FromTree) q (more_of-FromTree b end_of-FromTree) on) start h =
          λ i. left_join (joins on rs start) (columns_in b) (rows_alike a start (agree_left (tables_from a) (tables_from b) db dc h) i) (rows_alike b (start + columns_in a) (agree_right (tables_from a) (tables_from b) db dc h) i)

      pub meaning_alike : (q : Query) → Agree (tables_in q) db dc → meaning q db rs ≡ meaning q dc rs
      meaning_alike (Query' cs ctes ss subs from filter_ grouped keys aggs having items shown distinct order limit offset names) h =
          λ i. cut shown limit offset (sorted (keys_cmp order) (distinct_if distinct (item_rows filter_ grouped keys aggs having items rs (rows_alike from 0 h i))))

    pub answers_alike : (q : Query) (rows : List Row) → Agree (tables_in q) db dc → AnswersWith q dc rs rows → AnswersWith q db rs rows
    answers_alike (Query' cs ctes ss subs from filter_ grouped keys aggs having items shown distinct order limit offset names) rows h a = (
      a.0,
      subst (λ (v : List Row). IsPermutation (distinct_if distinct (item_rows filter_ grouped keys aggs having items rs v)) a.0) (sym (rows_alike from 0 h)) a.1,
      a.2,
      a.3,
    )

    mutual
      large_from_alike : (f : FromTree) → Agree (tables_from f) db dc → is_large_from f db rs ≡ is_large_from f dc rs
      large_from_alike (Table t n) h = refl
      large_from_alike (Sub' p (more_of-Query q end_of-Query)) h = large_alike q h
      large_from_alike (Result i n) h = refl
      large_from_alike (Cross' p (more_of-FromTree a end_of-FromTree) q (more_of-FromTree b end_of-FromTree)) h =
          λ i. large_from_alike a (agree_left (tables_from a) (tables_from b) db dc h) i || large_from_alike b (agree_right (tables_from a) (tables_from b) db dc h) i
      large_from_alike (Inner' p (more_of-FromTree a end_of-FromTree) q (more_of-FromTree b end_of-FromTree) on) h =
          λ i. large_from_alike a (agree_left (tables_from a) (tables_from b) db dc h) i || large_from_alike b (agree_right (tables_from a) (tables_from b) db dc h) i
      large_from_alike (Left' p (more_of-FromTree a end_of-FromTree) q (more_of-FromTree b end_of-FromTree) on) h =
          λ i. large_from_alike a (agree_left (tables_from a) (tables_from b) db dc h) i || large_from_alike b (agree_right (tables_from a) (tables_from b) db dc h) i

      pub large_alike : (q : Query) → Agree (tables_in q) db dc → is_large q db rs ≡ is_large q dc rs
      large_alike (Query' cs ctes ss subs from filter_ grouped keys aggs having items shown distinct order limit offset names) h =
          λ i. large_from_alike from h i || has_large_group filter_ grouped keys rs (rows_alike from 0 h i)

  -- ---- steps

  step_alike : (rs : Results) (s : Step) → Agree (tables_in s.query) db dc → with_step db rs s ≡ with_step dc rs s
  step_alike rs s h = ap (λ (rows : List Row). slice_set rs s.number rows) (meaning_alike rs s.query h)

  pub steps_alike : (rs : Results) (steps : List Step) → Agree (tables_of_steps steps) db dc → with_steps db rs steps ≡ with_steps dc rs steps
  steps_alike rs [] h = refl
  steps_alike rs (s ∷ more) h =
      let here : Agree (tables_in s.query) db dc = agree_left (tables_in s.query) (tables_of_steps more) db dc h in
      let next : Agree (tables_of_steps more) db dc = agree_right (tables_in s.query) (tables_of_steps more) db dc h in
      steps_alike (with_step db rs s) more next ∙ ap (λ (us : Results). with_steps dc us more) (step_alike rs s here)

  pub large_steps_alike : (rs : Results) (steps : List Step) → Agree (tables_of_steps steps) db dc → has_large_step db rs steps ≡ has_large_step dc rs steps
  large_steps_alike rs [] h = refl
  large_steps_alike rs (s ∷ more) h =
      let here : Agree (tables_in s.query) db dc = agree_left (tables_in s.query) (tables_of_steps more) db dc h in
      let next : Agree (tables_of_steps more) db dc = agree_right (tables_in s.query) (tables_of_steps more) db dc h in
      let rest : has_large_step db (with_step db rs s) more ≡ has_large_step dc (with_step dc rs s) more =
      large_steps_alike (with_step db rs s) more next ∙ ap (λ (us : Results). has_large_step dc us more) (step_alike rs s here) in
      λ i. large_alike rs s.query here i || rest i

  -- ---- a whole statement

  results_alike : (q : Query) → Agree (tables_of_statement q) db dc → results_of q db ≡ results_of q dc
  results_alike q h =
      results_in_steps db q
      ∙ (steps_alike (no_results q) (steps_of q) (agree_left (tables_of_steps (steps_of q)) (tables_in q) db dc h) ∙ sym (results_in_steps dc q))

  statement_answers : (q : Query) (rows : List Row) → Agree (tables_of_statement q) db dc → Answers q dc rows → Answers q db rows
  statement_answers q rows h a =
      subst (λ (rs : Results). AnswersWith q db rs rows) (sym (results_alike q h))
      (answers_alike (results_of q dc) q rows (agree_right (tables_of_steps (steps_of q)) (tables_in q) db dc h) a)

  statement_large : (q : Query) → Agree (tables_of_statement q) db dc → is_large q db (results_of q db) ≡ is_large q dc (results_of q dc)
  statement_large q h =
      ap (is_large q db) (results_alike q h) ∙ large_alike (results_of q dc) q (agree_right (tables_of_steps (steps_of q)) (tables_in q) db dc h)

pub tables_suffice : TablesSuffice
tables_suffice q db dc h = (
  results_alike db dc q h,
  λ rows a. statement_answers db dc q rows h a,
  λ l. large_steps_alike db dc (no_results q) (steps_of q) (agree_left (tables_of_steps (steps_of q)) (tables_in q) db dc h) ∙ l,
  λ l. statement_large db dc q h ∙ l,
)

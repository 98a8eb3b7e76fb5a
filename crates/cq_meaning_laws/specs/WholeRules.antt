-- A whole statement: the steps by which its results are computed, what the binder lets through, and what that makes sure of.
use Rattle.std.specs.Prelude.{◌≡◌, ℕ, ◌+◌, List, [], ◌∷◌, ◌++◌, length, replicate, slice_set, slice_index_or, Bool, false, ◌||◌, ⊤}
use Rattle.std.specs.List.{AllByRecursion, flat_map}
use Rattle.cq_tree.specs.declared.query.FromTree.{FromTree, Table, Sub', Result, Cross', Inner', Left', more_of-FromTree, end_of-FromTree}
use Rattle.cq_tree.specs.declared.query.Query.{Query, Query', Row_of-Query, end_of-Query, more_of-Query}
use Rattle.cq_meaning.specs.declared.Columns.{Columns}
use Rattle.cq_meaning.specs.Values.{Results, Tables, table_rows}
use Rattle.cq_meaning.specs.Queries.{from_rows, meaning}
use Rattle.cq_meaning.specs.Limits.{is_large, is_large_from}
use Rattle.cq_meaning.specs.Results.{ins_in, ins_in_from, ins_in_ctes, count_of, results_of, mean}
use Rattle.cq_meaning.specs.Safety.{AreSafeItems, IsSafeQuery}
use Rattle.cq_meaning.specs.Widths.{table_bits, output_bits, IsBoundQuery, AllWithin, Holds}

-- a CTE or an IN subquery, with the number of its result
pub record Step : Type 0 where
  pub number : ℕ
  pub query : Query

abbrev mutual
  -- the IN subqueries of a query, of which the first has the number k, each behind those in it
  pub steps_in : ℕ → Query → List Step
  steps_in k (Query' cs ctes ss subs from filter_ grouped keys aggs having items shown distinct order limit offset names) =
      steps_in_from k from ++ steps_in_all (k + ins_in_from from) subs

  pub steps_in_from : ℕ → FromTree → List Step
  steps_in_from k (Table t n) = []
  steps_in_from k (Sub' p (more_of-Query q end_of-Query)) = steps_in k q
  steps_in_from k (Result i n) = []
  steps_in_from k (Cross' p (more_of-FromTree a end_of-FromTree) q (more_of-FromTree b end_of-FromTree)) = steps_in_from k a ++ steps_in_from (k + ins_in_from a) b
  steps_in_from k (Inner' p (more_of-FromTree a end_of-FromTree) q (more_of-FromTree b end_of-FromTree) on) = steps_in_from k a ++ steps_in_from (k + ins_in_from a) b
  steps_in_from k (Left' p (more_of-FromTree a end_of-FromTree) q (more_of-FromTree b end_of-FromTree) on) = steps_in_from k a ++ steps_in_from (k + ins_in_from a) b

  pub steps_in_all : ℕ → {n : _} → Row_of-Query n → List Step
  steps_in_all k end_of-Query = []
  steps_in_all k (more_of-Query q more) = steps_in (k + 1) q ++ (record { number = k; query = q } ∷ steps_in_all (k + 1 + ins_in q) more)

-- the CTEs from number i on, each behind the IN subqueries in it, of which the first has the number k
abbrev pub steps_in_ctes : ℕ → ℕ → {n : _} → Row_of-Query n → List Step
steps_in_ctes i k end_of-Query = []
steps_in_ctes i k (more_of-Query q more) = steps_in k q ++ (record { number = i; query = q } ∷ steps_in_ctes (i + 1) (k + ins_in q) more)

-- all CTEs and IN subqueries of a statement, in the order in which they are computed
abbrev pub steps_of : Query → List Step
steps_of (Query' cs ctes ss subs from filter_ grouped keys aggs having items shown distinct order limit offset names) =
    let n = count_of ctes in
    let m = n + ins_in_ctes ctes in
    steps_in_ctes 0 n ctes ++ (steps_in_from m from ++ steps_in_all (m + ins_in_from from) subs)

-- the results before the first step: no rows in any
abbrev pub no_results : Query → Results
no_results q = replicate (length (steps_of q)) []

-- the results with that of a step, computed over them
abbrev pub with_step : Tables → Results → Step → Results
with_step db results s = slice_set results s.number (meaning s.query db results)

-- the results with those of steps, each computed over the results before it
abbrev pub with_steps : Tables → Results → List Step → Results
with_steps db results [] = results
with_steps db results (s ∷ more) = with_steps db (with_step db results s) more

-- whether one of the steps, each computed over the results before it, has a group that is too large
abbrev pub has_large_step : Tables → Results → List Step → Bool
has_large_step db results [] = false
has_large_step db results (s ∷ more) = is_large s.query db results || has_large_step db (with_step db results s) more

-- each step is safe over the results before it, unless an earlier one has a group that is too large
abbrev pub AreSafeSteps : Tables → Results → List Step → Type 0
AreSafeSteps db results [] = ⊤
AreSafeSteps db results (s ∷ more) = IsSafeQuery s.query db results × (is_large s.query db results ≡ false → AreSafeSteps db (with_step db results s) more)

-- the binder lets the query of a step through, and gives its result the widths of its outputs
abbrev pub IsBoundStep : Columns → Step → Type 0
IsBoundStep cs s = IsBoundQuery cs s.query × (slice_index_or cs.results s.number [] ≡ output_bits cs s.query)

-- the binder lets a statement's query and all its steps through, and gives widths to no other results
abbrev pub IsBoundStatement : Columns → Query → Type 0
IsBoundStatement cs q = IsBoundQuery cs q × AllByRecursion (IsBoundStep cs) (steps_of q) × (length cs.results ≡ length (steps_of q))

-- what follows FROM is safe over the rows of the FROMs of several databases, put together, where each database is such, and no subquery of the FROM has a
-- group that is too large over one
abbrev pub IsSafeTogether : (Tables → Type 0) → Query → Results → List Tables → Type 0
IsSafeTogether P (Query' cs ctes ss subs from filter_ grouped keys aggs having items shown distinct order limit offset names) results dbs =
    AllByRecursion (λ db. P db × (is_large_from from db results ≡ false)) dbs → AreSafeItems filter_ grouped keys aggs having items results (flat_map (λ db. from_rows from 0 db results) dbs)

-- the rows of tables are within their columns' widths
abbrev pub AreTablesWithin : Columns → Tables → Type 0
AreTablesWithin cs db = (t : ℕ) → AllWithin (table_bits cs.tables t) (table_rows db t)

-- the results of a statement are those of its steps, in their order
abbrev pub ResultsInSteps : Type 0
ResultsInSteps = (db : Tables) (q : Query) → results_of q db ≡ with_steps db (no_results q) (steps_of q)

-- the results of a statement are within their widths, its query is safe over them, and unless the query has a group that is too large,
-- its rows are within the widths of its outputs
abbrev pub FitsWhole : Columns → Tables → Query → Type 0
FitsWhole cs db q = Holds cs db (results_of q db) × IsSafeQuery q db (results_of q db) × (is_large q db (results_of q db) ≡ false → AllWithin (output_bits cs q) (mean q db))

-- a statement that the binder lets through, over tables within their widths: its steps are safe, and it fits whole unless a step has
-- a group that is too large
abbrev pub StatementsFit : Type 0
StatementsFit = (cs : Columns) (db : Tables) (q : Query) → AreTablesWithin cs db → IsBoundStatement cs q →
    AreSafeSteps db (no_results q) (steps_of q) × (has_large_step db (no_results q) (steps_of q) ≡ false → FitsWhole cs db q)

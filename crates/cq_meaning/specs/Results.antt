-- The results of the CTEs and of the IN subqueries of a statement's query, by their numbers.
use Rattle.std.specs.Prelude.{ℕ, ◌+◌, List, [], replicate, slice_set}
use Rattle.cq_tree.specs.declared.query.FromTree.{FromTree, Table, Sub', Result, Cross', Inner', Left', more_of-FromTree, end_of-FromTree}
use Rattle.cq_tree.specs.declared.query.Query.{Query, Query', Row_of-Query, end_of-Query, more_of-Query}
use Rattle.cq_meaning.specs.Values.{Row, Results, Tables}
use Rattle.cq_meaning.specs.Queries.{meaning, AnswersWith}

-- how many IN subqueries stand in a query
abbrev mutual
  pub ins_in : Query → ℕ
  ins_in (Query' cs ctes ss subs from filter_ grouped keys aggs having items shown distinct order limit offset names) = ins_in_from from + ins_in_all subs

  pub ins_in_from : FromTree → ℕ
  ins_in_from (Table t n) = 0
  ins_in_from (Sub' p (more_of-Query q end_of-Query)) = ins_in q
  ins_in_from (Result i n) = 0
  ins_in_from (Cross' p (more_of-FromTree a end_of-FromTree) q (more_of-FromTree b end_of-FromTree)) = ins_in_from a + ins_in_from b
  ins_in_from (Inner' p (more_of-FromTree a end_of-FromTree) q (more_of-FromTree b end_of-FromTree) on) = ins_in_from a + ins_in_from b
  ins_in_from (Left' p (more_of-FromTree a end_of-FromTree) q (more_of-FromTree b end_of-FromTree) on) = ins_in_from a + ins_in_from b

  -- each of these and what stands in it
  pub ins_in_all : {n : _} → Row_of-Query n → ℕ
  ins_in_all end_of-Query = 0
  ins_in_all (more_of-Query q more) = 1 + ins_in q + ins_in_all more

-- with the results of the IN subqueries of a query, of which the first has the number k
abbrev mutual
  pub with_ins : Query → Tables → ℕ → Results → Results
  with_ins (Query' cs ctes ss subs from filter_ grouped keys aggs having items shown distinct order limit offset names) db k rs =
      with_ins_all subs db (k + ins_in_from from) (with_ins_from from db k rs)

  pub with_ins_from : FromTree → Tables → ℕ → Results → Results
  with_ins_from (Table t n) db k rs = rs
  with_ins_from (Sub' p (more_of-Query q end_of-Query)) db k rs = with_ins q db k rs
  with_ins_from (Result i n) db k rs = rs
  with_ins_from (Cross' p (more_of-FromTree a end_of-FromTree) q (more_of-FromTree b end_of-FromTree)) db k rs = with_ins_from b db (k + ins_in_from a) (with_ins_from a db k rs)
  with_ins_from (Inner' p (more_of-FromTree a end_of-FromTree) q (more_of-FromTree b end_of-FromTree) on) db k rs = with_ins_from b db (k + ins_in_from a) (with_ins_from a db k rs)
  with_ins_from (Left' p (more_of-FromTree a end_of-FromTree) q (more_of-FromTree b end_of-FromTree) on) db k rs = with_ins_from b db (k + ins_in_from a) (with_ins_from a db k rs)

  pub with_ins_all : {n : _} → Row_of-Query n → Tables → ℕ → Results → Results
  with_ins_all end_of-Query db k rs = rs
  with_ins_all (more_of-Query q more) db k rs =
      let inner = with_ins q db (k + 1) rs in
      with_ins_all more db (k + 1 + ins_in q) (slice_set inner k (meaning q db inner))

-- the CTEs in order, each with the IN subqueries in it before it
abbrev pub with_ctes : {n : _} → Row_of-Query n → Tables → ℕ → ℕ → Results → Results
with_ctes end_of-Query db i k rs = rs
with_ctes (more_of-Query q more) db i k rs =
    let inner = with_ins q db k rs in
    with_ctes more db (i + 1) (k + ins_in q) (slice_set inner i (meaning q db inner))

abbrev pub count_of : {n : _} → Row_of-Query n → ℕ
count_of end_of-Query = 0
count_of (more_of-Query q more) = 1 + count_of more

abbrev pub ins_in_ctes : {n : _} → Row_of-Query n → ℕ
ins_in_ctes end_of-Query = 0
ins_in_ctes (more_of-Query q more) = ins_in q + ins_in_ctes more

-- all of them
abbrev pub results_of : Query → Tables → Results
results_of (Query' cs ctes ss subs from filter_ grouped keys aggs having items shown distinct order limit offset names) db =
    let n = count_of ctes in
    let m = n + ins_in_ctes ctes in
    let rs = with_ctes ctes db 0 n (replicate (m + ins_in_from from + ins_in_all subs) []) in
    with_ins_all subs db (m + ins_in_from from) (with_ins_from from db m rs)

-- what a statement's query means
abbrev pub mean : Query → Tables → List Row
mean q db = meaning q db (results_of q db)

abbrev pub Answers : Query → Tables → List Row → Type 0
Answers q db rows = AnswersWith q db (results_of q db) rows

-- The occurrences of tables in a statement's query: one base table in one FROM each, with the values that its distribution column can have.
use Rattle.std.specs.Prelude.{ℕ, ◌+◌, List, [], ◌∷◌, ◌++◌, None}
use Rattle.std.specs.List.{flat_map}
use Rattle.cq_value.specs.declared.value.Value.{Value}
use Rattle.cq_tree.specs.declared.query.FromTree.{FromTree, Table, Sub', Result, Cross', Inner', Left', end_of-FromTree, more_of-FromTree}
use Rattle.cq_tree.specs.declared.query.Query.{Query, Query', Row_of-Query, end_of-Query, more_of-Query}
use Rattle.cq_meaning.specs.Queries.{columns_in}
use Rattle.cq_catalog.specs.Contents.{Contents}
use Rattle.cq_catalog.specs.Placement.{place_at}
use Rattle.cq_catalog.specs.declared.info.Place.{Place}
use Rattle.cq_catalog.specs.declared.info.Place.TheVariants.{Distributed}
use Rattle.cq_planning.specs.Conjuncts.{conjuncts_of}
use Rattle.cq_planning.specs.ValueSets.{ValueSet, value_set}
use Rattle.cq_planning.specs.Pushable.{pushable}
use Rattle.cq_planning.specs.Narrowing.{distribution_in, right_sets, sets_in, given_to}

-- a table, and the value set of its distribution column
pub record Occurrence : Type 0 where
  pub table : ℕ
  pub values : ValueSet

-- the set of the distribution column of a table whose first column has the number `start`; all values where the table isn't distributed
abbrev pub key_values : (ℕ → ValueSet) → ℕ → Place → ValueSet
key_values sets start (Distributed at colocation first_shard) = sets (start + at)
key_values sets start _ = None

-- the occurrence of a table whose first column has the number `start`
abbrev pub occurrence_of : Contents → (ℕ → ValueSet) → ℕ → ℕ → Occurrence
occurrence_of c sets start table = record { table = table; values = key_values sets start (place_at c table) }

abbrev mutual
  -- those of a FROM whose first column has the number `start`, from left to right, with those of its subqueries in their places
  pub occurrences_from : Contents → (ℕ → ValueSet) → FromTree → ℕ → List Occurrence
  occurrences_from c sets (Table t n) start = occurrence_of c sets start t ∷ []
  occurrences_from c sets (Sub' p (more_of-Query q end_of-Query)) start = occurrences_in c q (given_to sets start (pushable c q))
  occurrences_from c sets (Result i n) start = []
  occurrences_from c sets (Cross' p (more_of-FromTree a end_of-FromTree) q (more_of-FromTree b end_of-FromTree)) start =
      occurrences_from c sets a start ++ occurrences_from c sets b (start + columns_in a)
  occurrences_from c sets (Inner' p (more_of-FromTree a end_of-FromTree) q (more_of-FromTree b end_of-FromTree) on) start =
      occurrences_from c sets a start ++ occurrences_from c sets b (start + columns_in a)
  occurrences_from c sets (Left' p (more_of-FromTree a end_of-FromTree) q (more_of-FromTree b end_of-FromTree) on) start =
      occurrences_from c sets a start
      ++ occurrences_from c (right_sets sets (sets_in c sets a start) (distribution_in c b (start + columns_in a)) start (start + columns_in a) on) b (start + columns_in a)

  -- those of a query, without its CTEs and IN subqueries, where these sets are given from outside
  pub occurrences_in : Contents → Query → List (ℕ × List Value) → List Occurrence
  occurrences_in c (Query' cs ctes ss subs from filter_ grouped keys aggs having items shown distinct order limit offset names) outer =
      occurrences_from c (value_set outer (conjuncts_of filter_ from)) from 0

-- ---- whole statements

abbrev mutual
  -- the IN subqueries in a query, in the order of the text: each before those in it
  pub ins_of : Query → List Query
  ins_of (Query' cs ctes ss subs from filter_ grouped keys aggs having items shown distinct order limit offset names) = ins_of_from from ++ ins_of_all subs

  -- those in the subqueries of a FROM
  pub ins_of_from : FromTree → List Query
  ins_of_from (Table t n) = []
  ins_of_from (Sub' p (more_of-Query q end_of-Query)) = ins_of q
  ins_of_from (Result i n) = []
  ins_of_from (Cross' p (more_of-FromTree a end_of-FromTree) q (more_of-FromTree b end_of-FromTree)) = ins_of_from a ++ ins_of_from b
  ins_of_from (Inner' p (more_of-FromTree a end_of-FromTree) q (more_of-FromTree b end_of-FromTree) on) = ins_of_from a ++ ins_of_from b
  ins_of_from (Left' p (more_of-FromTree a end_of-FromTree) q (more_of-FromTree b end_of-FromTree) on) = ins_of_from a ++ ins_of_from b

  -- these queries, each with those in it
  pub ins_of_all : {n : _} → Row_of-Query n → List Query
  ins_of_all end_of-Query = []
  ins_of_all (more_of-Query q more) = (q ∷ ins_of q) ++ ins_of_all more

-- a query, and the IN subqueries in it
abbrev pub with_ins : Query → List Query
with_ins q = q ∷ ins_of q

-- each of these queries, and the IN subqueries in it
abbrev pub all_with_ins : {n : _} → Row_of-Query n → List Query
all_with_ins end_of-Query = []
all_with_ins (more_of-Query q more) = with_ins q ++ all_with_ins more

-- the queries of a statement that are planned by themselves: the CTEs, each with the IN subqueries in it, the query itself, and its IN
-- subqueries
abbrev pub blocks_of : Query → List Query
blocks_of (Query' cs ctes ss subs from filter_ grouped keys aggs having items shown distinct order limit offset names) =
    all_with_ins ctes ++ with_ins (Query' cs ctes ss subs from filter_ grouped keys aggs having items shown distinct order limit offset names)

-- the occurrences of a whole statement
abbrev pub occurrences_of : Contents → Query → List Occurrence
occurrences_of c q = flat_map (λ block. occurrences_in c block []) (blocks_of q)

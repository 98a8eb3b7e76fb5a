-- Queries in which a FROM subquery that is given a set groups only what grows with its tables. Otherwise a group can be larger over the
-- touched groups than over the whole: a row of a LEFT JOIN may find no partner there, where its right side stands in other groups than the
-- left side and is narrowed, and rows without a partner make one group.
use Rattle.std.specs.Prelude.{◌≡◌, ◌+◌, ◌⊎◌, ⊤, false, ℕ, [], None}
use Rattle.cq_tree.specs.declared.query.FromTree.{FromTree, Table, Sub', Result, Cross', Inner', Left', end_of-FromTree, more_of-FromTree, end_of-Query, more_of-Query}
use Rattle.cq_tree.specs.declared.query.Query.{Query, Query'}
use Rattle.cq_meaning.specs.Queries.{columns_in}
use Rattle.cq_catalog.specs.Contents.{Contents}
use Rattle.cq_planning.specs.Conjuncts.{conjuncts_of}
use Rattle.cq_planning.specs.ValueSets.{ValueSet, value_set}
use Rattle.cq_planning.specs.Pushable.{pushable}
use Rattle.cq_planning.specs.Narrowing.{distribution_in, right_sets, sets_in, given_to}

abbrev mutual
  -- no LEFT JOIN: tables, results, such subqueries, and inner joins of them
  pub IsSteadyFrom : FromTree → Type 0
  IsSteadyFrom (Table t n) = ⊤
  IsSteadyFrom (Sub' p (more_of-Query q end_of-Query)) = IsSteady q
  IsSteadyFrom (Result i n) = ⊤
  IsSteadyFrom (Cross' p (more_of-FromTree a end_of-FromTree) q (more_of-FromTree b end_of-FromTree)) = IsSteadyFrom a × IsSteadyFrom b
  IsSteadyFrom (Inner' p (more_of-FromTree a end_of-FromTree) q (more_of-FromTree b end_of-FromTree) on) = IsSteadyFrom a × IsSteadyFrom b
  IsSteadyFrom (Left' p (more_of-FromTree a end_of-FromTree) q (more_of-FromTree b end_of-FromTree) on) = ⊥

  -- a query that neither groups nor cuts: where its tables have fewer rows, so has it
  pub IsSteady : Query → Type 0
  IsSteady (Query' cs ctes ss subs from filter_ grouped keys aggs having items shown distinct order limit offset names) =
      IsSteadyFrom from × (grouped ≡ false) × (limit ≡ None) × (offset ≡ 0)

abbrev mutual
  -- so is each query of a FROM
  pub IsSimpleFrom : FromTree → Type 0
  IsSimpleFrom (Table t n) = ⊤
  IsSimpleFrom (Sub' p (more_of-Query q end_of-Query)) = IsSimple q
  IsSimpleFrom (Result i n) = ⊤
  IsSimpleFrom (Cross' p (more_of-FromTree a end_of-FromTree) q (more_of-FromTree b end_of-FromTree)) = IsSimpleFrom a × IsSimpleFrom b
  IsSimpleFrom (Inner' p (more_of-FromTree a end_of-FromTree) q (more_of-FromTree b end_of-FromTree) on) = IsSimpleFrom a × IsSimpleFrom b
  IsSimpleFrom (Left' p (more_of-FromTree a end_of-FromTree) q (more_of-FromTree b end_of-FromTree) on) = IsSimpleFrom a × IsSimpleFrom b

  -- a query each of whose queries, at any depth, groups a steady FROM alone
  pub IsSimple : Query → Type 0
  IsSimple (Query' cs ctes ss subs from filter_ grouped keys aggs having items shown distinct order limit offset names) =
      IsSimpleFrom from × ((grouped ≡ false) ⊎ IsSteadyFrom from)

abbrev mutual
  -- a subquery of a FROM, at any depth, that is given a set from outside is simple
  pub GivesSimplyFrom : Contents → (ℕ → ValueSet) → FromTree → ℕ → Type 0
  GivesSimplyFrom c sets (Table t n) start = ⊤
  GivesSimplyFrom c sets (Sub' p (more_of-Query q end_of-Query)) start = ((given_to sets start (pushable c q) ≡ []) × GivesSimply c q) ⊎ IsSimple q
  GivesSimplyFrom c sets (Result i n) start = ⊤
  GivesSimplyFrom c sets (Cross' p (more_of-FromTree a end_of-FromTree) q (more_of-FromTree b end_of-FromTree)) start =
      GivesSimplyFrom c sets a start × GivesSimplyFrom c sets b (start + columns_in a)
  GivesSimplyFrom c sets (Inner' p (more_of-FromTree a end_of-FromTree) q (more_of-FromTree b end_of-FromTree) on) start =
      GivesSimplyFrom c sets a start × GivesSimplyFrom c sets b (start + columns_in a)
  GivesSimplyFrom c sets (Left' p (more_of-FromTree a end_of-FromTree) q (more_of-FromTree b end_of-FromTree) on) start =
      GivesSimplyFrom c sets a start
      × GivesSimplyFrom c (right_sets sets (sets_in c sets a start) (distribution_in c b (start + columns_in a)) start (start + columns_in a) on) b (start + columns_in a)

  -- so is each such subquery of a query
  pub GivesSimply : Contents → Query → Type 0
  GivesSimply c (Query' cs ctes ss subs from filter_ grouped keys aggs having items shown distinct order limit offset names) =
      GivesSimplyFrom c (value_set [] (conjuncts_of filter_ from)) from 0

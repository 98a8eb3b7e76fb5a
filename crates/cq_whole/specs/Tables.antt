-- The tables that a whole statement's query reads.
use Rattle.std.specs.Prelude.{ℕ, List, [], ◌∷◌, ◌++◌}
use Rattle.std.specs.List.{flat_map}
use Rattle.cq_tree.specs.declared.query.FromTree.{FromTree, Table, Sub', Result, Cross', Inner', Left', end_of-FromTree, more_of-FromTree, end_of-Query, more_of-Query}
use Rattle.cq_tree.specs.declared.query.Query.{Query, Query'}
use Rattle.cq_meaning_laws.specs.WholeRules.{Step, steps_of}

abbrev mutual
  -- the tables of a FROM from left to right, with those of its subqueries in their places
  pub tables_from : FromTree → List ℕ
  tables_from (Table t n) = t ∷ []
  tables_from (Sub' p (more_of-Query q end_of-Query)) = tables_in q
  tables_from (Result i n) = []
  tables_from (Cross' p (more_of-FromTree a end_of-FromTree) q (more_of-FromTree b end_of-FromTree)) = tables_from a ++ tables_from b
  tables_from (Inner' p (more_of-FromTree a end_of-FromTree) q (more_of-FromTree b end_of-FromTree) on) = tables_from a ++ tables_from b
  tables_from (Left' p (more_of-FromTree a end_of-FromTree) q (more_of-FromTree b end_of-FromTree) on) = tables_from a ++ tables_from b

  -- those of a query's FROM
  pub tables_in : Query → List ℕ
  tables_in (Query' cs ctes ss subs from filter_ grouped keys aggs having items shown distinct order limit offset names) = tables_from from

-- those of CTEs and IN subqueries
abbrev pub tables_of_steps : List Step → List ℕ
tables_of_steps = flat_map (λ s. tables_in s.query)

-- the tables of a statement's CTEs and IN subqueries at any depth, and those of its own FROM
abbrev pub tables_of_statement : Query → List ℕ
tables_of_statement q = tables_of_steps (steps_of q) ++ tables_in q

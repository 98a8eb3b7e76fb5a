-- Queries whose rows don't hang on an order that is left open.
use Rattle.std.specs.Prelude.{◌≡◌, ℕ, ◌<◌, List, map, Option, None, ⊤, ◌⊎◌}
use Rattle.cq_tree.specs.declared.query.Key.{Key}
use Rattle.cq_meaning.specs.Lists.{Has}
use Rattle.cq_tree.specs.declared.query.FromTree.{FromTree, Table, Sub', Result, Cross', Inner', Left', more_of-FromTree, end_of-FromTree}
use Rattle.cq_tree.specs.declared.query.Query.{Query, Query', Row_of-Query, end_of-Query, more_of-Query}

-- each output column is a key of the ORDER BY
abbrev pub OrdersAll : List Key → ℕ → Type 0
OrdersAll order shown = (j : ℕ) → j < shown → Has (map (λ k. k.item) order) j

abbrev pub KeepsAll : Option ℕ → ℕ → Type 0
KeepsAll limit offset = (limit ≡ None) × (offset ≡ 0)

abbrev mutual
  -- each subquery of a FROM
  pub IsSettledFrom : FromTree → Type 0
  IsSettledFrom (Table t n) = ⊤
  IsSettledFrom (Sub' p (more_of-Query q end_of-Query)) = IsSettled q
  IsSettledFrom (Result i n) = ⊤
  IsSettledFrom (Cross' p (more_of-FromTree a end_of-FromTree) q (more_of-FromTree b end_of-FromTree)) = IsSettledFrom a × IsSettledFrom b
  IsSettledFrom (Inner' p (more_of-FromTree a end_of-FromTree) q (more_of-FromTree b end_of-FromTree) on) = IsSettledFrom a × IsSettledFrom b
  IsSettledFrom (Left' p (more_of-FromTree a end_of-FromTree) q (more_of-FromTree b end_of-FromTree) on) = IsSettledFrom a × IsSettledFrom b

  -- it has no LIMIT and no OFFSET, or an ORDER BY over all its outputs, and so have the subqueries of its FROM
  pub IsSettled : Query → Type 0
  IsSettled (Query' cs ctes ss subs from filter_ grouped keys aggs having items shown distinct order limit offset names) =
      (KeepsAll limit offset ⊎ OrdersAll order shown) × IsSettledFrom from

-- the subqueries of its FROM are settled
abbrev pub IsSettledBelow : Query → Type 0
IsSettledBelow (Query' cs ctes ss subs from filter_ grouped keys aggs having items shown distinct order limit offset names) = IsSettledFrom from

-- all that is computed before a query itself is settled: its CTEs and IN subqueries, and the subqueries of its FROM, with theirs
abbrev mutual
  pub AreSettledIns : Query → Type 0
  AreSettledIns (Query' cs ctes ss subs from filter_ grouped keys aggs having items shown distinct order limit offset names) = AreSettledInsFrom from × AreSettledInsAll subs

  pub AreSettledInsFrom : FromTree → Type 0
  AreSettledInsFrom (Table t n) = ⊤
  AreSettledInsFrom (Sub' p (more_of-Query q end_of-Query)) = AreSettledIns q
  AreSettledInsFrom (Result i n) = ⊤
  AreSettledInsFrom (Cross' p (more_of-FromTree a end_of-FromTree) q (more_of-FromTree b end_of-FromTree)) = AreSettledInsFrom a × AreSettledInsFrom b
  AreSettledInsFrom (Inner' p (more_of-FromTree a end_of-FromTree) q (more_of-FromTree b end_of-FromTree) on) = AreSettledInsFrom a × AreSettledInsFrom b
  AreSettledInsFrom (Left' p (more_of-FromTree a end_of-FromTree) q (more_of-FromTree b end_of-FromTree) on) = AreSettledInsFrom a × AreSettledInsFrom b

  pub AreSettledInsAll : {n : _} → Row_of-Query n → Type 0
  AreSettledInsAll end_of-Query = ⊤
  AreSettledInsAll (more_of-Query q more) = AreSettledIns q × IsSettled q × AreSettledInsAll more

-- no subquery and no CTE at any depth has a LIMIT or an OFFSET without an ORDER BY over all its outputs
abbrev pub AllSettled : Query → Type 0
AllSettled (Query' cs ctes ss subs from filter_ grouped keys aggs having items shown distinct order limit offset names) =
    AreSettledInsAll ctes × AreSettledInsFrom from × AreSettledInsAll subs × IsSettledFrom from

-- A query whose leaves have the numbers of columns of their tables and results.
use Rattle.std.specs.Prelude.{◌≡◌, ◌<◌, ◌≤◌, ⊤, ℕ, length}
use Rattle.std.specs.List.{AllByRecursion}
use Rattle.cq_tree.specs.declared.query.FromTree.{FromTree, Table, Sub', Result, Cross', Inner', Left', end_of-FromTree, more_of-FromTree, end_of-Query, more_of-Query}
use Rattle.cq_tree.specs.declared.query.Query.{Query, Query'}
use Rattle.cq_meaning.specs.Queries.{outputs_of}
use Rattle.cq_meaning_laws.specs.WholeRules.{Step, steps_of}
use Rattle.cq_catalog.specs.Contents.{Contents}
use Rattle.cq_catalog.specs.Placement.{place_at}
use Rattle.cq_catalog.specs.declared.info.Place.{Place}
use Rattle.cq_catalog.specs.declared.info.Place.TheVariants.{Local, Distributed, Reference}
use Rattle.cq_planning.specs.Database.{shape_in}

-- a distribution column is among so many columns
abbrev pub IsColumnOf : ℕ → Place → Type 0
IsColumnOf n Local = ⊤
IsColumnOf n (Distributed at colocation first_shard) = at < n
IsColumnOf n (Reference group shard) = ⊤

abbrev mutual
  -- the leaves of a FROM have the numbers of columns of their tables and results
  pub IsLaidFrom : Contents → (ℕ → ℕ) → FromTree → Type 0
  IsLaidFrom c widths (Table t n) = (length (shape_in c t).kinds ≡ n) × IsColumnOf n (place_at c t)
  IsLaidFrom c widths (Sub' p (more_of-Query q end_of-Query)) = IsLaid c widths q
  IsLaidFrom c widths (Result i n) = widths i ≡ n
  IsLaidFrom c widths (Cross' p (more_of-FromTree a end_of-FromTree) q (more_of-FromTree b end_of-FromTree)) = IsLaidFrom c widths a × IsLaidFrom c widths b
  IsLaidFrom c widths (Inner' p (more_of-FromTree a end_of-FromTree) q (more_of-FromTree b end_of-FromTree) on) = IsLaidFrom c widths a × IsLaidFrom c widths b
  IsLaidFrom c widths (Left' p (more_of-FromTree a end_of-FromTree) q (more_of-FromTree b end_of-FromTree) on) = IsLaidFrom c widths a × IsLaidFrom c widths b

  -- so have those of a query, which shows no more outputs than it has
  pub IsLaid : Contents → (ℕ → ℕ) → Query → Type 0
  IsLaid c widths (Query' cs ctes ss subs from filter_ grouped keys aggs having items shown distinct order limit offset names) =
      IsLaidFrom c widths from × (shown ≤ length items)

-- so do those of a CTE or an IN subquery, whose result has the number of columns of its outputs
abbrev pub IsLaidStep : Contents → (ℕ → ℕ) → Step → Type 0
IsLaidStep c widths s = IsLaid c widths s.query × (widths s.number ≡ outputs_of s.query)

-- so have those of a whole statement
abbrev pub IsLaidStatement : Contents → (ℕ → ℕ) → Query → Type 0
IsLaidStatement c widths q = IsLaid c widths q × AllByRecursion (IsLaidStep c widths) (steps_of q)

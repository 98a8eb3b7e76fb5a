-- The laws on pushdown.
use Rattle.std.specs.Prelude.{◌≡◌, ◌≤◌, ℕ, List, length, Bool, true, ◌||◌}
use Rattle.std.specs.List.{AllByRecursion}
use Rattle.cq_tree.specs.declared.query.Query.{Query, out-Query}
use Rattle.cq_meaning.specs.Lists.{Has}
use Rattle.cq_meaning.specs.Limits.{is_large_from}
use Rattle.cq_meaning.specs.Queries.{from_rows}
use Rattle.cq_meaning.specs.Values.{Row, Results, result_at}
use Rattle.cq_task_laws.specs.Tasks.{TasksServe}
use Rattle.cq_catalog.specs.Contents.{Contents}
use Rattle.cq_planning.specs.Database.{Held, CanHold, whole}
use Rattle.cq_planning.specs.Joins.{plain_in}
use Rattle.cq_planning.specs.Reaching.{IsAscendingFrom}
use Rattle.cq_planning_laws.specs.Laid.{IsLaid}
use Rattle.cq_outline.specs.Tasking.{first_column, shares_rows, combine_by}
use Rattle.cq_pushdown_laws.specs.Pushed.{is_over_references, is_pushed}
use Rattle.cq_pushdown_laws.specs.Tables.{task_tables, HoldsOnly, side_of}

-- the rows of each result have so many columns
abbrev pub AreWide : (ℕ → ℕ) → Results → Type 0
AreWide widths results = (i : ℕ) → AllByRecursion (λ (row : Row). length row ≡ widths i) (result_at results i)

-- the tasks of a query that is pushed serve for it, over any results of CTEs and IN subqueries, where this says whether they may share groups or
-- output rows
abbrev pub ServesBy : (Contents → Query → Bool) → Type 0
ServesBy shares = (c : Contents) (widths : ℕ → ℕ) (q : Query) (held : Held) (results : Results) (groups : List ℕ) → IsLaid c widths q → AreWide widths results → is_pushed c q ≡ true →
    ((g : ℕ) → CanHold c g (held g)) → IsAscendingFrom 0 groups → 1 ≤ length groups → HoldsOnly c held groups →
    TasksServe (side_of c) (combine_by 2 (shares c q)) q (whole c held) (task_tables c held) results groups

-- they may wherever the query groups or has DISTINCT
abbrev pub PushdownServes : Type 0
PushdownServes = ServesBy (λ c q. (out-Query q).grouped || (out-Query q).distinct)

-- they may only where no key, or with DISTINCT no output, is of the class of the first distribution column, as the plan has it
abbrev pub PartsServe : Type 0
PartsServe = ServesBy (λ c q. shares_rows (first_column (plain_in c q)) q)

-- a group of a subquery in the FROM that is too large for a task is too large over all rows
abbrev pub LargeBelow : Type 0
LargeBelow = (c : Contents) (widths : ℕ → ℕ) (q : Query) (held : Held) (results : Results) (groups : List ℕ) → IsLaid c widths q → AreWide widths results → is_pushed c q ≡ true →
    ((g : ℕ) → CanHold c g (held g)) → IsAscendingFrom 0 groups → HoldsOnly c held groups →
    (g : ℕ) → Has groups g → is_large_from (out-Query q).from (task_tables c held g) results ≡ true → is_large_from (out-Query q).from (whole c held) results ≡ true

-- the FROM of a query over reference tables and results alone gives in each task what it gives over all rows, and has a large group in both or in
-- neither
abbrev pub ReferencesSuffice : Type 0
ReferencesSuffice = (c : Contents) (q : Query) (held : Held) (results : Results) (g : ℕ) → is_over_references c q ≡ true →
    (from_rows (out-Query q).from 0 (task_tables c held g) results ≡ from_rows (out-Query q).from 0 (whole c held) results)
    × (is_large_from (out-Query q).from (task_tables c held g) results ≡ is_large_from (out-Query q).from (whole c held) results)

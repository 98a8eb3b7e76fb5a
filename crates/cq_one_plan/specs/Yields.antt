-- What a plan may give over captures of the groups that it touches: its subplans' rows become results; each of its tasks gives an answer of the partial
-- query over what it reads; and its rows are gathered from these.
use Rattle.std.specs.Prelude.{◌≡◌, ℕ, ◌+◌, ◌<◌, List, [], ◌∷◌, map, length, ⊤, Bool, true, false, if◌then◌else◌, Option, None, Some}
use Rattle.std.specs.List.{range_with_len, flat_map}
use Rattle.std.specs.List.Sorted.{IsPermutation}
use Rattle.cq_tree.specs.declared.plan.Combine.{Combine}
use Rattle.cq_tree.specs.declared.plan.Planner.{Planner}
use Rattle.cq_tree.specs.declared.plan.Planner.TheVariants.{FastPath, Router, Pushdown, Repartition, Coordinator}
use Rattle.cq_tree.specs.declared.plan.Task.{Task}
use Rattle.cq_tree.specs.declared.query.FromTree.{FromTree, Table, Sub', Result, Cross', Inner', Left', end_of-FromTree, more_of-FromTree, end_of-Query, more_of-Query}
use Rattle.cq_tree.specs.declared.query.Query.{Query, Query'}
use Rattle.cq_meaning.specs.Values.{Row, Results, Tables, table_rows, result_at}
use Rattle.cq_meaning.specs.Queries.{outputs_of, meaning, AnswersWith}
use Rattle.cq_catalog.specs.Contents.{Contents}
use Rattle.cq_catalog.specs.Placement.{place_at}
use Rattle.cq_catalog.specs.Ranges.{ends}
use Rattle.cq_planning.specs.Database.{Held}
use Rattle.cq_planning.specs.Routing.{is_distributed_place, is_reference_place}
use Rattle.cq_task_laws.specs.Partial.{partial}
use Rattle.cq_task_laws.specs.Merging.{GathersTo}
use Rattle.cq_task_laws.specs.Tasks.{AnswerEach}
use Rattle.cq_pushdown_laws.specs.Tables.{task_tables}
use Rattle.cq_repartition_laws.specs.Keys.{keys_of}
use Rattle.cq_repartition_laws.specs.Tasks.{bucket_tables}
use Rattle.cq_outline.specs.Tasking.{Touch, groups_in}
use Rattle.cq_outline.specs.declared.joining.Joined.{Joined}
use Rattle.cq_one_plan.specs.declared.plan.Plan.{Plan, Plan', Row_of-Plan, end_of-Plan, more_of-Plan}

-- ---- what a task reads

-- the reference tables alone
abbrev pub references : Contents → Held → Held
references c held g table = if is_reference_place (place_at c table) then held g table else []

-- the rows of its group, if it has one, and those of the reference tables
abbrev pub read_by : Contents → Held → Option ℕ → Tables
read_by c held (Some g) = task_tables c held g
read_by c held None = task_tables c (references c held) 0

-- ---- the relations of a repartition

-- how many relations are joined
abbrev pub relations_in : FromTree → ℕ
relations_in (Table t n) = 1
relations_in (Sub' p q) = 1
relations_in (Result i n) = 1
relations_in (Cross' p (more_of-FromTree a end_of-FromTree) q (more_of-FromTree b end_of-FromTree)) = relations_in a + relations_in b
relations_in (Inner' p (more_of-FromTree a end_of-FromTree) q (more_of-FromTree b end_of-FromTree) on) = relations_in a + relations_in b
relations_in (Left' p (more_of-FromTree a end_of-FromTree) q (more_of-FromTree b end_of-FromTree) on) = relations_in a + relations_in b

-- the FROM with a table of its own, from number t on, in the place of each distributed table and of each subquery
abbrev pub opened : Contents → ℕ → FromTree → FromTree
opened c t (Table u n) = if is_distributed_place (place_at c u) then Table t n else Table u n
opened c t (Sub' p (more_of-Query q end_of-Query)) = Table t (outputs_of q)
opened c t (Result i n) = Result i n
opened c t (Cross' p (more_of-FromTree a end_of-FromTree) q (more_of-FromTree b end_of-FromTree)) =
    Cross' p (more_of-FromTree (opened c t a) end_of-FromTree) q (more_of-FromTree (opened c (t + relations_in a) b) end_of-FromTree)
opened c t (Inner' p (more_of-FromTree a end_of-FromTree) q (more_of-FromTree b end_of-FromTree) on) =
    Inner' p (more_of-FromTree (opened c t a) end_of-FromTree) q (more_of-FromTree (opened c (t + relations_in a) b) end_of-FromTree) on
opened c t (Left' p (more_of-FromTree a end_of-FromTree) q (more_of-FromTree b end_of-FromTree) on) =
    Left' p (more_of-FromTree (opened c t a) end_of-FromTree) q (more_of-FromTree (opened c (t + relations_in a) b) end_of-FromTree) on

abbrev pub opened_query : Contents → Query → Query
opened_query c (Query' cs ctes ss subs from filter_ grouped keys aggs having items shown distinct order limit offset names) =
    Query' cs ctes ss subs (opened c (length c.tables) from) filter_ grouped keys aggs having items shown distinct order limit offset names

-- of a table that is opened
abbrev pub IfOpened : Bool → List Row → List Row → Type 0
IfOpened true rows own = IsPermutation rows own
IfOpened false rows own = ⊤

module _ (c : Contents) (held : Held) (rs : Results) (groups : List ℕ) (db : Tables) where
  -- the rows of each such table are those of the relation in these groups: what they hold of a table, and an answer of a subquery over each
  abbrev pub AreOpened : ℕ → FromTree → Type 0
  AreOpened t (Table u n) = IfOpened (is_distributed_place (place_at c u)) (flat_map (λ g. table_rows (task_tables c held g) u) groups) (table_rows db t)
  AreOpened t (Sub' p (more_of-Query q end_of-Query)) = IsPermutation (flat_map (λ g. meaning q (task_tables c held g) rs) groups) (table_rows db t)
  AreOpened t (Result i n) = ⊤
  AreOpened t (Cross' p (more_of-FromTree a end_of-FromTree) q (more_of-FromTree b end_of-FromTree)) = AreOpened t a × AreOpened (t + relations_in a) b
  AreOpened t (Inner' p (more_of-FromTree a end_of-FromTree) q (more_of-FromTree b end_of-FromTree) on) = AreOpened t a × AreOpened (t + relations_in a) b
  AreOpened t (Left' p (more_of-FromTree a end_of-FromTree) q (more_of-FromTree b end_of-FromTree) on) = AreOpened t a × AreOpened (t + relations_in a) b

abbrev pub from_of : Query → FromTree
from_of (Query' cs ctes ss subs from filter_ grouped keys aggs having items shown distinct order limit offset names) = from

-- tables with those of the relations behind them: the catalogue's tables that aren't distributed, and a table for each relation that is
pub record IsSpread (c : Contents) (held : Held) (rs : Results) (groups : List ℕ) (q : Query) (db : Tables) : Type 0 where
  pub opened_tables : AreOpened c held rs groups db (length c.tables) (from_of q)
  pub other_tables : (t : ℕ) → t < length c.tables → is_distributed_place (place_at c t) ≡ false → table_rows db t ≡ table_rows (read_by c held None) t

-- the tasks' tables of a repartition: each bucket of what has a column of the class, and all of the rest
abbrev pub buckets_by : Joined → Query → Tables → List Tables
buckets_by parting q db = map (bucket_tables (keys_of parting.class q) (ends parting.count) db) (range_with_len 0 (length (ends parting.count)))

-- ---- a block

-- what tasks that read these tables may give
abbrev pub GivesFrom : Combine → Query → Results → List Tables → List Row → Type 0
GivesFrom kind q rs reads rows = (answers : List (List Row)) × AnswerEach (partial kind q) rs reads answers × GathersTo kind q rs answers rows

abbrev pub reads_of : Contents → Held → List Task → List Tables
reads_of c held tasks = map (λ (t : Task). read_by c held t.group) tasks

-- a block's rows over results. Without a task they are an answer over empty tables
abbrev pub GivesBy : Contents → Held → Results → Planner → Joined → Combine → List Task → Query → List Touch → List Row → Type 0
GivesBy c held rs planner parting kind [] q touches rows = AnswersWith q [] rs rows
GivesBy c held rs Repartition parting kind (t ∷ tasks) q touches rows =
    (db : Tables) × IsSpread c held rs (groups_in c touches) q db × GivesFrom kind (opened_query c q) rs (buckets_by parting (opened_query c q) db) rows
GivesBy c held rs FastPath parting kind (t ∷ tasks) q touches rows = GivesFrom kind q rs (reads_of c held (t ∷ tasks)) rows
GivesBy c held rs Router parting kind (t ∷ tasks) q touches rows = GivesFrom kind q rs (reads_of c held (t ∷ tasks)) rows
GivesBy c held rs Pushdown parting kind (t ∷ tasks) q touches rows = GivesFrom kind q rs (reads_of c held (t ∷ tasks)) rows
GivesBy c held rs Coordinator parting kind (t ∷ tasks) q touches rows = GivesFrom kind q rs (reads_of c held (t ∷ tasks)) rows

abbrev pub Gives : Contents → Held → Results → Plan → List Row → Type 0
Gives c held rs (Plan' number n subplans planner parting combine tasks q touches grounds) rows = GivesBy c held rs planner parting combine tasks q touches rows

-- ---- a plan

abbrev mutual
  -- the rows of a plan and of all in it are results, by their numbers
  pub IsDone : Contents → Held → Results → Plan → Type 0
  IsDone c held rs (Plan' number n subplans planner parting combine tasks q touches grounds) = AreDone c held rs subplans × GivesBy c held rs planner parting combine tasks q touches (result_at rs number)

  pub AreDone : {n : _} → Contents → Held → Results → Row_of-Plan n → Type 0
  AreDone c held rs end_of-Plan = ⊤
  AreDone c held rs (more_of-Plan p more) = IsDone c held rs p × AreDone c held rs more

abbrev pub number_of : Plan → ℕ
number_of (Plan' number n subplans planner parting combine tasks q touches grounds) = number

-- the rows of a plan: for some results, of which each is what its plan gives over them
abbrev pub Yields : Contents → Held → Plan → List Row → Type 0
Yields c held p rows = (rs : Results) × IsDone c held rs p × (rows ≡ result_at rs (number_of p))

-- ---- how many rows tasks give

-- those of the tasks of these reads, in order. No answer has another number of rows
abbrev pub lengths_from : Combine → Query → Results → List Tables → List ℕ
lengths_from kind q rs reads = map (λ db. length (meaning (partial kind q) db rs)) reads

-- those of a block that isn't repartitioned
abbrev pub task_lengths : Contents → Held → Results → Plan → List ℕ
task_lengths c held rs (Plan' number n subplans planner parting combine tasks q touches grounds) = lengths_from combine q rs (reads_of c held tasks)

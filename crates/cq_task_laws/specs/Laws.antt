-- The laws on which tasks stand.
use Rattle.std.specs.Prelude.{◌≡◌, ◌≤◌, ◌^◌, ℕ, List, length, map, filter, Bool, true, false}
use Rattle.std.specs.List.{flat_map, AllByRecursion}
use Rattle.std.specs.List.Sorted.{IsPermutation}
use Rattle.cq_tree.specs.declared.plan.Combine.{Combine}
use Rattle.cq_tree.specs.declared.plan.Combine.TheVariants.{Nothing}
use Rattle.cq_tree.specs.declared.query.FromTree.{FromTree, Table}
use Rattle.cq_tree.specs.declared.query.Query.{Query, out-Query}
use Rattle.cq_meaning.specs.Values.{Row, Results, Tables, table_rows}
use Rattle.cq_meaning.specs.Lists.{Has}
use Rattle.cq_meaning.specs.Queries.{AnswersWith}
use Rattle.cq_task_laws.specs.Partial.{partial}
use Rattle.cq_task_laws.specs.Merging.{joined, has_large_together, GathersTo}
use Rattle.cq_task_laws.specs.Counting.{CanMerge}
use Rattle.cq_task_laws.specs.Gathering.{kept_of, has_large_over, full_over, IsSafeOver, IsNonEmpty, Serves, AllAnswer, AnswersOver}
use Rattle.cq_task_laws.specs.Cutting.{Joins, all_rows, rows_at, AllFit, Located, AreDistinct}
use Rattle.cq_task_laws.specs.Tasks.{Side, TasksServe, AnswersAt, AnswerEach, parts_of}

-- what a FROM keeps is, up to order, what the FROMs of its tasks keep, joined
abbrev pub CutsWhole : Type 0
CutsWhole = (f : Joins) (keep : Row → Bool) (indices : List ℕ) → AreDistinct indices → AllFit f indices → Located f keep indices →
    IsPermutation (filter keep (all_rows f)) (flat_map (λ i. filter keep (rows_at f i)) indices)

-- where the kept rows of a block are, up to order, those of its tasks' parts, what is made of the tasks' rows is an answer of the block
abbrev pub GathersWhole : Type 0
GathersWhole = (kind : Combine) (q : Query) (results : Results) (parts answers : List (List Row)) (whole rows : List Row) →
    IsPermutation (kept_of q results whole) (flat_map (kept_of q results) parts) → Serves kind q results parts → AllAnswer (partial kind q) results parts answers →
    GathersTo kind q results answers rows → AnswersOver q results whole rows

-- so is what is made of the rows of tasks that serve for it
abbrev pub TasksAnswer : Type 0
TasksAnswer = (side : FromTree → Side) (kind : Combine) (q : Query) (db : Tables) (dbs : ℕ → Tables) (results : Results) (indices : List ℕ) (answers : List (List Row)) (rows : List Row) →
    TasksServe side kind q db dbs results indices → AnswersAt (partial kind q) dbs results indices answers → GathersTo kind q results answers rows →
    AnswersWith q db results rows

-- ---- groups that are too large

-- where the kept rows of a block are, up to order, those of its tasks' parts, a group that is too large for a task is too large for the block
abbrev pub LargeForTask : Type 0
LargeForTask = (kind : Combine) (q : Query) (results : Results) (parts : List (List Row)) (whole part : List Row) →
    IsPermutation (kept_of q results whole) (flat_map (kept_of q results) parts) → Has parts part →
    has_large_over (partial kind q) results part ≡ true → has_large_over q results whole ≡ true

-- so is one that is too large over all tasks together
abbrev pub LargeTogether : Type 0
LargeTogether = (kind : Combine) (q : Query) (results : Results) (parts answers : List (List Row)) (whole : List Row) →
    IsPermutation (kept_of q results whole) (flat_map (kept_of q results) parts) → IsNonEmpty parts → length parts ≤ 2 ^ 31 → AllAnswer (partial kind q) results parts answers →
    has_large_together kind q results answers ≡ true → has_large_over q results whole ≡ true

-- ---- a block over one table

-- of which each task reads a part
abbrev pub OneTableAnswers : Type 0
OneTableAnswers = (kind : Combine) (q : Query) (table columns : ℕ) (db : Tables) (results : Results) (dbs : List Tables) (answers : List (List Row)) (rows : List Row) →
    (out-Query q).from ≡ Table table columns → table_rows db table ≡ joined (parts_of table dbs) → Serves kind q results (parts_of table dbs) →
    AnswerEach (partial kind q) results dbs answers → GathersTo kind q results answers rows → AnswersWith q db results rows

-- ---- what is needed of numbers and columns

-- where a block is safe over the rows of a part, so is its task
abbrev pub TasksAreSafe : Type 0
TasksAreSafe = (kind : Combine) (q : Query) (results : Results) (part : List Row) → IsSafeOver q results part → IsSafeOver (partial kind q) results part

-- where a block is safe over the rows of all its parts, and has no group in one of them that is too large, what its tasks give can be merged
abbrev pub MergesAreSafe : Type 0
MergesAreSafe = (kind : Combine) (q : Query) (results : Results) (parts : List (List Row)) → (kind ≡ Nothing → length parts ≡ 1) → IsNonEmpty parts → length parts ≤ 2 ^ 31 →
    IsSafeOver q results (joined parts) → AllByRecursion (λ part. has_large_over q results part ≡ false) parts →
    CanMerge kind q results (map (full_over (partial kind q) results) parts)

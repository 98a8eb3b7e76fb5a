-- How a plan is computed over what was read of the groups that it touches: block by block, each by the tasks that it shows. The rows of each block become a
-- result for those behind it.
use Rattle.std.specs.Prelude.{◌≡◌, ◌<◌, ◌≤◌, ◌+◌, ◌⊎◌, ⊤, ℕ, List, [], ◌∷◌, ◌++◌, filter_map, length, replicate, slice_set, Bool, true, false, nat_eq, Option, Some, None}
use Rattle.std.specs.List.{position, list_any, AllByRecursion}
use Rattle.cq_tree.specs.declared.plan.Combine.{Combine}
use Rattle.cq_tree.specs.declared.plan.Planner.{Planner}
use Rattle.cq_tree.specs.declared.plan.Planner.TheVariants.{FastPath, Router, Pushdown, Repartition, Coordinator}
use Rattle.cq_tree.specs.declared.plan.Task.{Task}
use Rattle.cq_tree.specs.declared.query.FromTree.{FromTree, Sub', end_of-Query, more_of-Query}
use Rattle.cq_tree.specs.declared.query.Query.{Query}
use Rattle.cq_meaning.specs.Values.{Row, Results, Tables, result_at}
use Rattle.cq_meaning.specs.Queries.{meaning}
use Rattle.cq_meaning.specs.Limits.{is_large}
use Rattle.cq_meaning.specs.Safety.{IsSafeQuery}
use Rattle.cq_task_laws.specs.Partial.{partial}
use Rattle.cq_task_laws.specs.Merging.{GathersTo, has_large_together}
use Rattle.cq_task_laws.specs.Counting.{CanMerge}
use Rattle.cq_tasks.specs.Execution.{reads_at, reads_by, parts_at, task_rows, has_large_task}
use Rattle.cq_catalog.specs.Contents.{Contents}
use Rattle.cq_catalog.specs.Ranges.{ends}
use Rattle.cq_repart.specs.Splits.{beside_in, parts_in}
use Rattle.cq_repartition_laws.specs.Keys.{keys_of}
use Rattle.cq_outline.specs.declared.joining.Joined.{Joined}
use Rattle.cq_outline.specs.Tasking.{Touch, groups_in}
use Rattle.cq_one_plan.specs.declared.plan.Plan.{Plan, out-Plan}
use Rattle.cq_one_plan.specs.Reading.{blocks_in_order}
use Rattle.cq_one_plan.specs.Yields.{opened_query}
use Rattle.cq_exec.specs.declared.captures.Captures.{Captures}
use Rattle.cq_exec.specs.Spreading.{spreads_of, spread_tables}

-- ---- what tasks read

-- there is what was read of each group
abbrev pub ArePaired : Captures → Type 0
ArePaired read = length read.groups ≡ length read.parts

-- the place of a group among these, and those of several
unfoldable pub place_in : List ℕ → ℕ → Option ℕ
place_in groups g = position (λ h. nat_eq h g) groups

abbrev pub places_in : List ℕ → List ℕ → List ℕ
places_in groups wanted = filter_map (place_in groups) wanted

abbrev pub groups_of : List Task → List ℕ
groups_of tasks = filter_map (λ (t : Task). t.group) tasks

-- what a block reads in one place: nothing without a task, and the reference tables alone by a task without a group
abbrev pub read_alone : Captures → Option ℕ → Option Tables
read_alone read None = Some read.beside
read_alone read (Some g) = None

abbrev pub whole_read : Captures → List Task → Option Tables
whole_read read [] = Some []
whole_read read (t ∷ []) = read_alone read t.group
whole_read read (t ∷ (u ∷ more)) = None

-- what each task reads: what was read of its group, beside the reference tables
abbrev pub reads_in : Captures → List Task → List Tables
reads_in read tasks = reads_at read.beside read.parts (places_in read.groups (groups_of tasks))

-- what was read of the groups that a block touches
abbrev pub parts_touched : Contents → Captures → List Touch → List Tables
parts_touched c read touches = parts_at read.parts (places_in read.groups (groups_in c touches))

-- the tables of a repartition: those that its relations become, and the reference tables
abbrev pub opened_tables : Contents → Captures → Results → List Touch → Query → Tables
opened_tables c read rs touches q = spread_tables rs read.beside (parts_touched c read touches) (spreads_of c q) ++ read.beside

-- what the task of each bucket reads
abbrev pub bucket_reads : Contents → Captures → Results → Joined → List Touch → Query → List Tables
bucket_reads c read rs parting touches q =
    let keys = keys_of parting.class (opened_query c q) in
    let db = opened_tables c read rs touches q in
    reads_by (beside_in keys db) (parts_in keys (ends parting.count) db)

-- ---- a block over results

-- the rows of a query in one place
abbrev pub IsMade : Query → Results → Tables → List Row → Type 0
IsMade q rs db rows = (rows ≡ meaning q db rs) × (is_large q db rs ≡ false)

-- those that tasks give together
abbrev pub AreGathered : Combine → Query → Results → List Tables → List Row → Type 0
AreGathered kind q rs reads rows =
    GathersTo kind q rs (task_rows kind q rs reads) rows × (has_large_task kind q rs reads ≡ false) × (has_large_together kind q rs (task_rows kind q rs reads) ≡ false)

abbrev pub HasLarge : Combine → Query → Results → List Tables → Type 0
HasLarge kind q rs reads = (has_large_task kind q rs reads ≡ true) ⊎ (has_large_together kind q rs (task_rows kind q rs reads) ≡ true)

abbrev pub CanGather : Combine → Query → Results → List Tables → Type 0
CanGather kind q rs reads =
    AllByRecursion (λ db. IsSafeQuery (partial kind q) db rs) reads × (has_large_task kind q rs reads ≡ false → CanMerge kind q rs (task_rows kind q rs reads))

module _ (read : Captures) (rs : Results) (kind : Combine) (q : Query) (tasks : List Task) where
  abbrev pub GivesIn : Option Tables → List Row → Type 0
  GivesIn (Some db) rows = IsMade q rs db rows
  GivesIn None rows = AreGathered kind q rs (reads_in read tasks) rows

  abbrev pub IsLargeIn : Option Tables → Type 0
  IsLargeIn (Some db) = is_large q db rs ≡ true
  IsLargeIn None = HasLarge kind q rs (reads_in read tasks)

  abbrev pub CanGiveIn : Option Tables → Type 0
  CanGiveIn (Some db) = IsSafeQuery q db rs
  CanGiveIn None = CanGather kind q rs (reads_in read tasks)

-- a subquery that is split is computed in each group
abbrev pub IsSafeRelation : Results → List Tables → FromTree → Type 0
IsSafeRelation rs reads (Sub' p (more_of-Query q end_of-Query)) = AllByRecursion (λ db. IsSafeQuery q db rs) reads
IsSafeRelation rs reads f = ⊤

abbrev pub is_large_relation : Results → List Tables → FromTree → Bool
is_large_relation rs reads (Sub' p (more_of-Query q end_of-Query)) = list_any (λ db. is_large q db rs) reads
is_large_relation rs reads f = false

abbrev pub has_large_relation : Results → List Tables → List (ℕ × FromTree) → Bool
has_large_relation rs reads spreads = list_any (λ (s : ℕ × FromTree). is_large_relation rs reads s.1) spreads

module _ (c : Contents) (read : Captures) (rs : Results) (parting : Joined) (kind : Combine) (touches : List Touch) (q : Query) where
  abbrev pub relation_reads : List Tables
  relation_reads = reads_by read.beside (parts_touched c read touches)

  abbrev pub GivesBuckets : List Row → Type 0
  GivesBuckets rows = (has_large_relation rs relation_reads (spreads_of c q) ≡ false) × AreGathered kind (opened_query c q) rs (bucket_reads c read rs parting touches q) rows

  abbrev pub HasLargeBucket : Type 0
  HasLargeBucket = (has_large_relation rs relation_reads (spreads_of c q) ≡ true) ⊎ HasLarge kind (opened_query c q) rs (bucket_reads c read rs parting touches q)

  abbrev pub CanGiveBuckets : Type 0
  CanGiveBuckets =
      (0 < parting.count) × (parting.count ≤ 128) × AllByRecursion (λ (s : ℕ × FromTree). IsSafeRelation rs relation_reads s.1) (spreads_of c q)
      × (has_large_relation rs relation_reads (spreads_of c q) ≡ false → CanGather kind (opened_query c q) rs (bucket_reads c read rs parting touches q))

module _ (c : Contents) (read : Captures) (rs : Results) where
  abbrev pub GivesBy : Planner → Plan → List Row → Type 0
  GivesBy Repartition p rows = let b = out-Plan p in GivesBuckets c read rs b.parting b.combine b.touches b.query rows
  GivesBy FastPath p rows = let b = out-Plan p in GivesIn read rs b.combine b.query b.tasks (whole_read read b.tasks) rows
  GivesBy Router p rows = let b = out-Plan p in GivesIn read rs b.combine b.query b.tasks (whole_read read b.tasks) rows
  GivesBy Pushdown p rows = let b = out-Plan p in GivesIn read rs b.combine b.query b.tasks (whole_read read b.tasks) rows
  GivesBy Coordinator p rows = let b = out-Plan p in GivesIn read rs b.combine b.query b.tasks (whole_read read b.tasks) rows

  abbrev pub IsLargeBy : Planner → Plan → Type 0
  IsLargeBy Repartition p = let b = out-Plan p in HasLargeBucket c read rs b.parting b.combine b.touches b.query
  IsLargeBy FastPath p = let b = out-Plan p in IsLargeIn read rs b.combine b.query b.tasks (whole_read read b.tasks)
  IsLargeBy Router p = let b = out-Plan p in IsLargeIn read rs b.combine b.query b.tasks (whole_read read b.tasks)
  IsLargeBy Pushdown p = let b = out-Plan p in IsLargeIn read rs b.combine b.query b.tasks (whole_read read b.tasks)
  IsLargeBy Coordinator p = let b = out-Plan p in IsLargeIn read rs b.combine b.query b.tasks (whole_read read b.tasks)

  abbrev pub CanGiveBy : Planner → Plan → Type 0
  CanGiveBy Repartition p = let b = out-Plan p in CanGiveBuckets c read rs b.parting b.combine b.touches b.query
  CanGiveBy FastPath p = let b = out-Plan p in CanGiveIn read rs b.combine b.query b.tasks (whole_read read b.tasks)
  CanGiveBy Router p = let b = out-Plan p in CanGiveIn read rs b.combine b.query b.tasks (whole_read read b.tasks)
  CanGiveBy Pushdown p = let b = out-Plan p in CanGiveIn read rs b.combine b.query b.tasks (whole_read read b.tasks)
  CanGiveBy Coordinator p = let b = out-Plan p in CanGiveIn read rs b.combine b.query b.tasks (whole_read read b.tasks)

  -- a block's rows are these
  abbrev pub Gives : Plan → List Row → Type 0
  Gives p rows = GivesBy (out-Plan p).planner p rows

  -- a group of it, or of a task, is too large
  abbrev pub IsLarge : Plan → Type 0
  IsLarge p = IsLargeBy (out-Plan p).planner p

  -- its tasks have their columns, and numbers fit
  abbrev pub CanGive : Plan → Type 0
  CanGive p = CanGiveBy (out-Plan p).planner p

-- ---- blocks, one after the other

module _ (c : Contents) (read : Captures) where
  -- from these results, computing the blocks leaves those
  abbrev pub Leave : Results → List Plan → Results → Type 0
  Leave rs [] after = after ≡ rs
  Leave rs (p ∷ more) after = (rows : List Row) × Gives c read rs p rows × Leave (slice_set rs (out-Plan p).number rows) more after

  -- one of them is too large, over the results of those before it
  abbrev pub HaveLarge : Results → List Plan → Type 0
  HaveLarge rs [] = ⊥
  HaveLarge rs (p ∷ more) = IsLarge c read rs p ⊎ ((rows : List Row) × Gives c read rs p rows × HaveLarge (slice_set rs (out-Plan p).number rows) more)

  -- each has a place for its rows, and can be computed over whatever those before it give
  abbrev pub CanLeave : Results → List Plan → Type 0
  CanLeave rs [] = ⊤
  CanLeave rs (p ∷ more) = ((out-Plan p).number < length rs) × CanGive c read rs p × ((rows : List Row) → Gives c read rs p rows → CanLeave (slice_set rs (out-Plan p).number rows) more)

-- ---- a plan

-- from no results, computing its blocks leaves these rows as its own result
abbrev pub IsExecuted : Contents → Captures → Plan → List Row → Type 0
IsExecuted c read p rows = (after : Results) × Leave c read (replicate ((out-Plan p).number + 1) []) (blocks_in_order p) after × (rows ≡ result_at after (out-Plan p).number)

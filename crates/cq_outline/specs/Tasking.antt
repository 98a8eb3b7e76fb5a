-- Which planner takes a block, its tasks, and how their rows are combined.
use Rattle.std.specs.Prelude.{ℕ, ◌-◌, List, [], ◌∷◌, map, filter, take, Bool, true, false, not, ◌&&◌, ◌||◌, if◌then◌else◌, nat_lt, None, Some}
use Rattle.std.specs.List.{flat_map, list_any}
use Rattle.cq_tree.specs.declared.plan.Planner.{Planner}
use Rattle.cq_tree.specs.declared.plan.Planner.TheVariants.{FastPath, Router, Pushdown, Repartition, Coordinator}
use Rattle.cq_tree.specs.declared.plan.Combine.{Combine}
use Rattle.cq_tree.specs.declared.plan.Combine.TheVariants as combine
use Rattle.cq_tree.specs.declared.plan.Task.{Task}
use Rattle.cq_tree.specs.declared.query.Query.{Query, Query'}
use Rattle.cq_catalog.specs.Contents.{Contents, first_group_in}
use Rattle.cq_catalog.specs.Placement.{place_at, colocation_at}
use Rattle.cq_planning.specs.Conjuncts.{column_of}
use Rattle.cq_planning.specs.Classes.{first_of_class}
use Rattle.cq_planning.specs.Relations.{Distribution, distributions, is_left_in_block}
use Rattle.cq_planning.specs.Components.{is_of_class}
use Rattle.cq_planning.specs.Joins.{equalities_of, relations_of, plain_in, has_several_components}
use Rattle.cq_planning.specs.Pushable.{column_behind}
use Rattle.cq_planning.specs.Occurrences.{Occurrence}
use Rattle.cq_planning.specs.Routing.{fits_fast_path, fits_router, is_distributed_place, is_reference_place, tasks_in}
use Rattle.cq_planning.specs.Touched.{numbers, in_order, groups_of}
use Rattle.cq_outline.specs.declared.outline.Leaving.{Leaving}
use Rattle.cq_outline.specs.declared.outline.Leaving.TheVariants as leaving
use Rattle.cq_outline.specs.declared.joining.Joined.{Joined}
use Rattle.cq_outline.specs.Joining.{joined_in}

-- ---- planners

abbrev pub is_none_left : List Distribution → Bool
is_none_left [] = true
is_none_left (d ∷ ds) = false

-- the first planner that takes a block. It is the coordinator where no distributed relation is left in the block
abbrev pub planner_of : Contents → Query → Planner
planner_of c q =
    if fits_fast_path c q then FastPath else
    (if fits_router c q then Router else
    (if is_none_left (distributions (is_left_in_block (relations_of c q)) (relations_of c q)) then Coordinator else
    (if has_several_components c q then Repartition else Pushdown)))

-- what it leaves to plans of its own
abbrev pub leaving_by : Planner → Leaving
leaving_by FastPath = leaving.Nothing
leaving_by Router = leaving.Nothing
leaving_by Pushdown = leaving.Alone
leaving_by Coordinator = leaving.Alone
leaving_by Repartition = leaving.Rights

-- ---- the tables that stay

-- a table, and the groups that it touches, in ascending order
abbrev pub Touch : Type 0
Touch = ℕ × List ℕ

abbrev pub touch_of : Contents → Occurrence → Touch
touch_of c o = (o.table, in_order c (groups_of c o))

abbrev pub distributed_in : Contents → List Touch → List Touch
distributed_in c touches = filter (λ (t : Touch). is_distributed_place (place_at c t.0)) touches

abbrev pub has_reference : Contents → List Touch → Bool
has_reference c touches = list_any (λ (t : Touch). is_reference_place (place_at c t.0)) touches

-- the groups of distributed tables, in ascending order
abbrev pub groups_in : Contents → List Touch → List ℕ
groups_in c touches = in_order c (flat_map (λ (t : Touch). t.1) (distributed_in c touches))

-- the first group of the first table's co-location group
abbrev pub first_group : Contents → List Touch → ℕ
first_group c [] = 0
first_group c (t ∷ ts) = first_group_in (colocation_at c t.0)

-- ---- tasks

-- one in each group, whose index is the group's number in its co-location group
abbrev pub group_tasks : ℕ → List ℕ → List Task
group_tasks first groups = map (λ g. record { index = g - first; group = Some g }) groups

-- one for each of so many buckets
abbrev pub bucket_tasks : ℕ → List Task
bucket_tasks n = map (λ i. record { index = i; group = None }) (numbers 0 n)

-- those of a block over the tables that stay: of a repartition one for each bucket, of a pushdown one in each group, and else at most one
abbrev pub tasks_by : Contents → Planner → ℕ → List Touch → List Task
tasks_by c Repartition buckets touches = bucket_tasks buckets
tasks_by c Pushdown buckets touches = group_tasks (first_group c (distributed_in c touches)) (groups_in c touches)
tasks_by c FastPath buckets touches = tasks_in (first_group c (distributed_in c touches)) (has_reference c touches) (groups_in c touches)
tasks_by c Router buckets touches = tasks_in (first_group c (distributed_in c touches)) (has_reference c touches) (groups_in c touches)
tasks_by c Coordinator buckets touches = tasks_in (first_group c (distributed_in c touches)) (has_reference c touches) (groups_in c touches)

-- a block without a distributed relation is the router's where it has a reference table
abbrev pub shown_planner : Contents → Planner → List Touch → Planner
shown_planner c Coordinator touches = if has_reference c touches then Router else Coordinator
shown_planner c FastPath touches = FastPath
shown_planner c Router touches = Router
shown_planner c Pushdown touches = Pushdown
shown_planner c Repartition touches = Repartition

-- ---- how rows are combined

-- the column of the first distributed relation that isn't a right side
abbrev pub first_column : List Distribution → ℕ
first_column [] = 0
first_column (d ∷ ds) = d.column

-- how the rows of a block are parted among its tasks: by the steps of a repartition, or by the class of that column
abbrev pub parting_by : Contents → Planner → Query → Joined
parting_by c Repartition q = joined_in c q
parting_by c FastPath q = record { columns = []; class = first_column (plain_in c q); count = 0; steps = [] }
parting_by c Router q = record { columns = []; class = first_column (plain_in c q); count = 0; steps = [] }
parting_by c Pushdown q = record { columns = []; class = first_column (plain_in c q); count = 0; steps = [] }
parting_by c Coordinator q = record { columns = []; class = first_column (plain_in c q); count = 0; steps = [] }

-- rows of several tasks can share a group, or with DISTINCT be one row: no key, or no output, is a bare column of the class by which they are parted
abbrev pub shares_rows : ℕ → Query → Bool
shares_rows at (Query' cs ctes ss subs from filter_ grouped keys aggs having items shown distinct order limit offset names) =
    let first = first_of_class (equalities_of (Query' cs ctes ss subs from filter_ grouped keys aggs having items shown distinct order limit offset names)) in
    (grouped && not (list_any (λ e. is_of_class first at (column_of e)) keys))
    || (distinct && not (list_any (λ e. is_of_class first at (column_behind grouped keys (column_of e))) (take shown items)))

-- at most one task's rows are those of the block; those of several are joined, or grouped again
abbrev pub combine_by : ℕ → Bool → Combine
combine_by tasks shares = if nat_lt tasks 2 then combine.Nothing else (if shares then combine.Groups else combine.RowsOnly)

-- The text of a plan. Its layout is this product's own; its words are those of Citus.
use Rattle.std.specs.Prelude.{ℕ, ◌+◌, List, [], ◌∷◌, ◌++◌, map, filter_map, replicate, length, codes, decimal, if◌then◌else◌, nat_eq, Option, None, Some, slice_get}
use Rattle.cq_tree.specs.declared.plan.Planner.{Planner}
use Rattle.cq_tree.specs.declared.plan.Planner.TheVariants.{FastPath, Router, Pushdown, Repartition, Coordinator}
use Rattle.cq_tree.specs.declared.plan.Step.{Step}
use Rattle.cq_tree.specs.declared.plan.Step.TheVariants.{Single, Dual}
use Rattle.cq_tree.specs.declared.plan.Combine.{Combine}
use Rattle.cq_tree.specs.declared.plan.Combine.TheVariants as combine
use Rattle.cq_tree.specs.declared.plan.Task.{Task}
use Rattle.cq_tree.specs.declared.query.Query.{Query}
use Rattle.cq_catalog.specs.Contents.{Contents}
use Rattle.cq_catalog.specs.Placement.{place_at, colocation_at, shard_in}
use Rattle.cq_catalog.specs.declared.info.Place.{Place}
use Rattle.cq_catalog.specs.declared.info.Place.TheVariants as place
use Rattle.cq_catalog.specs.declared.info.TableInfo.{TableInfo}
use Rattle.cq_outline.specs.declared.outline.Outline.{Outline, Outline', Row_of-Outline, end_of-Outline, more_of-Outline}
use Rattle.cq_outline.specs.Outlines.{outline_of}

-- words behind so many blanks
abbrev pub line : ℕ → List ℕ → List ℕ
line depth words = replicate depth 32 ++ words

abbrev pub planner_words : Planner → List ℕ
planner_words FastPath = codes "Planner: fast path"
planner_words Router = codes "Planner: router"
planner_words Pushdown = codes "Planner: pushdown"
planner_words Repartition = codes "Planner: repartition"
planner_words Coordinator = codes "Planner: coordinator"

abbrev pub step_words : Step → List ℕ
step_words Single = codes "Repartition: single"
step_words Dual = codes "Repartition: dual"

abbrev pub combine_words : Combine → List ℕ
combine_words combine.Nothing = codes "Combine: none"
combine_words combine.RowsOnly = codes "Combine: rows"
combine_words combine.Groups = codes "Combine: group"

-- ---- the shards of a task

-- the shard of a table at this place that a task reads, of this group if it has one: without a group it reads reference tables alone
abbrev pub shard_read : Contents → ℕ → Option ℕ → Place → Option ℕ
shard_read c table group place.Local = None
shard_read c table (Some g) (place.Distributed column colocation first_shard) = Some (shard_in (colocation_at c table) (place_at c table) g)
shard_read c table None (place.Distributed column colocation first_shard) = None
shard_read c table group (place.Reference own shard) = Some shard

abbrev pub name_of : Option TableInfo → List ℕ
name_of (Some t) = t.name
name_of None = []

-- the name of a table with a shard's id
abbrev pub shard_name : List ℕ → Option ℕ → Option (List ℕ)
shard_name name (Some shard) = Some (name ++ (codes "_" ++ decimal shard))
shard_name name None = None

abbrev pub shard_names : Contents → Option ℕ → List ℕ → List (List ℕ)
shard_names c group tables = filter_map (λ table. shard_name (name_of (slice_get c.tables table)) (shard_read c table group (place_at c table))) tables

-- names with a comma and a blank between each two
abbrev pub enumerated : List (List ℕ) → List ℕ
enumerated [] = []
enumerated (name ∷ []) = name
enumerated (name ∷ (next ∷ more)) = name ++ (codes ", " ++ enumerated (next ∷ more))

-- ---- tasks

-- the node of a task: that of its group, and node 1 where it has none
abbrev pub node_by : (ℕ → ℕ) → Option ℕ → ℕ
node_by nodes (Some g) = nodes g
node_by nodes None = 1

abbrev pub shown_words : ℕ → List ℕ
shown_words n = if nat_eq n 1 then codes "Tasks Shown: All" else codes "Tasks Shown: One of " ++ decimal n

-- the shards that a task reads, which a repartition doesn't have
abbrev pub shard_lines : Contents → Planner → List ℕ → ℕ → Option ℕ → List (List ℕ)
shard_lines c Repartition tables depth group = []
shard_lines c planner tables depth group = line depth (codes "Shards: " ++ enumerated (shard_names c group tables)) ∷ []

-- the first of so many tasks
abbrev pub first_task_lines : Contents → (ℕ → ℕ) → Planner → List ℕ → ℕ → ℕ → List Task → List (List ℕ)
first_task_lines c nodes planner tables depth n [] = []
first_task_lines c nodes planner tables depth n (t ∷ ts) =
    line depth (shown_words n)
    ∷ (line depth (codes "->  Task")
    ∷ (line (depth + 6) (codes "Node: " ++ decimal (node_by nodes t.group))
    ∷ shard_lines c planner tables (depth + 6) t.group))

abbrev pub task_lines : Contents → (ℕ → ℕ) → Planner → List ℕ → ℕ → List Task → List (List ℕ)
task_lines c nodes planner tables depth tasks = line depth (codes "Task Count: " ++ decimal (length tasks)) ∷ first_task_lines c nodes planner tables depth (length tasks) tasks

-- ---- plans

abbrev mutual
  -- how many subplans a plan has, at any depth
  pub subplans_in : Outline → ℕ
  subplans_in (Outline' n subplans planner steps combine tasks tables) = plans_among subplans

  -- these, with those in them
  pub plans_among : {n : _} → Row_of-Outline n → ℕ
  plans_among end_of-Outline = 0
  plans_among (more_of-Outline p more) = (1 + subplans_in p) + plans_among more

abbrev mutual
  -- the lines of a plan behind so many blanks, where `number` is that of the first subplan in it
  pub lines_from : Contents → (ℕ → ℕ) → ℕ → ℕ → Outline → List (List ℕ)
  lines_from c nodes depth number (Outline' n subplans planner steps combine tasks tables) =
      line depth (codes "Custom Scan (Citus Adaptive)")
      ∷ (line (depth + 2) (planner_words planner)
      ∷ (map (λ s. line (depth + 2) (step_words s)) steps
      ++ (subplan_lines c nodes (depth + 2) number subplans
      ++ (line (depth + 2) (combine_words combine)
      ∷ task_lines c nodes planner tables (depth + 2) tasks))))

  -- those of subplans, each behind a line with its number
  pub subplan_lines : {n : _} → Contents → (ℕ → ℕ) → ℕ → ℕ → Row_of-Outline n → List (List ℕ)
  subplan_lines c nodes depth number end_of-Outline = []
  subplan_lines c nodes depth number (more_of-Outline p more) =
      line depth (codes "->  Distributed Subplan " ++ decimal number)
      ∷ (lines_from c nodes (depth + 6) (number + 1) p ++ subplan_lines c nodes depth ((number + 1) + subplans_in p) more)

-- what EXPLAIN shows of a query, where the groups are on these nodes
abbrev pub explained : Contents → (ℕ → ℕ) → Query → List (List ℕ)
explained c nodes q = lines_from c nodes 0 1 (outline_of c q)

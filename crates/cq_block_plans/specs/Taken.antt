-- What the tasks of a block need of its query, by the planner that takes it.
use Rattle.std.specs.Prelude.{◌≡◌, ℕ, List, [], ◌∷◌, map, length, true, Some}
use Rattle.cq_tree.specs.declared.plan.Combine.{Combine}
use Rattle.cq_tree.specs.declared.plan.Combine.TheVariants.{Nothing}
use Rattle.cq_tree.specs.declared.plan.Planner.{Planner}
use Rattle.cq_tree.specs.declared.plan.Planner.TheVariants.{FastPath, Router, Pushdown, Repartition, Coordinator}
use Rattle.cq_tree.specs.declared.plan.Task.{Task}
use Rattle.cq_tree.specs.declared.query.Query.{Query}
use Rattle.cq_catalog.specs.Contents.{Contents}
use Rattle.cq_planning.specs.Joins.{plain_in}
use Rattle.cq_planning.specs.Occurrences.{occurrences_in}
use Rattle.cq_planning.specs.Routing.{distributed_of, groups_of_all}
use Rattle.cq_planning.specs.Touched.{among}
use Rattle.cq_outline.specs.declared.joining.Joined.{Joined}
use Rattle.cq_outline.specs.Tasking.{Touch, groups_in, bucket_tasks, first_column, shares_rows, combine_by}
use Rattle.cq_pushdown_laws.specs.Pushed.{joins_pushed, is_pushed}
use Rattle.cq_plan_laws.specs.Blocks.{groups_for, query_reads_none}
use Rattle.cq_plan_laws.specs.Laws.{from_of}
use Rattle.cq_plan_laws.specs.Opening.{subs_pushed}

-- the groups that a query's distributed tables touch, in ascending order
abbrev pub reached : Contents → Query → List ℕ
reached c q = groups_of_all c (distributed_of c (occurrences_in c q []))

-- they are among these
abbrev pub Reaches : Contents → Query → List ℕ → Type 0
Reaches c q groups = (g : ℕ) → among g (reached c q) ≡ true → among g groups ≡ true

-- at most one task: it has the group that is touched, if one is; without a task no reference table is read either
abbrev pub IsAlone : Contents → Combine → List Task → Query → Type 0
IsAlone c kind [] q = (query_reads_none c q ≡ true) × Reaches c q []
IsAlone c kind (t ∷ []) q = (kind ≡ Nothing) × Reaches c q (groups_for t.group)
IsAlone c kind (t ∷ (u ∷ tasks)) q = ⊥

abbrev pub IsTaken : Contents → Planner → Joined → Combine → List Task → Query → List Touch → Type 0
IsTaken c FastPath parting kind tasks q touches = IsAlone c kind tasks q
IsTaken c Router parting kind tasks q touches = IsAlone c kind tasks q
IsTaken c Coordinator parting kind tasks q touches = IsAlone c kind tasks q
IsTaken c Pushdown parting kind tasks q touches =
    (is_pushed c q ≡ true) × (map (λ (t : Task). t.group) tasks ≡ map Some (groups_in c touches))
    × (kind ≡ combine_by (length (groups_in c touches)) (shares_rows (first_column (plain_in c q)) q)) × Reaches c q (groups_in c touches)
IsTaken c Repartition parting kind tasks q touches =
    (joins_pushed c (from_of q) ≡ true) × (subs_pushed c (from_of q) ≡ true) × (tasks ≡ bucket_tasks parting.count) × (kind ≡ combine_by (length tasks) (shares_rows parting.class q)) × Reaches c q (groups_in c touches)

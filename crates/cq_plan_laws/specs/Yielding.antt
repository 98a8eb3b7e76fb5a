-- All rows that a plan yields over captures are answers of its statement, where its blocks' tasks serve for their queries.
use Rattle.std.specs.Prelude.{◌≡◌, ◌≤◌, ⊤, ℕ, List, [], ◌∷◌, map, length, true}
use Rattle.std.specs.List.{AllByRecursion}
use Rattle.cq_tree.specs.declared.plan.Combine.{Combine}
use Rattle.cq_tree.specs.declared.plan.Combine.TheVariants.{Nothing}
use Rattle.cq_tree.specs.declared.plan.Planner.{Planner}
use Rattle.cq_tree.specs.declared.plan.Planner.TheVariants.{FastPath, Router, Pushdown, Coordinator}
use Rattle.cq_tree.specs.declared.plan.Task.{Task}
use Rattle.cq_tree.specs.declared.query.Query.{Query}
use Rattle.cq_tree.specs.declared.statement.Statement.TheVariants as statement
use Rattle.cq_meaning.specs.Values.{Row, Results}
use Rattle.cq_meaning.specs.Queries.{AnswersWith}
use Rattle.cq_meaning.specs.Results.{Answers}
use Rattle.cq_meaning_laws.specs.Settled.{AllSettled}
use Rattle.cq_meaning_laws.specs.WholeRules.{steps_of}
use Rattle.cq_catalog.specs.Contents.{Contents}
use Rattle.cq_catalog.specs.Whole.{IsWhole}
use Rattle.cq_planning.specs.Database.{Held, CanHold, whole}
use Rattle.cq_planning.specs.Joins.{plain_in}
use Rattle.cq_planning.specs.Reaching.{IsAscendingFrom}
use Rattle.cq_planning.specs.Touched.{among, touched}
use Rattle.cq_planning_laws.specs.Laid.{IsLaidStatement}
use Rattle.cq_outline.specs.declared.joining.Joined.{Joined}
use Rattle.cq_outline.specs.Tasking.{Touch, first_column, shares_rows, combine_by}
use Rattle.cq_pushdown_laws.specs.Laws.{AreWide}
use Rattle.cq_pushdown_laws.specs.Pushed.{is_pushed}
use Rattle.cq_pushdown_laws.specs.Tables.{task_tables}
use Rattle.cq_one_plan.specs.declared.plan.Plan.{Plan, Plan', Row_of-Plan, end_of-Plan, more_of-Plan}
use Rattle.cq_one_plan.specs.Plans.{whole_plan}
use Rattle.cq_one_plan.specs.Yields.{GivesBy, Yields, reads_of}
use Rattle.cq_plan_laws.specs.Blocks.{IsBlock, groups_for, query_reads_none}
use Rattle.cq_plan_laws.specs.Composing.{IsSound}
use Rattle.cq_plan_laws.specs.Scoping.{IsScoped}

module _ (c : Contents) (held : Held) (rs : Results) where
  -- what a block's tasks give is an answer of its query over all that is held
  abbrev pub ServesBy : Planner → Joined → Combine → List Task → Query → List Touch → Type 0
  ServesBy planner parting kind tasks q touches = (rows : List Row) → GivesBy c held rs planner parting kind tasks q touches rows → AnswersWith q (whole c held) rs rows

  abbrev mutual
    -- so is it of each block of a plan
    pub AllServe : Plan → Type 0
    AllServe (Plan' number n subplans planner parting combine tasks q touches grounds) = EachServes subplans × ServesBy planner parting combine tasks q touches

    pub EachServes : {n : _} → Row_of-Plan n → Type 0
    EachServes end_of-Plan = ⊤
    EachServes (more_of-Plan p more) = AllServe p × EachServes more

-- ---- blocks whose tasks serve

-- a pushed block: its tasks are for these groups, in ascending order
pub record IsPushedBlock (c : Contents) (widths : ℕ → ℕ) (held : Held) (rs : Results) (kind : Combine) (tasks : List Task) (q : Query) : Type 0 where
  pub groups : List ℕ
  pub block : IsBlock c widths q held rs groups
  pub pushed : is_pushed c q ≡ true
  pub ascending : IsAscendingFrom 0 groups
  pub some : 1 ≤ length groups
  pub kind_is : kind ≡ combine_by (length groups) (shares_rows (first_column (plain_in c q)) q)
  pub reads : reads_of c held tasks ≡ map (task_tables c held) groups

-- a block of one task
pub record IsLoneBlock (c : Contents) (widths : ℕ → ℕ) (held : Held) (rs : Results) (kind : Combine) (task : Task) (q : Query) : Type 0 where
  pub block : IsBlock c widths q held rs (groups_for task.group)
  pub kind_is : kind ≡ Nothing

-- a block without a task
pub record IsIdleBlock (c : Contents) (widths : ℕ → ℕ) (held : Held) (rs : Results) (q : Query) : Type 0 where
  pub block : IsBlock c widths q held rs []
  pub none : query_reads_none c q ≡ true

-- of every planner but repartition
abbrev pub BlocksServe : Type 0
BlocksServe = (c : Contents) (widths : ℕ → ℕ) (held : Held) (rs : Results) (parting : Joined) (kind : Combine) (q : Query) (touches : List Touch) →
    ((planner : Planner) → IsIdleBlock c widths held rs q → ServesBy c held rs planner parting kind [] q touches)
    × ((task : Task) → IsLoneBlock c widths held rs kind task q →
    ServesBy c held rs FastPath parting kind (task ∷ []) q touches × ServesBy c held rs Router parting kind (task ∷ []) q touches × ServesBy c held rs Coordinator parting kind (task ∷ []) q touches)
    × ((task : Task) (tasks : List Task) → IsPushedBlock c widths held rs kind (task ∷ tasks) q → ServesBy c held rs Pushdown parting kind (task ∷ tasks) q touches)

-- ---- what a statement's plan yields

-- a statement, as the binder and the refusals leave it, over captures
pub record IsPlanned (c : Contents) (widths : ℕ → ℕ) (q : Query) (held : Held) : Type 0 where
  pub catalog : IsWhole c
  pub laid : IsLaidStatement c widths q
  pub settled : AllSettled q
  pub sound : AllByRecursion (IsSound c widths) (steps_of q)
  pub scoped : IsScoped q
  pub can : (g : ℕ) → CanHold c g (held g)

-- all that its plan yields is an answer over all that the groups hold, whatever legal contents the untouched groups have
abbrev pub PlansYield : Type 0
PlansYield = (c : Contents) (widths : ℕ → ℕ) (q : Query) (held other : Held) (rows : List Row) → IsPlanned c widths q held → (y : Yields c held (whole_plan c q) rows) → AreWide widths y.0 → AllServe c held y.0 (whole_plan c q) →
    ((g : ℕ) → CanHold c g (other g)) → ((g table : ℕ) → among g (touched c (statement.Select q)) ≡ true → held g table ≡ other g table) →
    Answers q (whole c held) rows × Answers q (whole c other) rows

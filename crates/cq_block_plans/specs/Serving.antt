-- The tasks of a block that has the shape that they need serve for it.
use Rattle.std.specs.Prelude.{⊤, ℕ, List, [], ◌∷◌}
use Rattle.cq_tree.specs.declared.plan.Combine.{Combine}
use Rattle.cq_tree.specs.declared.plan.Planner.{Planner}
use Rattle.cq_tree.specs.declared.plan.Planner.TheVariants.{FastPath, Router, Pushdown, Repartition, Coordinator}
use Rattle.cq_tree.specs.declared.plan.Task.{Task}
use Rattle.cq_tree.specs.declared.query.Query.{Query}
use Rattle.cq_meaning.specs.Values.{Results}
use Rattle.cq_catalog.specs.Contents.{Contents}
use Rattle.cq_catalog.specs.Whole.{IsWhole}
use Rattle.cq_planning.specs.Database.{Held, CanHold}
use Rattle.cq_planning_laws.specs.Laid.{IsLaid}
use Rattle.cq_outline.specs.declared.joining.Joined.{Joined}
use Rattle.cq_outline.specs.Tasking.{Touch}
use Rattle.cq_pushdown_laws.specs.Laws.{AreWide}
use Rattle.cq_plan_laws.specs.Blocks.{HoldsOwn}
use Rattle.cq_plan_laws.specs.Yielding.{ServesBy}
use Rattle.cq_block_plans.specs.Laws.{AreGroupsApart}
use Rattle.cq_block_plans.specs.Taken.{IsTaken}

-- a block's query over captures
pub record IsReady (c : Contents) (widths : ℕ → ℕ) (q : Query) (held : Held) (rs : Results) : Type 0 where
  pub catalog : IsWhole c
  pub apart : AreGroupsApart c
  pub laid : IsLaid c widths q
  pub wide : AreWide widths rs
  pub can : (g : ℕ) → CanHold c g (held g)
  pub own : HoldsOwn c held

-- no repartition, and no pushed block without a task
abbrev pub IsSimplyTasked : Planner → List Task → Type 0
IsSimplyTasked FastPath tasks = ⊤
IsSimplyTasked Router tasks = ⊤
IsSimplyTasked Coordinator tasks = ⊤
IsSimplyTasked Pushdown [] = ⊥
IsSimplyTasked Pushdown (t ∷ tasks) = ⊤
IsSimplyTasked Repartition tasks = ⊥

abbrev pub TakenServe : Type 0
TakenServe = (c : Contents) (widths : ℕ → ℕ) (held : Held) (rs : Results) (planner : Planner) (parting : Joined) (kind : Combine) (tasks : List Task) (q : Query) (touches : List Touch) →
    IsReady c widths q held rs → IsTaken c planner parting kind tasks q touches → IsSimplyTasked planner tasks → ServesBy c held rs planner parting kind tasks q touches

-- What planning decides of a block, as code holds it.
use Rattle.std.specs.Prelude.{ℕ, List, Bool, true, false}
use Rattle.cq_tree.specs.declared.plan.Planner.{Planner}
use Rattle.cq_tree.specs.declared.plan.Planner.TheVariants.{FastPath, Router, Pushdown, Repartition, Coordinator}
use Rattle.cq_tree.specs.declared.query.Query.{Query}
use Rattle.cq_catalog.specs.Contents.{Contents}
use Rattle.cq_outline.specs.Joining.{nothing_joined}
use Rattle.cq_outline.specs.Tasking.{planner_of, parting_by, shares_rows}
use Rattle.cq_one_plan.specs.declared.plan.Plan.{Plan}
use Rattle.cq_one_plan.specs.declared.plan.Part.{Part}
use Rattle.cq_one_plan.specs.Plans.{grounds_of, no_grounds, plan_with}
use Rattle.cq_planner.specs.declared.strategy.Strategy.{Strategy}

abbrev pub strategy_of : Contents → Query → Strategy
strategy_of c q = record {
  planner = planner_of c q;
  parting = parting_by c (planner_of c q) q;
  shares = shares_rows (parting_by c (planner_of c q) q).class q;
  grounds = grounds_of c q;
}

abbrev pub lone_strategy : Planner → Strategy
lone_strategy planner = record { planner = planner; parting = nothing_joined; shares = false; grounds = no_grounds }

-- the plan of a block of this strategy
abbrev pub plan_by : Contents → ℕ → Strategy → List Plan → List Part → Query → Plan
plan_by c number s ctes parts q = plan_with c number s.planner s.parting s.shares s.grounds ctes parts q

-- whether a planner takes a block with all subqueries of its FROM
abbrev pub takes_whole : Planner → Bool
takes_whole FastPath = true
takes_whole Router = true
takes_whole Pushdown = false
takes_whole Repartition = false
takes_whole Coordinator = false

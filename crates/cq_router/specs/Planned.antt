-- What the fast path and the router make of a query.
use Rattle.std.specs.Prelude.{ℕ, List, length, nat_eq, Bool, ◌&&◌, Option, Some, None, if◌then◌else◌}
use Rattle.cq_tree.specs.declared.plan.Planner.{Planner}
use Rattle.cq_tree.specs.declared.plan.Planner.TheVariants.{FastPath, Router}
use Rattle.cq_tree.specs.declared.plan.Task.{Task}
use Rattle.cq_tree.specs.declared.query.Query.{Query, out-Query}
use Rattle.cq_catalog.specs.Contents.{Contents}
use Rattle.cq_planning.specs.Routing.{fits_fast_path, fits_router, tasks_of, touched_in_block}
use Rattle.cq_router.specs.declared.planners.Routed.{Routed}

abbrev pub routed_by : Planner → List Task → List ℕ → Routed
routed_by planner tasks touched = record { planner = planner; tasks = tasks; touched = touched }

-- the plan of the fast path, and None where it doesn't take the query
abbrev pub fast_path_of : Contents → Query → Option Routed
fast_path_of c q = if fits_fast_path c q then Some (routed_by FastPath (tasks_of c q) (touched_in_block c q)) else None

-- the plan of the router, and None where it doesn't take the query
abbrev pub router_of : Contents → Query → Option Routed
router_of c q = if fits_router c q then Some (routed_by Router (tasks_of c q) (touched_in_block c q)) else None

-- no CTEs and no IN subqueries
abbrev pub is_alone : Query → Bool
is_alone q = nat_eq (length (out-Query q).ctes) 0 && nat_eq (length (out-Query q).subs) 0

use Rattle.std.proofs.Common.{◌≡◌, ◌++◌, map, drop}
use Rattle.cq_one_plan.specs.declared.plan.Part.TheVariants.{Asks}
use Rattle.cq_planner.specs.Walks.{cte_plan_list, in_plan_list}
use Rattle.cq_planner.proofs.walk.+planner.Given as goal

abbrev pub invariant-cte_plans-loop-number : goal.invariant-cte_plans-loop-number
invariant-cte_plans-loop-number l =
    l.plans ++ cte_plan_list l.catalog l.number l.next.ins l.next.relations (drop l.number l.queries) ≡ cte_plan_list l.catalog 0 l.fn.first.ins l.fn.first.relations l.queries

abbrev pub invariant-put_asked-loop-q : goal.invariant-put_asked-loop-q
invariant-put_asked-loop-q l =
    l.found ++ map Asks (in_plan_list l.catalog l.next.ins l.next.relations (drop l.q-index l.queries)) ≡ l.fn.found ++ map Asks (in_plan_list l.catalog l.fn.first.ins l.fn.first.relations l.queries)

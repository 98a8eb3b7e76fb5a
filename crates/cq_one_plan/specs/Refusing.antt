-- Why a plan isn't supported: the lowest of U1 to U4 that its blocks, and the statement, give.
use Rattle.std.specs.Prelude.{Bool, false, not, ◌&&◌, if◌then◌else◌, Option, None, Some}
use Rattle.std.specs.List.{list_any}
use Rattle.cq_tree.specs.declared.plan.Planner.{Planner}
use Rattle.cq_tree.specs.declared.plan.Planner.TheVariants.{FastPath, Router, Pushdown, Repartition, Coordinator}
use Rattle.cq_tree.specs.declared.unsupported.Unsupported.{Unsupported}
use Rattle.cq_tree.specs.declared.unsupported.Unsupported.TheVariants.{NeedsRepartition, NoEquality, OuterJoin, LimitWithoutOrder}
use Rattle.cq_one_plan.specs.declared.plan.Grounds.{Grounds}
use Rattle.cq_one_plan.specs.declared.plan.Plan.{Plan, Plan'}
use Rattle.cq_one_plan.specs.Reading.{blocks_in_order}

-- what a refusal of a block rests on
abbrev pub grounds_in : Plan → Grounds
grounds_in (Plan' number n subplans planner parting combine tasks q touches grounds) = grounds

-- a repartition that equalities join throughout, where repartition is off (U1)
abbrev pub needs_by : Bool → Planner → Grounds → Bool
needs_by repartition Repartition grounds = not grounds.lacks_equality && not repartition
needs_by repartition FastPath grounds = false
needs_by repartition Router grounds = false
needs_by repartition Pushdown grounds = false
needs_by repartition Coordinator grounds = false

abbrev pub needs_repartition : Bool → Plan → Bool
needs_repartition repartition (Plan' number n subplans planner parting combine tasks q touches grounds) = needs_by repartition planner grounds

-- the refusal of a statement by its plan, where the first argument says whether repartition is on
abbrev pub refusal_in : Bool → Plan → Option Unsupported
refusal_in repartition p =
    if list_any (needs_repartition repartition) (blocks_in_order p) then Some NeedsRepartition else
    (if list_any (λ b. (grounds_in b).lacks_equality) (blocks_in_order p) then Some NoEquality else
    (if list_any (λ b. (grounds_in b).has_loose_join) (blocks_in_order p) then Some OuterJoin else
    (if (grounds_in p).has_loose_cut then Some LimitWithoutOrder else None)))

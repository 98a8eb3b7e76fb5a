-- A statement is refused by its plan as by its blocks.
use Rattle.std.specs.Prelude.{◌≡◌, Bool}
use Rattle.cq_tree.specs.declared.query.Query.{Query}
use Rattle.cq_catalog.specs.Contents.{Contents}
use Rattle.cq_planning.specs.Refusals.{refusal_of_query}
use Rattle.cq_one_plan.specs.Plans.{whole_plan}
use Rattle.cq_one_plan.specs.Refusing.{refusal_in}
use Rattle.cq_plan_laws.specs.Touching.{IsOutermost}

-- where WITH stands only before the outermost query, the refusal that a statement's plan gives is that of the statement
abbrev pub PlansRefuse : Type 0
PlansRefuse = (repartition : Bool) (c : Contents) (q : Query) → IsOutermost q → refusal_in repartition (whole_plan c q) ≡ refusal_of_query repartition c q

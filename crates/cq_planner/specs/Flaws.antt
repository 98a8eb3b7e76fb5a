-- What the blocks of a plan are refused for, as code gathers it.
use Rattle.std.specs.Prelude.{List, [], ◌∷◌, Bool, false, ◌||◌, if◌then◌else◌, Option, None, Some}
use Rattle.std.specs.List.{list_any}
use Rattle.cq_tree.specs.declared.plan.Planner.{Planner}
use Rattle.cq_tree.specs.declared.unsupported.Unsupported.{Unsupported}
use Rattle.cq_tree.specs.declared.unsupported.Unsupported.TheVariants.{NeedsRepartition, NoEquality, OuterJoin, LimitWithoutOrder}
use Rattle.cq_one_plan.specs.declared.plan.Grounds.{Grounds}
use Rattle.cq_one_plan.specs.declared.plan.Plan.{Plan}
use Rattle.cq_one_plan.specs.Reading.{blocks_in_order}
use Rattle.cq_one_plan.specs.Refusing.{grounds_in, needs_by, needs_repartition}
use Rattle.cq_planner.specs.declared.refusing.Flaws.{Flaws}

abbrev pub no_flaws : Flaws
no_flaws = record { needs_repartition = false; lacks_equality = false; has_loose_join = false }

abbrev pub either : Flaws → Flaws → Flaws
either a b = record {
  needs_repartition = a.needs_repartition || b.needs_repartition;
  lacks_equality = a.lacks_equality || b.lacks_equality;
  has_loose_join = a.has_loose_join || b.has_loose_join;
}

-- those of a block
abbrev pub flaws_by : Bool → Planner → Grounds → Flaws
flaws_by repartition planner grounds =
    record { needs_repartition = needs_by repartition planner grounds; lacks_equality = grounds.lacks_equality; has_loose_join = grounds.has_loose_join }

-- those of a plan's blocks
abbrev pub flaws_within : Bool → Plan → Flaws
flaws_within repartition p = record {
  needs_repartition = list_any (needs_repartition repartition) (blocks_in_order p);
  lacks_equality = list_any (λ b. (grounds_in b).lacks_equality) (blocks_in_order p);
  has_loose_join = list_any (λ b. (grounds_in b).has_loose_join) (blocks_in_order p);
}

abbrev pub flaws_among : Bool → List Plan → Flaws
flaws_among repartition [] = no_flaws
flaws_among repartition (p ∷ ps) = either (flaws_within repartition p) (flaws_among repartition ps)

-- the lowest refusal
abbrev pub lowest : Flaws → Bool → Option Unsupported
lowest flaws is_cut =
    if flaws.needs_repartition then Some NeedsRepartition else
    (if flaws.lacks_equality then Some NoEquality else
    (if flaws.has_loose_join then Some OuterJoin else
    (if is_cut then Some LimitWithoutOrder else None)))

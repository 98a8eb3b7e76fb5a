-- The blocks of a plan, as code gathers them.
use Rattle.std.proofs.Common.{◌≡◌, List, [], ◌∷◌, ◌++◌, refl, sym, ap, ◌∙◌}
use Rattle.std.specs.List.{flat_map}
use denote.Hole.Carrier.{hidden}
use Rattle.cq_one_plan.specs.declared.plan.Plan.{Plan, out-Plan, roll-Plan, roll-out-Plan, Row_of-Plan, end_of-Plan, more_of-Plan, items-the_row-Plan, items_hidden-the_row-Plan-0}
use Rattle.cq_one_plan.specs.declared.plan.Plan.TheBlock.{hidden-the_row-Plan-0}
use Rattle.cq_one_plan.specs.declared.plan.Plan.TheOpen.{Plan-F}
use Rattle.cq_one_plan.specs.Reading.{blocks_in_order, blocks_of_all}

all_row : {n : _} (ps : Row_of-Plan n) → blocks_of_all ps ≡ flat_map blocks_in_order (items-the_row-Plan _ ps)
all_row end_of-Plan = refl
all_row (more_of-Plan p more) = ap (λ (rest : List Plan). blocks_in_order p ++ rest) (all_row more)

all_hidden : (ps : List Plan) → blocks_of_all (hidden-the_row-Plan-0 ps) ≡ flat_map blocks_in_order ps
all_hidden ps = all_row (hidden-the_row-Plan-0 ps) ∙ ap (flat_map blocks_in_order) (items_hidden-the_row-Plan-0 ps)

rolled : (x : Plan-F Plan) → blocks_in_order (roll-Plan x) ≡ flat_map blocks_in_order x.subplans ++ roll-Plan x ∷ []
unfolding roll-Plan denote.Hole.Carrier.roll
rolled x = ap (λ (rest : List Plan). rest ++ roll-Plan x ∷ []) (all_hidden x.subplans)

pub blocks_is : (p : Plan) → blocks_in_order p ≡ flat_map blocks_in_order (out-Plan p).subplans ++ p ∷ []
blocks_is p = ap blocks_in_order (sym (roll-out-Plan p)) ∙ (rolled (out-Plan p) ∙ ap (λ (x : Plan). flat_map blocks_in_order (out-Plan p).subplans ++ x ∷ []) (roll-out-Plan p))

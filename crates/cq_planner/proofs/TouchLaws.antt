-- What a plan touches, as code gathers it.
use Rattle.std.proofs.Common.{◌≡◌, ℕ, List, ◌++◌, refl, sym, ap, ◌∙◌}
use Rattle.std.specs.List.{flat_map}
use denote.Hole.Carrier.{hidden}
use Rattle.cq_catalog.specs.Contents.{Contents}
use Rattle.cq_planning.specs.Touched.{in_order}
use Rattle.cq_outline.specs.Tasking.{Touch}
use Rattle.cq_one_plan.specs.declared.plan.Plan.{Plan, out-Plan, roll-Plan, roll-out-Plan, Row_of-Plan, end_of-Plan, more_of-Plan, items-the_row-Plan, items_hidden-the_row-Plan-0}
use Rattle.cq_one_plan.specs.declared.plan.Plan.TheBlock.{hidden-the_row-Plan-0}
use Rattle.cq_one_plan.specs.declared.plan.Plan.TheOpen.{Plan-F}
use Rattle.cq_one_plan.specs.Reading.{touches_in, touches_of_all, groups_touched}

all_row : {n : _} (ps : Row_of-Plan n) → touches_of_all ps ≡ flat_map touches_in (items-the_row-Plan _ ps)
all_row end_of-Plan = refl
all_row (more_of-Plan p more) = ap (λ (rest : List Touch). touches_in p ++ rest) (all_row more)

all_hidden : (ps : List Plan) → touches_of_all (hidden-the_row-Plan-0 ps) ≡ flat_map touches_in ps
all_hidden ps = all_row (hidden-the_row-Plan-0 ps) ∙ ap (flat_map touches_in) (items_hidden-the_row-Plan-0 ps)

rolled : (x : Plan-F Plan) → touches_in (roll-Plan x) ≡ flat_map touches_in x.subplans ++ x.touches
unfolding roll-Plan denote.Hole.Carrier.roll
rolled x = ap (λ (rest : List Touch). rest ++ x.touches) (all_hidden x.subplans)

pub touches_is : (p : Plan) → touches_in p ≡ flat_map touches_in (out-Plan p).subplans ++ (out-Plan p).touches
touches_is p = ap touches_in (sym (roll-out-Plan p)) ∙ rolled (out-Plan p)

pub groups_found : (c : Contents) (p : Plan) (all : List Touch) (groups : List ℕ) → all ≡ touches_in p → groups ≡ flat_map (λ (t : Touch). t.1) all → in_order c groups ≡ groups_touched c p
groups_found c p all groups t g = ap (in_order c) (g ∙ ap (flat_map (λ (t : Touch). t.1)) t)

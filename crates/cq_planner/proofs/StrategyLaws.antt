-- What planning decides of a block, by what code finds.
use Rattle.std.proofs.Common.{◌≡◌, Bool, true, false, ◌||◌, if◌then◌else◌, refl, ap, ◌∙◌}
use Rattle.cq_tree.specs.declared.plan.Planner.{Planner}
use Rattle.cq_tree.specs.declared.plan.Planner.TheVariants.{FastPath, Router, Pushdown, Repartition, Coordinator}
use Rattle.cq_tree.specs.declared.query.Query.{Query}
use Rattle.cq_catalog.specs.Contents.{Contents}
use Rattle.cq_planning.specs.Routing.{fits_fast_path, fits_router}
use Rattle.cq_planning.specs.Blocks.{is_taken_whole}
use Rattle.cq_outline.specs.Tasking.{planner_of}
use Rattle.cq_planner.specs.Strategies.{takes_whole}

chosen : (fast routed none several : Bool) → takes_whole (if fast then FastPath else (if routed then Router else (if none then Coordinator else (if several then Repartition else Pushdown)))) ≡ (fast || routed)
chosen true routed none several = refl
chosen false true none several = refl
chosen false false true several = refl
chosen false false false true = refl
chosen false false false false = refl

-- the fast path and the router take a block whole
pub taken_whole : (c : Contents) (q : Query) (planner : Planner) (whole : Bool) → planner ≡ planner_of c q → whole ≡ takes_whole planner → whole ≡ is_taken_whole c q
taken_whole c q planner whole p w = w ∙ (ap takes_whole p ∙ chosen (fits_fast_path c q) (fits_router c q) _ _)

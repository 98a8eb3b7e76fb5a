-- How a plan is computed: its subplans one after the other, the rows of each becoming a result, and then its own block over these results.
use Rattle.std.specs.Prelude.{◌≡◌, List, slice_set}
use Rattle.cq_meaning.specs.Values.{Row, Results}
use Rattle.cq_catalog.specs.Contents.{Contents}
use Rattle.cq_planning.specs.Database.{Held}
use Rattle.cq_one_plan.specs.declared.plan.Plan.{Plan, Plan', Row_of-Plan, end_of-Plan, more_of-Plan}
use Rattle.cq_one_plan.specs.Yields.{GivesBy}

module _ (c : Contents) (held : Held) where
  abbrev mutual
    -- from these results, computing a plan leaves those
    pub Computes : Results → Plan → Results → Type 0
    Computes rs (Plan' number n subplans planner parting combine tasks q touches grounds) after =
        (now : Results) × ComputesAll rs subplans now × (rows : List Row) × GivesBy c held now planner parting combine tasks q touches rows × (after ≡ slice_set now number rows)

    pub ComputesAll : {n : _} → Results → Row_of-Plan n → Results → Type 0
    ComputesAll rs end_of-Plan after = after ≡ rs
    ComputesAll rs (more_of-Plan p more) after = (now : Results) × Computes rs p now × ComputesAll now more after

-- The queries of a plan's blocks keep to the widths that the binder gave.
use Rattle.std.specs.Prelude.{◌≡◌, ◌<◌, ◌≤◌, ◌+◌, ⊤, ℕ, [], length, slice_index_or}
use Rattle.cq_tree.specs.declared.query.Query.{Query}
use Rattle.cq_meaning.specs.declared.Columns.{Columns}
use Rattle.cq_meaning.specs.Widths.{output_bits, IsBoundQuery}
use Rattle.cq_meaning_laws.specs.WholeRules.{IsBoundStatement}
use Rattle.cq_catalog.specs.Contents.{Contents}
use Rattle.cq_planning_laws.specs.Laid.{IsLaidStatement}
use Rattle.cq_one_plan.specs.declared.plan.Plan.{Plan, Plan', Row_of-Plan, end_of-Plan, more_of-Plan}
use Rattle.cq_one_plan.specs.Stays.{leaves_of}
use Rattle.cq_one_plan.specs.Plans.{whole_plan, first_free}
use Rattle.cq_plan_laws.specs.Scoping.{IsScoped}
use Rattle.cq_plan_laws.specs.Touching.{IsOutermost}

abbrev mutual
  -- the binder lets the query of each block of a plan through over these columns, which give its result the widths of its outputs
  pub AreBoundIn : Columns → Plan → Type 0
  AreBoundIn cs (Plan' number n subplans planner parting combine tasks q touches grounds) = EachBoundIn cs subplans × IsBoundQuery cs q × (slice_index_or cs.results number [] ≡ output_bits cs q)

  pub EachBoundIn : {n : _} → Columns → Row_of-Plan n → Type 0
  EachBoundIn cs end_of-Plan = ⊤
  EachBoundIn cs (more_of-Plan p more) = AreBoundIn cs p × EachBoundIn cs more

-- the same columns, with further results behind
pub record Extends (cs ds : Columns) : Type 0 where
  pub tables : ds.tables ≡ cs.tables
  pub results : (i : ℕ) → i < length cs.results → slice_index_or ds.results i [] ≡ slice_index_or cs.results i []
  pub counted : length cs.results ≤ length ds.results

-- where the binder lets a statement through, it lets through the blocks of its plan, over columns with those of the relations, and of the statement itself, behind
abbrev pub PlansAreBound : Type 0
PlansAreBound = (c : Contents) (widths : ℕ → ℕ) (cs : Columns) (q : Query) → IsLaidStatement c widths q → IsOutermost q → IsScoped q → IsBoundStatement cs q →
    (ds : Columns) × Extends cs ds × (length ds.results ≡ first_free q + leaves_of q + 1) × AreBoundIn ds (whole_plan c q)

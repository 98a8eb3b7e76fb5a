-- A plan whose blocks are answered answers its statement.
use Rattle.std.specs.Prelude.{◌≡◌, ◌+◌, ℕ, length, ⊤}
use Rattle.std.specs.List.{AllByRecursion}
use Rattle.cq_tree.specs.declared.query.Query.{Query}
use Rattle.cq_meaning.specs.Values.{Row, Results, Tables, table_rows, result_at}
use Rattle.cq_meaning.specs.Queries.{AnswersWith}
use Rattle.cq_meaning_laws.specs.Settled.{IsSettled, IsSettledBelow}
use Rattle.cq_meaning_laws.specs.WholeRules.{Step, steps_of}
use Rattle.cq_catalog.specs.Contents.{Contents}
use Rattle.cq_catalog.specs.Placement.{place_at}
use Rattle.cq_planning.specs.Database.{shape_in}
use Rattle.cq_planning_laws.specs.Laid.{IsLaid, IsColumnOf}
use Rattle.cq_pushdown_laws.specs.Laws.{AreWide}
use Rattle.cq_one_plan.specs.declared.plan.Plan.{Plan, Plan', Row_of-Plan, end_of-Plan, more_of-Plan}
use Rattle.cq_one_plan.specs.Stays.{leaves_of}
use Rattle.cq_one_plan.specs.Plans.{whole_plan, first_free}

module _ (db : Tables) (rs : Results) where
  abbrev mutual
    -- the results of a plan and of all in it are answers of their blocks' queries, over the database and these results
    pub IsAnswered : Plan → Type 0
    IsAnswered (Plan' number n subplans planner parting combine tasks q touches grounds) = AreAnswered subplans × AnswersWith q db rs (result_at rs number)

    pub AreAnswered : {n : _} → Row_of-Plan n → Type 0
    AreAnswered end_of-Plan = ⊤
    AreAnswered (more_of-Plan p more) = IsAnswered p × AreAnswered more

  -- the result of a CTE or an IN subquery is an answer of it as it is bound
  abbrev pub StepAnswered : Step → Type 0
  StepAnswered s = AnswersWith s.query db rs (result_at rs s.number)

-- tables and results have the columns of the catalogue and of the statement
pub record IsBase (c : Contents) (widths : ℕ → ℕ) (db : Tables) (rs : Results) : Type 0 where
  pub tables : (t n : ℕ) → IsColumnOf n (place_at c t) → AllByRecursion (λ (row : Row). length row ≡ length (shape_in c t).kinds) (table_rows db t)
  pub results : AreWide widths rs

-- a CTE or an IN subquery that is bound, and is not cut without a full order
abbrev pub IsSound : Contents → (ℕ → ℕ) → Step → Type 0
IsSound c widths s = IsLaid c widths s.query × IsSettled s.query

-- where the blocks of a statement's plan are answered, so are its CTEs, its IN subqueries and the query itself, over the plan's results
abbrev pub PlansAnswer : Type 0
PlansAnswer = (c : Contents) (widths : ℕ → ℕ) (db : Tables) (rs : Results) (q : Query) → IsBase c widths db rs → IsLaid c widths q → IsSettledBelow q → AllByRecursion (IsSound c widths) (steps_of q) →
    IsAnswered db rs (whole_plan c q) → AnswersWith q db rs (result_at rs (first_free q + leaves_of q)) × AllByRecursion (StepAnswered db rs) (steps_of q)

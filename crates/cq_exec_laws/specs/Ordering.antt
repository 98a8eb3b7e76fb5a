-- Plans whose blocks read only what was computed before them, and the law that computing such a plan gives what it yields.
use Rattle.std.specs.Prelude.{◌+◌, ◌<◌, ◌⊎◌, ◌++◌, ⊤, ℕ, List, [], ◌∷◌, length}
use Rattle.cq_tree.specs.declared.query.Query.{Query}
use Rattle.cq_meaning.specs.Lists.{Has}
use Rattle.cq_meaning.specs.Values.{Results, result_at}
use Rattle.cq_catalog.specs.Contents.{Contents}
use Rattle.cq_planning.specs.Database.{Held}
use Rattle.cq_one_plan.specs.declared.plan.Plan.{Plan, Plan', Row_of-Plan, end_of-Plan, more_of-Plan}
use Rattle.cq_one_plan.specs.Stays.{leaves_of}
use Rattle.cq_one_plan.specs.Plans.{whole_plan, first_free}
use Rattle.cq_one_plan.specs.Yields.{IsDone, Yields, number_of}
use Rattle.cq_plan_laws.specs.Scoping.{QueryNames, IsScoped}
use Rattle.cq_plan_laws.specs.Nested.{IsNestedStatement}
use Rattle.cq_plan_laws.specs.Touching.{IsOutermost}
use Rattle.cq_exec_laws.specs.Computing.{Computes}

abbrev mutual
  -- the results that a plan and those below it set, in the order in which they are set
  pub set_by : Plan → List ℕ
  set_by (Plan' number n subplans planner parting combine tasks q touches grounds) = set_by_all subplans ++ number ∷ []

  pub set_by_all : {n : _} → Row_of-Plan n → List ℕ
  set_by_all end_of-Plan = []
  set_by_all (more_of-Plan p more) = set_by p ++ set_by_all more

abbrev mutual
  -- of so many results, of which some are set: each block names results that are set alone, and then sets another
  pub IsOrdered : ℕ → (ℕ → Type 0) → Plan → Type 0
  IsOrdered count P (Plan' number n subplans planner parting combine tasks q touches grounds) =
      AreOrdered count P subplans × QueryNames (λ i. P i ⊎ Has (set_by_all subplans) i) q × (number < count) × (P number ⊎ Has (set_by_all subplans) number → ⊥)

  pub AreOrdered : {n : _} → ℕ → (ℕ → Type 0) → Row_of-Plan n → Type 0
  AreOrdered count P end_of-Plan = ⊤
  AreOrdered count P (more_of-Plan p more) = IsOrdered count P p × AreOrdered count (λ i. P i ⊎ Has (set_by p) i) more

-- computing such a plan gives rows that it yields
abbrev pub ComputingYields : Type 0
ComputingYields = (c : Contents) (held : Held) (p : Plan) (rs after : Results) → IsOrdered (length rs) (λ i. ⊥) p → Computes c held rs p after →
    IsDone c held after p × Yields c held p (result_at after (number_of p))

-- ---- statements whose queries name the results that they see alone

-- their plans are such, beginning with no result that is set: of CTEs and IN subqueries, of relations, and of the query itself, which is the last
abbrev pub PlansAreOrdered : Type 0
PlansAreOrdered = (c : Contents) (q : Query) → IsNestedStatement q → IsOrdered (first_free q + leaves_of q + 1) (λ i. ⊥) (whole_plan c q)

-- each step names results of steps before it alone
abbrev pub NestedIsScoped : Type 0
NestedIsScoped = (q : Query) → IsNestedStatement q → IsScoped q

-- and WITH stands only before the outermost query
abbrev pub NestedIsOutermost : Type 0
NestedIsOutermost = (q : Query) → IsNestedStatement q → IsOutermost q

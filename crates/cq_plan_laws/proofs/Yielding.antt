-- All rows that a plan yields over captures are answers of its statement.
use Rattle.std.proofs.Common.{◌≡◌, ◌+◌, List, [], ◌∷◌, map, refl, sym, ap, subst, ◌∙◌}
use Rattle.cq_tree.specs.declared.plan.Combine.{Combine}
use Rattle.cq_tree.specs.declared.query.Query.{Query, Query'}
use Rattle.cq_meaning.specs.Values.{Row, Results, Tables, result_at}
use Rattle.cq_meaning.specs.Queries.{AnswersWith}
use Rattle.cq_meaning.specs.Results.{Answers}
use Rattle.cq_catalog.specs.Contents.{Contents}
use Rattle.cq_planning.specs.Database.{Held, whole}
use Rattle.cq_planning_laws.proofs.Statements.{table_wide, untouched_free}
use Rattle.cq_pushdown_laws.specs.Tables.{task_tables}
use Rattle.cq_one_plan.specs.declared.plan.Plan.{Plan, Plan', roll-Plan, Row_of-Plan, end_of-Plan, more_of-Plan}
use Rattle.cq_one_plan.specs.declared.plan.Plan.TheOpen.{Plan-F}
use Rattle.cq_one_plan.specs.Stays.{leaves_of}
use Rattle.cq_one_plan.specs.Plans.{whole_plan, first_free}
use Rattle.cq_one_plan.specs.Yields.{GivesFrom, IsDone, AreDone, read_by, number_of}
use Rattle.cq_plan_laws.specs.Composing.{IsAnswered, AreAnswered}
use Rattle.cq_plan_laws.specs.Yielding.{AllServe, EachServes, BlocksServe, PlansYield}
use Rattle.cq_plan_laws.proofs.Blocks.{one_task_serves, no_task_serves, group_tasks_serve, one_answer}
use Rattle.cq_plan_laws.proofs.Scoping.{statements_answer}

module _ (c : Contents) (held : Held) (rs : Results) where
  mutual
    pub served : (p : Plan) → AllServe c held rs p → IsDone c held rs p → IsAnswered (whole c held) rs p
    served (Plan' number n subplans planner parting combine tasks q touches grounds) s d = (each_served subplans s.0 d.0, s.1 (result_at rs number) d.1)

    each_served : {n : _} (ps : Row_of-Plan n) → EachServes c held rs ps → AreDone c held rs ps → AreAnswered (whole c held) rs ps
    each_served end_of-Plan s d = tt
    each_served (more_of-Plan p more) s d = (served p s.0 d.0, each_served more s.1 d.1)

pub blocks_serve : BlocksServe
blocks_serve c widths held rs parting kind q touches = (
  λ planner idle rows h. no_task_serves c widths q held rs rows idle.block idle.none h,
  λ task lone.
      (let one : (rows : List Row) → GivesFrom kind q rs (read_by c held task.group ∷ []) rows → AnswersWith q (whole c held) rs rows = λ rows h.
      one_task_serves c widths q held rs task.group rows lone.block (one_answer q rs (read_by c held task.group) rows (subst (λ (k : Combine). GivesFrom k q rs (read_by c held task.group ∷ []) rows) lone.kind_is h)) in
      (one, one, one)),
  λ task tasks pushed rows h.
      group_tasks_serve c widths q held rs pushed.groups rows pushed.block pushed.pushed pushed.ascending pushed.some
      (subst (λ (k : Combine). GivesFrom k q rs (map (task_tables c held) pushed.groups) rows) pushed.kind_is (subst (λ (dbs : List Tables). GivesFrom kind q rs dbs rows) pushed.reads h)),
)

number_rolled : (x : Plan-F Plan) → number_of (roll-Plan x) ≡ x.number
unfolding roll-Plan denote.Hole.Carrier.roll
number_rolled x = refl

number_is : (c : Contents) (q : Query) → number_of (whole_plan c q) ≡ first_free q + leaves_of q
number_is c (Query' cs ctes ss subs from filter_ grouped keys aggs having items shown distinct order limit offset names) = number_rolled _

pub plans_yield : PlansYield
plans_yield c widths q held other rows planned y wide serve can same =
    let here : Answers q (whole c held) (result_at y.0 (first_free q + leaves_of q)) =
    statements_answer c widths (whole c held) y.0 q (record { tables = λ t n k. table_wide c held planned.can t n k; results = wide }) planned.laid.0 planned.settled planned.sound planned.scoped (served c held y.0 (whole_plan c q) serve y.1) in
    let is : rows ≡ result_at y.0 (first_free q + leaves_of q) = y.2 ∙ ap (result_at y.0) (number_is c q) in
    let answers : Answers q (whole c held) rows = subst (Answers q (whole c held)) (sym is) here in
    (answers, untouched_free c widths q planned.catalog planned.laid held other planned.can can same rows answers)

-- The laws on subplans.
use Rattle.std.specs.Prelude.{◌≡◌, List, length, map, true, false}
use Rattle.std.specs.List.{list_any, AllByRecursion}
use Rattle.cq_tree.specs.declared.plan.Combine.{Combine}
use Rattle.cq_tree.specs.declared.plan.Combine.TheVariants.{Nothing}
use Rattle.cq_tree.specs.declared.query.Query.{Query, out-Query}
use Rattle.cq_meaning.specs.declared.Columns.{Columns}
use Rattle.cq_meaning.specs.Values.{Row, Results, Tables}
use Rattle.cq_meaning.specs.Queries.{from_rows, meaning, AnswersWith}
use Rattle.cq_meaning.specs.Results.{results_of, Answers}
use Rattle.cq_meaning.specs.Limits.{is_large}
use Rattle.cq_meaning.specs.Widths.{output_bits, IsBoundQuery, AllWithin, Holds}
use Rattle.cq_meaning_laws.specs.Settled.{AllSettled}
use Rattle.cq_meaning_laws.specs.WholeRules.{steps_of, no_results, has_large_step}
use Rattle.cq_task_laws.specs.Partial.{partial}
use Rattle.cq_task_laws.specs.Merging.{GathersTo, has_large_together}
use Rattle.cq_task_laws.specs.Gathering.{IsNonEmpty, Serves}
use Rattle.cq_subplan_laws.specs.Subplans.{AreAnswered, HasLarge}

-- where no subquery is cut without an order over all its outputs, an answer over the results of subplans is one of the statement
abbrev pub SubplansAnswer : Type 0
SubplansAnswer = (q : Query) (db : Tables) (results : Results) (rows : List Row) → AllSettled q → AreAnswered db (no_results q) (steps_of q) results →
    AnswersWith q db results rows → Answers q db rows

-- a group that is too large over these results is too large for the statement
abbrev pub SubplansLarge : Type 0
SubplansLarge = (q : Query) (db : Tables) (results : Results) → AllSettled q → AreAnswered db (no_results q) (steps_of q) results →
    is_large q db results ≡ true → is_large q db (results_of q db) ≡ true

-- so is one of a subplan
abbrev pub StepsLarge : Type 0
StepsLarge = (q : Query) (db : Tables) → AllSettled q → HasLarge db (no_results q) (steps_of q) → has_large_step db (no_results q) (steps_of q) ≡ true

-- what the tasks of a block come to over tables and results within their widths is within the block's widths, where no group of a task, or of all tasks together, is too large
abbrev pub TasksFit : Type 0
TasksFit = (cs : Columns) (kind : Combine) (q : Query) (results : Results) (dbs : List Tables) (rows : List Row) → (kind ≡ Nothing → ⊥) → IsBoundQuery cs q → length results ≡ length cs.results → IsNonEmpty dbs →
    AllByRecursion (λ db. Holds cs db results) dbs → Serves kind q results (map (λ db. from_rows (out-Query q).from 0 db results) dbs) → list_any (λ db. is_large (partial kind q) db results) dbs ≡ false →
    has_large_together kind q results (map (λ db. meaning (partial kind q) db results) dbs) ≡ false → GathersTo kind q results (map (λ db. meaning (partial kind q) db results) dbs) rows → AllWithin (output_bits cs q) rows

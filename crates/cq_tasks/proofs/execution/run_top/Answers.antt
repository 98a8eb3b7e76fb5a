use Rattle.std.proofs.Common.{rules, ◌≡◌, true, false, take, map, ap, subst, ◌∙◌}
use Rattle.std.specs.Prelude.{IfOk}
use Rattle.std.specs.List.{list_any}
use Rattle.std.proofs.lemmas.Result.{IfOk-weaker}
use Rattle.cq_tree.specs.declared.plan.Combine.TheVariants.{RowsOnly}
use Rattle.cq_tree.specs.declared.query.Query.{out-Query}
use Rattle.cq_tree.specs.declared.query.QueryError.TheVariants as QueryError
use Rattle.cq_meaning.specs.Limits.{is_large}
use Rattle.cq_meaning.specs.Sorting.{keys_cmp, sorted}
use Rattle.cq_meaning.specs.Queries.{meaning, AnswersWith}
use Rattle.cq_task_laws.specs.Partial.{partial}
use Rattle.cq_task_laws.specs.Merging.{joined, merging_rows, as_table}
use Rattle.cq_tasks.specs.Execution.{reads_at, task_rows, has_large_task}
use Rattle.cq_tasks.proofs.TopLaws.{tops_gather}
use Rattle.cq_tasks.proofs.execution.run_top.Goals as goal

pub returns-in_err-first-clause-err : goal.returns-in_err-first-clause-err
returns-in_err-first-clause-err c =
    let task : c.in_ok-task.task ≡ partial RowsOnly c.args.query.now = search rules in
    let dbs = reads_at c.args.beside.now c.args.parts.now c.args.places.now in
    let large : c.in_err-first.field-0.0 ≡ QueryError.Rows → has_large_task RowsOnly c.args.query.now c.args.results.now dbs ≡ true =
    λ r. subst (λ t. list_any (λ db. is_large t db c.args.results.now) dbs ≡ true) task (c.in_err-first.ensures.err r) in
    search (rules, large)

pub returns-clause-gathers : goal.returns-clause-gathers
returns-clause-gathers c =
    let q = c.args.query.now in
    let p = out-Query q in
    let rs = c.args.results.now in
    let dbs = reads_at c.args.beside.now c.args.parts.now c.args.places.now in
    let task : c.in_ok-task.task ≡ partial RowsOnly q = search rules in
    let keys : c.as_slice-keys.result.now ≡ p.order = c.as_slice-keys.ensures in
    let first : c.in_ok-first.field-0 ≡ take c.args.most (sorted (keys_cmp p.order) (joined (task_rows RowsOnly q rs dbs))) =
    c.in_ok-first.ensures.rows
    ∙ (ap (λ t. take c.args.most (sorted (keys_cmp c.as_slice-keys.result.now) (joined (map (λ db. meaning t db rs) dbs)))) task
    ∙ ap (λ ks. take c.args.most (sorted (keys_cmp ks) (joined (task_rows RowsOnly q rs dbs)))) keys) in
    let made : IfOk c.cut_by.result (λ rows. AnswersWith (merging_rows false q) (as_table (joined (task_rows RowsOnly q rs dbs))) rs rows) =
    IfOk-weaker c.cut_by.result _ _ (λ rows e. tops_gather q rs dbs c.args.most c.in_ok-first.field-0 rows c.requires.enough first e) c.cut_by.ensures in
    search (rules, made)

pub returns-clause-fits : goal.returns-clause-fits
returns-clause-fits c =
    let task : c.in_ok-task.task ≡ partial RowsOnly c.args.query.now = search rules in
    let dbs = reads_at c.args.beside.now c.args.parts.now c.args.places.now in
    let small : has_large_task RowsOnly c.args.query.now c.args.results.now dbs ≡ false =
    subst (λ t. list_any (λ db. is_large t db c.args.results.now) dbs ≡ false) task c.in_ok-first.ensures.fits in
    search (rules, small)

use Rattle.std.proofs.Common.{rules, ◌≡◌, true, false, map, subst, sym, ap, ◌∙◌, inl, inr}
use Rattle.std.specs.Prelude.{◌⊎◌, IfOk}
use Rattle.std.specs.List.{list_any}
use Rattle.std.proofs.lemmas.Result.{IfErr-weaker, IfOk-weaker}
use Rattle.cq_meaning.specs.Limits.{is_large}
use Rattle.cq_meaning.specs.Queries.{meaning}
use Rattle.cq_task_laws.specs.Partial.{partial}
use Rattle.cq_task_laws.specs.Merging.{GathersTo, has_large_together}
use Rattle.cq_task_laws.specs.Counting.{CanMerge}
use Rattle.cq_tasks.specs.Execution.{reads_at, task_rows, has_large_task}
use Rattle.cq_tasks.proofs.execution.run_all.Goals as goal

pub returns-in_err-rows-clause-err : goal.returns-in_err-rows-clause-err
returns-in_err-rows-clause-err c =
    let task : c.in_ok-task.task ≡ partial c.args.kind c.args.query.now = search rules in
    let h : list_any (λ db. is_large c.in_ok-task.task db c.args.results.now) (reads_at c.args.beside.now c.args.parts.now c.args.places.now) ≡ true →
    (has_large_task c.args.kind c.args.query.now c.args.results.now (reads_at c.args.beside.now c.args.parts.now c.args.places.now) ≡ true) ⊎ (has_large_together c.args.kind c.args.query.now c.args.results.now (task_rows c.args.kind c.args.query.now c.args.results.now (reads_at c.args.beside.now c.args.parts.now c.args.places.now)) ≡ true) =
    λ e. inl (subst (λ t. list_any (λ db. is_large t db c.args.results.now) (reads_at c.args.beside.now c.args.parts.now c.args.places.now) ≡ true) task e) in
    search (rules, h)

pub combine-requires : goal.combine-requires
combine-requires c =
    let task : c.in_ok-task.task ≡ partial c.args.kind c.args.query.now = search rules in
    let rows : c.in_ok-rows.field-0 ≡ task_rows c.args.kind c.args.query.now c.args.results.now (reads_at c.args.beside.now c.args.parts.now c.args.places.now) =
    c.in_ok-rows.ensures.rows ∙ ap (λ t. map (λ db. meaning t db c.args.results.now) (reads_at c.args.beside.now c.args.parts.now c.args.places.now)) task in
    let small : has_large_task c.args.kind c.args.query.now c.args.results.now (reads_at c.args.beside.now c.args.parts.now c.args.places.now) ≡ false =
    subst (λ t. list_any (λ db. is_large t db c.args.results.now) (reads_at c.args.beside.now c.args.parts.now c.args.places.now) ≡ false) task c.in_ok-rows.ensures.fits in
    subst (CanMerge c.args.kind c.args.query.now c.args.results.now) (sym rows) (c.requires.merge small)

pub returns-clause-gathers : goal.returns-clause-gathers
returns-clause-gathers c =
    let task : c.in_ok-task.task ≡ partial c.args.kind c.args.query.now = search rules in
    let rows : c.in_ok-rows.field-0 ≡ task_rows c.args.kind c.args.query.now c.args.results.now (reads_at c.args.beside.now c.args.parts.now c.args.places.now) =
    c.in_ok-rows.ensures.rows ∙ ap (λ t. map (λ db. meaning t db c.args.results.now) (reads_at c.args.beside.now c.args.parts.now c.args.places.now)) task in
    subst (λ parts. IfOk c.combine.result (λ made. GathersTo c.args.kind c.args.query.now c.args.results.now parts made)) rows c.combine.ensures.ok

pub returns-clause-err : goal.returns-clause-err
returns-clause-err c =
    let task : c.in_ok-task.task ≡ partial c.args.kind c.args.query.now = search rules in
    let rows : c.in_ok-rows.field-0 ≡ task_rows c.args.kind c.args.query.now c.args.results.now (reads_at c.args.beside.now c.args.parts.now c.args.places.now) =
    c.in_ok-rows.ensures.rows ∙ ap (λ t. map (λ db. meaning t db c.args.results.now) (reads_at c.args.beside.now c.args.parts.now c.args.places.now)) task in
    IfErr-weaker c.combine.result _ _ (λ e h r. inr (subst (λ parts. has_large_together c.args.kind c.args.query.now c.args.results.now parts ≡ true) rows (h r))) c.combine.ensures.err

pub returns-clause-fits : goal.returns-clause-fits
returns-clause-fits c =
    let task : c.in_ok-task.task ≡ partial c.args.kind c.args.query.now = search rules in
    let rows : c.in_ok-rows.field-0 ≡ task_rows c.args.kind c.args.query.now c.args.results.now (reads_at c.args.beside.now c.args.parts.now c.args.places.now) =
    c.in_ok-rows.ensures.rows ∙ ap (λ t. map (λ db. meaning t db c.args.results.now) (reads_at c.args.beside.now c.args.parts.now c.args.places.now)) task in
    let small : has_large_task c.args.kind c.args.query.now c.args.results.now (reads_at c.args.beside.now c.args.parts.now c.args.places.now) ≡ false =
    subst (λ t. list_any (λ db. is_large t db c.args.results.now) (reads_at c.args.beside.now c.args.parts.now c.args.places.now) ≡ false) task c.in_ok-rows.ensures.fits in
    IfOk-weaker c.combine.result _ _ (λ r f. (small, subst (λ parts. has_large_together c.args.kind c.args.query.now c.args.results.now parts ≡ false) rows f)) c.combine.ensures.fits

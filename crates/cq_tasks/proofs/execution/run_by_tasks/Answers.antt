use Rattle.std.proofs.Common.{rules, ◌≡◌, ◌<◌, length, true, false, sym, ap, ◌∙◌, subst, arith}
use Rattle.std.specs.Prelude.{◌⊎◌, IfOk, IfErr}
use Rattle.std.specs.List.{range_with_len, AllByRecursion}
use Rattle.cq_tree.specs.declared.query.QueryError.TheVariants as QueryError
use Rattle.cq_meaning.specs.Safety.{IsSafeQuery}
use Rattle.cq_task_laws.specs.Partial.{partial}
use Rattle.cq_task_laws.specs.Merging.{GathersTo, has_large_together}
use Rattle.cq_task_laws.specs.Counting.{CanMerge}
use Rattle.cq_tasks.specs.Execution.{reads_by, reads_at, parts_at, task_rows, has_large_task}
use Rattle.cq_tasks.proofs.Parts.{all_there, all_read}
use Rattle.cq_tasks.proofs.execution.run_by_tasks.Goals as goal

pub run_at-requires-clause-there : goal.run_at-requires-clause-there
run_at-requires-clause-there c =
    let parts = c.args.parts.now in
    let all : c.as_slice.result.now ≡ range_with_len 0 (length parts) = search rules in
    subst (λ ps. AllByRecursion (λ i. i < length parts) ps) (sym all) (all_there 0 (length parts) (length parts) (omega arith))

pub run_at-requires-clause-tasks : goal.run_at-requires-clause-tasks
run_at-requires-clause-tasks c =
    let parts = c.args.parts.now in
    let beside = c.args.beside.now in
    let all : c.as_slice.result.now ≡ range_with_len 0 (length parts) = search rules in
    let e : reads_at beside parts c.as_slice.result.now ≡ reads_by beside parts = ap (λ ps. reads_by beside (parts_at parts ps)) all ∙ ap (reads_by beside) (all_read parts) in
    subst (λ dbs. AllByRecursion (λ db. IsSafeQuery (partial c.args.kind c.args.query.now) db c.args.results.now) dbs) (sym e) c.requires.tasks

pub run_at-requires-clause-merge : goal.run_at-requires-clause-merge
run_at-requires-clause-merge c =
    let parts = c.args.parts.now in
    let beside = c.args.beside.now in
    let q = c.args.query.now in
    let rs = c.args.results.now in
    let all : c.as_slice.result.now ≡ range_with_len 0 (length parts) = search rules in
    let e : reads_at beside parts c.as_slice.result.now ≡ reads_by beside parts = ap (λ ps. reads_by beside (parts_at parts ps)) all ∙ ap (reads_by beside) (all_read parts) in
    subst (λ dbs. has_large_task c.args.kind q rs dbs ≡ false → CanMerge c.args.kind q rs (task_rows c.args.kind q rs dbs)) (sym e) c.requires.merge

pub returns-clause-gathers : goal.returns-clause-gathers
returns-clause-gathers c =
    let parts = c.args.parts.now in
    let beside = c.args.beside.now in
    let q = c.args.query.now in
    let rs = c.args.results.now in
    let all : c.as_slice.result.now ≡ range_with_len 0 (length parts) = search rules in
    let e : reads_at beside parts c.as_slice.result.now ≡ reads_by beside parts = ap (λ ps. reads_by beside (parts_at parts ps)) all ∙ ap (reads_by beside) (all_read parts) in
    subst (λ dbs. IfOk c.run_at.result (λ rows. GathersTo c.args.kind q rs (task_rows c.args.kind q rs dbs) rows)) e c.run_at.ensures.gathers

pub returns-clause-fits : goal.returns-clause-fits
returns-clause-fits c =
    let parts = c.args.parts.now in
    let beside = c.args.beside.now in
    let q = c.args.query.now in
    let rs = c.args.results.now in
    let all : c.as_slice.result.now ≡ range_with_len 0 (length parts) = search rules in
    let e : reads_at beside parts c.as_slice.result.now ≡ reads_by beside parts = ap (λ ps. reads_by beside (parts_at parts ps)) all ∙ ap (reads_by beside) (all_read parts) in
    subst (λ dbs. IfOk c.run_at.result (λ rows. (has_large_task c.args.kind q rs dbs ≡ false) × (has_large_together c.args.kind q rs (task_rows c.args.kind q rs dbs) ≡ false))) e c.run_at.ensures.fits

pub returns-clause-err : goal.returns-clause-err
returns-clause-err c =
    let parts = c.args.parts.now in
    let beside = c.args.beside.now in
    let q = c.args.query.now in
    let rs = c.args.results.now in
    let all : c.as_slice.result.now ≡ range_with_len 0 (length parts) = search rules in
    let e : reads_at beside parts c.as_slice.result.now ≡ reads_by beside parts = ap (λ ps. reads_by beside (parts_at parts ps)) all ∙ ap (reads_by beside) (all_read parts) in
    subst (λ dbs. IfErr c.run_at.result (λ r. r ≡ QueryError.Rows → (has_large_task c.args.kind q rs dbs ≡ true) ⊎ (has_large_together c.args.kind q rs (task_rows c.args.kind q rs dbs) ≡ true))) e c.run_at.ensures.err

use Rattle.std.proofs.Common.{rules, ◌≡◌, ◌+◌, ◌-◌, ◌<◌, ℕ, true, false, ◌++◌, length, get_or, set, sym, ap, subst, ◌∙◌, arith}
use Rattle.std.specs.List.{list_any}
use Rattle.std.proofs.lemmas.List.{set-get_or}
use Rattle.cq_tree.specs.declared.query.QueryError.TheVariants as QueryError
use Rattle.cq_meaning.specs.Limits.{is_large}
use Rattle.cq_meaning.specs.Queries.{meaning}
use Rattle.cq_meaning.specs.Values.{Tables}
use Rattle.cq_meaning.specs.Safety.{IsSafeQuery}
use Rattle.cq_queries.specs.declared.wanted.Top.{Top}
use Rattle.cq_queries.specs.Wanted.{top_of}
use Rattle.cq_tasks.specs.Execution.{parts_at, reads_by}
use Rattle.cq_tasks.proofs.Parts.{count_parts, place_below, picked, read_at, any_at}
use Rattle.cq_tasks.proofs.TopLaws.{tops_step, large_step}
use Rattle.cq_tasks.proofs.execution.top_of_tasks.Goals as goal

pub run_task-requires-clause-safe : goal.run_task-requires-clause-safe
run_task-requires-clause-safe c =
    let own = c.index_mut-part.result.now in
    let i : ℕ = c.task.at - 1 in
    let parts = c.args.parts.now in
    let places = c.args.places.now in
    let place : ℕ = get_or places i 0 in
    let below : i < length places = omega (arith, c.task.invariant.within, c.task-test.true) in
    let within : place < length parts = place_below parts places i place below (search rules) c.requires.there in
    let here : own ≡ get_or c.task.own.items place own = search rules in
    let is : own ≡ get_or (parts_at parts places) i own = picked parts places i place own below (search rules) within (here ∙ ap (λ ps. get_or ps place own) c.task.invariant.own) in
    let there : i < length (parts_at parts places) = omega (arith, below, count_parts parts places) in
    subst (λ ts. IsSafeQuery c.args.task.now (ts ++ own) c.args.results.now) (sym c.task.invariant.beside)
    (read_at c.args.beside.now (λ db. IsSafeQuery c.args.task.now db c.args.results.now) (parts_at parts places) i own there is c.requires.tasks)

pub returns-in_err-behind-clause-err : goal.returns-in_err-behind-clause-err
returns-in_err-behind-clause-err c =
    let own = c.index_mut-part.result.now in
    let i : ℕ = c.task.at - 1 in
    let parts = c.args.parts.now in
    let places = c.args.places.now in
    let place : ℕ = get_or places i 0 in
    let below : i < length places = omega (arith, c.task.invariant.within, c.task-test.true) in
    let within : place < length parts = place_below parts places i place below (search rules) c.requires.there in
    let here : own ≡ get_or c.task.own.items place own = search rules in
    let is : own ≡ get_or (parts_at parts places) i own = picked parts places i place own below (search rules) within (here ∙ ap (λ ps. get_or ps place own) c.task.invariant.own) in
    let there : i < length (parts_at parts places) = omega (arith, below, count_parts parts places) in
    let p = λ (db : Tables). is_large c.args.task.now db c.args.results.now in
    let large : c.in_err-behind.field-0.0 ≡ QueryError.Rows → list_any p (reads_by c.args.beside.now (parts_at parts places)) ≡ true =
    λ r. any_at c.args.beside.now p (parts_at parts places) i own there is (subst (λ ts. p (ts ++ own) ≡ true) c.task.invariant.beside (c.in_err-behind.ensures.err r)) in
    search (rules, large)

pub task-preserved : goal.task-preserved
task-preserved c =
    let own = c.index_mut-part.result.now in
    let i : ℕ = c.task.at - 1 in
    let parts = c.args.parts.now in
    let places = c.args.places.now in
    let place : ℕ = get_or places i 0 in
    let below : i < length places = omega (arith, c.task.invariant.within, c.task-test.true) in
    let within : place < length parts = place_below parts places i place below (search rules) c.requires.there in
    let here : own ≡ get_or c.task.own.items place own = search rules in
    let is : own ≡ get_or (parts_at parts places) i own = picked parts places i place own below (search rules) within (here ∙ ap (λ ps. get_or ps place own) c.task.invariant.own) in
    let there : i < length (parts_at parts places) = omega (arith, below, count_parts parts places) in
    let next : c.task.at ≡ i + 1 = omega (arith, c.task-test.true) in
    let f = λ (db : Tables). meaning c.args.task.now db c.args.results.now in
    let top : Top = record { keys = c.args.keys; most = c.args.most; behind = c.task.behind } in
    let made : c.in_ok-behind.behind ≡ top_of top (f (c.task.beside ++ own)) = c.in_ok-behind.ensures.rows in
    let lent = c.in_ok-behind.ensures.lent in
    record {
      within = omega (arith, c.task.invariant.within);
      beside = lent.0 ∙ c.task.invariant.beside;
      own = ap (set c.task.own.items place) (lent.1 ∙ here) ∙ (set-get_or c.task.own.items place own ∙ c.task.invariant.own);
      behind = made ∙ (ap (λ ts. top_of top (f (ts ++ own))) c.task.invariant.beside ∙ tops_step f c.args.beside.now (parts_at parts places) c.task.at i own there next is top c.task.invariant.behind);
      small =
          large_step f c.args.beside.now (parts_at parts places) c.task.at i own there next is (λ db. is_large c.args.task.now db c.args.results.now)
          (subst (λ ts. is_large c.args.task.now (ts ++ own) c.args.results.now ≡ false) c.task.invariant.beside c.in_ok-behind.ensures.fits) c.task.invariant.small;
    }

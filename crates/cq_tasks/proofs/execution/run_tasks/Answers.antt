use Rattle.std.proofs.Common.{rules, ◌≡◌, ◌<◌, ◌+◌, ℕ, true, false, [], ◌∷◌, ◌++◌, length, map, take, get_or, set, sym, ap, ◌∙◌, subst, arith}
use Rattle.std.specs.List.{list_any}
use Rattle.std.proofs.lemmas.List.{set-get_or}
use Rattle.cq_tree.specs.declared.query.QueryError.TheVariants as QueryError
use Rattle.cq_meaning.specs.Limits.{is_large}
use Rattle.cq_meaning.specs.Queries.{meaning}
use Rattle.cq_meaning.specs.Values.{Tables}
use Rattle.cq_meaning.specs.Safety.{IsSafeQuery}
use Rattle.cq_tasks.specs.Execution.{parts_at, reads_by}
use Rattle.cq_tasks.proofs.Parts.{all_taken, at_default, count_parts, place_below, picked, all_more, none_more, read_at, any_at}
use Rattle.cq_tasks.proofs.execution.run_tasks.Goals as goal

pub run_task-requires-clause-safe : goal.run_task-requires-clause-safe
run_task-requires-clause-safe c =
    let own = c.index_mut-part.result.now in
    let i = c.loop-place.place-index in
    let parts = c.args.parts.now in
    let places = c.args.places.now in
    let place : ℕ = get_or places i 0 in
    let below : i < length places = c.loop-place-test.true in
    let within : place < length parts = place_below parts places i place below (at_default places i below) c.requires.there in
    let here : own ≡ get_or c.loop-place.own.items place own = c.index_mut-part.ensures.value in
    let is : own ≡ get_or (parts_at parts places) i own = picked parts places i place own below (at_default places i below) within (here ∙ ap (λ ps. get_or ps place own) c.loop-place.invariant.own) in
    let there : i < length (parts_at parts places) = omega (arith, below, count_parts parts places) in
    subst (λ ts. IsSafeQuery c.args.task.now (ts ++ own) c.args.results.now) (sym c.loop-place.invariant.beside)
    (read_at c.args.beside.now (λ db. IsSafeQuery c.args.task.now db c.args.results.now) (parts_at parts places) i own there is c.requires.tasks)

pub returns-in_err-rows-clause-err : goal.returns-in_err-rows-clause-err
returns-in_err-rows-clause-err c =
    let own = c.index_mut-part.result.now in
    let i = c.loop-place.place-index in
    let parts = c.args.parts.now in
    let places = c.args.places.now in
    let place : ℕ = get_or places i 0 in
    let below : i < length places = c.loop-place-test.true in
    let within : place < length parts = place_below parts places i place below (at_default places i below) c.requires.there in
    let here : own ≡ get_or c.loop-place.own.items place own = c.index_mut-part.ensures.value in
    let is : own ≡ get_or (parts_at parts places) i own = picked parts places i place own below (at_default places i below) within (here ∙ ap (λ ps. get_or ps place own) c.loop-place.invariant.own) in
    let there : i < length (parts_at parts places) = omega (arith, below, count_parts parts places) in
    let p = λ (db : Tables). is_large c.args.task.now db c.args.results.now in
    let large : c.in_err-rows.field-0.0 ≡ QueryError.Rows → list_any p (reads_by c.args.beside.now (parts_at parts places)) ≡ true =
    λ r. any_at c.args.beside.now p (parts_at parts places) i own there is (subst (λ ts. p (ts ++ own) ≡ true) c.loop-place.invariant.beside (c.in_err-rows.ensures.err r)) in
    search (rules, large)

pub loop-place-preserved : goal.loop-place-preserved
loop-place-preserved c =
    let own = c.index_mut-part.result.now in
    let i = c.loop-place.place-index in
    let parts = c.args.parts.now in
    let places = c.args.places.now in
    let place : ℕ = get_or places i 0 in
    let below : i < length places = c.loop-place-test.true in
    let within : place < length parts = place_below parts places i place below (at_default places i below) c.requires.there in
    let here : own ≡ get_or c.loop-place.own.items place own = c.index_mut-part.ensures.value in
    let is : own ≡ get_or (parts_at parts places) i own = picked parts places i place own below (at_default places i below) within (here ∙ ap (λ ps. get_or ps place own) c.loop-place.invariant.own) in
    let there : i < length (parts_at parts places) = omega (arith, below, count_parts parts places) in
    let f = λ (db : Tables). meaning c.args.task.now db c.args.results.now in
    let large = λ (db : Tables). is_large c.args.task.now db c.args.results.now in
    let lent = c.in_ok-rows.ensures.lent in
    let put : c.put.new.self ≡ c.loop-place.all ++ c.in_ok-rows.rows ∷ [] = search rules in
    record {
      beside = lent.0 ∙ c.loop-place.invariant.beside;
      own = ap (set c.loop-place.own.items place) (lent.1 ∙ here) ∙ (set-get_or c.loop-place.own.items place own ∙ c.loop-place.invariant.own);
      rows =
          put
          ∙ (ap (λ rows. c.loop-place.all ++ rows ∷ []) (c.in_ok-rows.ensures.rows ∙ ap (λ ts. f (ts ++ own)) c.loop-place.invariant.beside)
          ∙ (ap (λ all. all ++ f (c.args.beside.now ++ own) ∷ []) c.loop-place.invariant.rows ∙ sym (all_more c.args.beside.now f (parts_at parts places) i own there is)));
      small =
          none_more c.args.beside.now large (parts_at parts places) i own there is c.loop-place.invariant.small
          (subst (λ ts. large (ts ++ own) ≡ false) c.loop-place.invariant.beside c.in_ok-rows.ensures.fits);
    }

pub returns-clause-rows : goal.returns-clause-rows
returns-clause-rows c =
    let all = parts_at c.args.parts.now c.args.places.now in
    let whole : take c.loop-place.place-index all ≡ all = all_taken all c.loop-place.place-index (omega (arith, c.loop-place-test.false, count_parts c.args.parts.now c.args.places.now)) in
    c.loop-place.invariant.rows ∙ ap (λ ps. map (λ db. meaning c.args.task.now db c.args.results.now) (reads_by c.args.beside.now ps)) whole

pub returns-clause-fits : goal.returns-clause-fits
returns-clause-fits c =
    let all = parts_at c.args.parts.now c.args.places.now in
    let whole : take c.loop-place.place-index all ≡ all = all_taken all c.loop-place.place-index (omega (arith, c.loop-place-test.false, count_parts c.args.parts.now c.args.places.now)) in
    subst (λ ps. list_any (λ db. is_large c.args.task.now db c.args.results.now) (reads_by c.args.beside.now ps) ≡ false) whole c.loop-place.invariant.small

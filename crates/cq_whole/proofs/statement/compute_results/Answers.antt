use Rattle.std.proofs.Common.{◌∙◌}
use Rattle.std.proofs.lemmas.Result.{IfOk-weaker, IfErr-weaker}
use Rattle.cq_whole.proofs.NumberLaws.{schedule_safe, schedule_placed, schedule_results, schedule_large}
use Rattle.cq_whole.proofs.statement.compute_results.Goals as goal

pub run_steps-requires-clause-safe : goal.run_steps-requires-clause-safe
run_steps-requires-clause-safe c =
    let a = rw c.in_ok-steps.ensures at c.steps_of.ensures in
    schedule_safe c.args.tables.now c.args.q.now c.as_slice.result.now c.in_ok-steps.field-0.results (c.as_slice.ensures ∙ a.0) a.1 c.requires

pub run_steps-requires-clause-placed : goal.run_steps-requires-clause-placed
run_steps-requires-clause-placed c =
    let a = rw c.in_ok-steps.ensures at c.steps_of.ensures in
    schedule_placed c.args.tables.now c.args.q.now c.as_slice.result.now c.in_ok-steps.field-0.results (c.as_slice.ensures ∙ a.0) a.1

pub returns-clause-ok : goal.returns-clause-ok
returns-clause-ok c =
    let a = rw c.in_ok-steps.ensures at c.steps_of.ensures in
    IfOk-weaker c.run_steps.result _ _
    (λ all h. (
      schedule_results c.args.tables.now c.args.q.now c.as_slice.result.now c.in_ok-steps.field-0.results (c.as_slice.ensures ∙ a.0) a.1 all h.0,
      schedule_large c.args.tables.now c.args.q.now c.as_slice.result.now c.in_ok-steps.field-0.results (c.as_slice.ensures ∙ a.0) a.1 ∙ h.1,
    ))
    c.run_steps.ensures.ok

pub returns-clause-err : goal.returns-clause-err
returns-clause-err c =
    let a = rw c.in_ok-steps.ensures at c.steps_of.ensures in
    IfErr-weaker c.run_steps.result _ _ (λ x h rows. schedule_large c.args.tables.now c.args.q.now c.as_slice.result.now c.in_ok-steps.field-0.results (c.as_slice.ensures ∙ a.0) a.1 ∙ h rows) c.run_steps.ensures.err

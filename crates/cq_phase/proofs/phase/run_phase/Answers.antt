use Rattle.std.proofs.Common.{◌∙◌, sym, subst}
use Rattle.cq_phase.specs.Phases.{IsRunning}
use Rattle.cq_phase.proofs.RunLaws.{running_after}
use Rattle.cq_phase.proofs.phase.run_phase.Goals as goal

pub returns-clause-running : goal.returns-clause-running
returns-clause-running g c = λ initial entry r.
    let state = g.S.Store.state in
    let old = c.args.coordinator.now in
    let new = c.answer_all-ran.new.coordinator in
    subst (IsRunning state initial entry new) (sym c.from_vec.ensures)
    (running_after state initial entry old new c.args.phase.now c.into_vec-log.result.items c.answer_all-ran.new.log.items c.answer_all-ran.result c.answer_all-ran.ensures.ok c.answer_all-ran.ensures.err
    (subst (IsRunning state initial entry old) (sym (c.into_vec-log.ensures ∙ c.replace.ensures.value)) r))

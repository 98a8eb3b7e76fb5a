use Rattle.std.proofs.Common.{◌∙◌, List, [], ◌∷◌, ◌++◌, sym, ap}
use Rattle.cq_answer.specs.declared.answered.Answered.{Answered}
use Rattle.cq_phase.proofs.RunLaws.{running_ready, runs_one}
use Rattle.cq_phase.proofs.phase.answer_all.Goals as goal

pub answer-requires-clause-ready : goal.answer-requires-clause-ready
answer-requires-clause-ready g c κs within = running_ready g.S.Store.state c.requires.running.0 c.requires.running.1 c.args.coordinator.now c.args.log.now.items c.requires.running.2

pub returns-in-Some-clause-ok : goal.returns-in-Some-clause-ok
returns-in-Some-clause-ok g c =
    runs_one g.S.Store.state c.args.coordinator.now c.answer.new.coordinator c.args.log.now.items c.push_reserved.new.self.items c.args.phase.now c.in-Some.placed.now c.answer.result c.requires.next
    (sym c.in-Some.ensures.value) c.if-placed-eq0.true c.answer.ensures.turn c.answer.ensures.answers (c.push_reserved.ensures.items ∙ ap (λ (v : List Answered). v ++ c.answer.result ∷ []) c.reserve.ensures.items)
